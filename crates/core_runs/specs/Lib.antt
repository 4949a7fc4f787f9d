pub mod Possible
pub mod Moves
pub mod CoreRuns
