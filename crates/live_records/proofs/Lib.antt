pub mod Alive
pub mod Ranks
pub mod Added
