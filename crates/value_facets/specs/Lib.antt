pub mod Cuts
pub mod Hits
pub mod Marking
pub mod QueryCodes
pub mod Ranging
pub mod Summing
pub mod Tallying
