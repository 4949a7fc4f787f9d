pub mod Generated
pub mod Summaries
pub mod Tallies
