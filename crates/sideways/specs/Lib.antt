pub mod Questions
pub mod Refusals
pub mod Searches
pub mod Counted
pub mod Kept
pub mod Parts
