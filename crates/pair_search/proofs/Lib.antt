pub mod Found
pub mod Searched
pub mod Stored
pub mod Numbered
