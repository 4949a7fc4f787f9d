pub mod Spelling
pub mod Reading
pub mod Index
pub mod Lookups
