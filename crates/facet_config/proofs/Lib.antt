mod Lookups
pub mod Expanded
pub mod Different
pub mod Staying
