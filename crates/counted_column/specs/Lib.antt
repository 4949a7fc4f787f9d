pub mod Columns
pub mod Making
