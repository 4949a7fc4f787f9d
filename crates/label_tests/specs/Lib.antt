pub mod Plain
pub mod Columns
