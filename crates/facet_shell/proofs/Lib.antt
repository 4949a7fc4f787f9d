pub mod Sources
pub mod Early
pub mod Served
