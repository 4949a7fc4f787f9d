pub mod Passing
pub mod Counting
