pub mod Narrowed
pub mod Walked
