pub mod Puts
mod Facts
pub mod Limits
