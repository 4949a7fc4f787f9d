mod Places
pub mod Differ
mod Growing
mod Sizes
