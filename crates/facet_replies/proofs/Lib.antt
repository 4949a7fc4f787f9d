pub mod Floats
mod Roots
pub mod Placed
pub mod Samples
