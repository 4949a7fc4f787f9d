pub mod Keeping
pub mod Standing
pub mod Crossing
pub mod Counting
mod Installing
mod Placing
