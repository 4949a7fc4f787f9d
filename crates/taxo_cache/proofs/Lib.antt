pub mod Seen
mod Kept
pub mod Remembered
pub mod Crossing
