pub mod Decoded
pub mod Fronts
pub mod Search
pub mod Live
