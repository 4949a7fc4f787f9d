pub mod Labels
pub mod Linked
pub mod Walked
mod Added
pub mod More
mod Front
mod Grown
pub mod Crossing
pub mod Pieces
pub mod Numbered
