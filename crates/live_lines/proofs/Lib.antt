pub mod Lines
pub mod Orders
pub mod Steps
pub mod Items
pub mod Opened
pub mod Kept
mod Samples
