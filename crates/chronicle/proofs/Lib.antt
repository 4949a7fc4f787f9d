pub mod Prefixes
pub mod Entries
mod Seats
mod Keeping
mod Turning
mod Telling
mod Resting
pub mod Crossing
