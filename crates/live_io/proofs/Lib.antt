pub mod Puts
pub mod Feeds
pub mod Unreads
mod Notes
