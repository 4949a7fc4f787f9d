pub mod Bounds
pub mod Carrying
pub mod Early
pub mod Fitting
pub mod Images
pub mod Names
pub mod Newest
pub mod Plans
pub mod Reaching
pub mod Runs
pub mod Tellings
mod Looping
mod Stopping
