pub mod Moved
pub mod Merged
pub mod Laws
pub mod Walk
