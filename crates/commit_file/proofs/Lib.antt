pub mod Each
pub mod Rising
pub mod Ordering
pub mod Puts
pub mod Digests
pub mod LiveBytes
pub mod Again
pub mod Found
mod Samples
