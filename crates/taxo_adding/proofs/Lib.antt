pub mod Ordinals
pub mod Entering
pub mod Several
pub mod Growing
pub mod Crossing
