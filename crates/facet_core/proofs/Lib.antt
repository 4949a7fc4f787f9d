pub mod Roots
pub mod Kept
pub mod KeptLabels
pub mod KeptOperations
pub mod KeptCrash
pub mod KeptDevice
pub mod Interleavings
pub mod Promises
pub mod After
mod Rows
