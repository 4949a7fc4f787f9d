pub mod Entered
pub mod Tried
