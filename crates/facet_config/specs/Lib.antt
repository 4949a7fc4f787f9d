pub mod Declarations
pub mod Faults
pub mod Expanding
pub mod Differences
