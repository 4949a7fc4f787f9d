pub mod Places
pub mod Faults
pub mod Spelling
pub mod Reading
pub mod Writing
pub mod Lists
pub mod Laws
