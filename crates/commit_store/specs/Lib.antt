pub mod Committing
pub mod Committers
pub mod Promised
