pub mod Promises
pub mod Listed
pub mod Carried
