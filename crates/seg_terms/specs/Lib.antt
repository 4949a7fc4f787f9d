pub mod Entries
pub mod Places
pub mod Noting
pub mod Laws
