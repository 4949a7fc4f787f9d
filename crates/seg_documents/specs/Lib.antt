pub mod Entries
pub mod Decoding
pub mod Storing
