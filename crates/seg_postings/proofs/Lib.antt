pub mod Order
pub mod Sets
pub mod Chunks
pub mod Either
pub mod Peeks
pub mod Matching
pub mod Members
pub mod Written
