pub mod Rising
pub mod Sets
pub mod Bytes
pub mod Steps
