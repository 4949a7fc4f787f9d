pub mod Planned
pub mod Nodes
pub mod Falls
pub mod Steps
pub mod Marks
