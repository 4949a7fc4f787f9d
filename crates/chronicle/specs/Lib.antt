pub mod Frame
pub mod History
pub mod Shown
pub mod Knowledge
pub mod Rule
pub mod Steps
pub mod TokenView
