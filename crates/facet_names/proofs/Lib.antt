pub mod LabelLists
pub mod Fronts
pub mod Parts
pub mod Blocks
pub mod TermTexts
pub mod Greatest
pub mod Places
pub mod Ordered
pub mod Keys
mod Rows
