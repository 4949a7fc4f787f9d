pub mod ArrayLists
pub mod DimLists
pub mod Links
pub mod Kept
