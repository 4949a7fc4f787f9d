pub mod AtFront
pub mod Marks
pub mod Parts
pub mod Search
pub mod Opened
pub mod PlacesOf
pub mod Columns
pub mod Live
