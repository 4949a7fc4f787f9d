pub mod Words
pub mod Live
pub mod Views
