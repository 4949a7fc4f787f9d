pub mod Ranges
mod Lists
pub mod Walks
pub mod Unions
pub mod Choices
pub mod Orders
pub mod Marked
