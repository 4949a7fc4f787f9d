pub mod Searches
pub mod Numbers
pub mod Showing
pub mod Replies
