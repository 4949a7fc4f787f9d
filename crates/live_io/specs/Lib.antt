pub mod Events
pub mod EventViews
pub mod Memory
pub mod Unread
pub mod Buffer
