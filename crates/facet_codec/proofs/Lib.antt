pub mod Taking
pub mod Groups
pub mod Lists
pub mod Numbers
pub mod Vints
pub mod EachKind
