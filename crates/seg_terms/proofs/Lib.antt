pub mod Tables
mod Noted
pub mod Behind
pub mod Pieces
pub mod TermLists
pub mod DocPlaces
mod Shorts
