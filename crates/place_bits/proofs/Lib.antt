mod WordBits
pub mod Lists
mod Marks
mod Notes
mod Misses
mod Firsts
mod Rests
mod Fills
mod Counts
