pub mod Marks
pub mod Living
pub mod Found
pub mod Chosen
pub mod Trees
pub mod Words
pub mod Paths
