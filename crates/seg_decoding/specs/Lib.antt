pub mod Opening
pub mod Answers
pub mod Laws
pub mod Pairs
pub mod Facts
pub mod Ready
pub mod Reading
