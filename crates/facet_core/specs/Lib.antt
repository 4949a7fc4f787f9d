pub mod Views
pub mod Rests
pub mod Laws
