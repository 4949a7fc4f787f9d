pub mod Tiers
pub mod Moving
pub mod Laws
