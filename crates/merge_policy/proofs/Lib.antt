mod Tiers
mod Walking
mod Moving
