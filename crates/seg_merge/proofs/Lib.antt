pub mod Moved
mod Places
mod Puts
mod Walking
mod Built
pub mod Standing
