pub mod Below
pub mod Read
pub mod Whole
pub mod Put
pub mod Again
