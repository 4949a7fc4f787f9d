pub mod Samples
pub mod Together
pub mod Decimals
pub mod Fitting
