mod Fitting
mod InOrder
mod Joined
mod Ranges
