mod Differing
mod Fitting
