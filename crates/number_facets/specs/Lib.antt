pub mod Numbers
pub mod Values
pub mod Shapes
pub mod Bounds
pub mod Laws
pub mod Results
pub mod SumViews
