pub mod Committed
pub mod Strays
pub mod Drafts
pub mod Plannings
pub mod Openings
pub mod Results
