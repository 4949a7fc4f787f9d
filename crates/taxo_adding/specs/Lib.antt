pub mod Adding
pub mod Several
