pub mod Lines
pub mod Items
pub mod ItemLaws
pub mod FaultLines
pub mod Views
