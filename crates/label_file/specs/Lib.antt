pub mod LabelBytes
pub mod LabelReading
pub mod LabelLaws
