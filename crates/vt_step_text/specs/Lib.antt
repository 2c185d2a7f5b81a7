pub mod Words
pub mod StepText
