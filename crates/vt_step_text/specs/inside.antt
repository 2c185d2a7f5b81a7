pub mod StepText
pub mod Replays
pub mod StepLines
