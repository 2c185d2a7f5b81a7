pub mod Words
pub mod StepText
pub mod Replies
pub mod Replays
