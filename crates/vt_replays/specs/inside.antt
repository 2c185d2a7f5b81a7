pub mod Replays
pub mod Resending
