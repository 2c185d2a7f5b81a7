pub mod Runs
pub mod Replays
pub mod Replying
pub mod Tasks
pub mod Outcomes
pub mod Programs
pub mod Models
pub mod Shares
