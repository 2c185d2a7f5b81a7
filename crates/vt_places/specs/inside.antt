pub mod Hands
pub mod Slots
pub mod Kept
pub mod Told
pub mod Calls
pub mod Commits
pub mod Making
pub mod AtWork
