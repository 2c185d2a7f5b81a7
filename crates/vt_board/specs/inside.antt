pub mod BoardOfRun
pub mod Calls
pub mod Kept
pub mod Passes
