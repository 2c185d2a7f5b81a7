pub mod Refusals
pub mod Printed
pub mod Runs
pub mod Replays
pub mod Outcomes
pub mod Models
