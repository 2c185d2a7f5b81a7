pub mod Cores
pub mod Pairs
pub mod Readiness
pub mod Sprints
