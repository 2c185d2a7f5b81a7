pub mod Flags
pub mod Early
pub mod Rounds
pub mod Passes
pub mod EarlyLocal
pub mod Announced
pub mod Floors
pub mod Agreement
