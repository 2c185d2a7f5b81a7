pub mod Held
pub mod Calls
