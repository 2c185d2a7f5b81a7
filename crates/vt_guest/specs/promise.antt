pub mod Traps
pub mod Calls
pub mod Handling
pub mod Handlers
pub mod Loading
