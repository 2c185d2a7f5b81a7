pub mod Address
pub mod Blocks
pub mod First
pub mod Lines
pub mod Linked
