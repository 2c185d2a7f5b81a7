pub mod Arithmetic
pub mod Memory
pub mod Decoding
pub mod Compressed
pub mod Codes
pub mod Effects
pub mod Machines
pub mod Steps
