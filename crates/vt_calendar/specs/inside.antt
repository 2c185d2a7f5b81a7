pub mod Digits
pub mod Slots
pub mod Kept
pub mod Order
