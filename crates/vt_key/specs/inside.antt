pub mod Keys
pub mod Order
pub mod Pairs
pub mod Queues
