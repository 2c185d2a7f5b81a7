pub mod Faults
pub mod Keys
pub mod Letters
pub mod Lists
pub mod Order
pub mod Queues
pub mod Times
