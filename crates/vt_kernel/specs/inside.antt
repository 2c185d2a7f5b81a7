pub mod Held
pub mod Local
pub mod Guards
pub mod Choosing
pub mod Settled
pub mod Steps
