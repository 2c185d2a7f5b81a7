pub mod Held
pub mod Guards
pub mod Ripe
pub mod Past
pub mod Steps
