pub mod Refusals
pub mod Programs
pub mod Guests
pub mod Models
pub mod Outcomes
