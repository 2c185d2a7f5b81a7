pub mod Programs
pub mod Models
pub mod Hints
