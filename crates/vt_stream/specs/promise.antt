pub mod Words
pub mod Drawn
