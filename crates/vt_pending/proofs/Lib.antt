pub mod Filters
mod Finding
pub mod Holding
mod Inserting
mod Kept
pub mod Placing
mod Lists
mod Searching
mod Words
