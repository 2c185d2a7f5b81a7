pub mod Books
pub mod Kept
pub mod Runs
