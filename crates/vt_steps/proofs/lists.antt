pub mod Indices
pub mod Sums
