pub mod Flags
pub mod PassLemmas
pub mod Sums
