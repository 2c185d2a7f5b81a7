pub mod RunLemmas
pub mod TrapLemmas
