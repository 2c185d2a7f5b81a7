pub mod Parts
pub mod Segments
pub mod Symbols
