pub mod Fields
pub mod Executables
pub mod Segments
pub mod Symbols
