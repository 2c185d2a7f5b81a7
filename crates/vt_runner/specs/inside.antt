pub mod OneModel
pub mod WithFiles
pub mod Pieces
