mod Boxes
mod Crossing
mod Further
mod Lending
pub mod Links
mod Owning
mod Splits
pub mod TrailLemmas
mod TrailsPaths
mod Walk
