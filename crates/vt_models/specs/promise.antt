pub mod Hop
pub mod Phold
pub mod Stations
