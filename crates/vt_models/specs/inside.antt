pub mod Options
pub mod Rotation
pub mod HopLaws
pub mod PholdLaws
pub mod Stations
pub mod StationsLaws
