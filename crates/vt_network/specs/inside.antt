pub mod Options
pub mod Network
pub mod NetworkLaws
pub mod Packets
