pub mod Relay
pub mod RelayLaws
pub mod Table
