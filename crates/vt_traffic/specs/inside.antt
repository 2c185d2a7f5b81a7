pub mod Options
pub mod Junction
pub mod Traffic
pub mod Cars
pub mod TrafficLaws
