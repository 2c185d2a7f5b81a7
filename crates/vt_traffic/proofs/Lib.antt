pub mod TrafficSteps
pub mod CarLemmas
pub mod KeptLemmas
