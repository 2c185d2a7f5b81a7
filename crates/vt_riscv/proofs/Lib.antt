pub mod AlignmentLemmas
pub mod PairLemmas
pub mod PairSteps
pub mod ReadyLemmas
pub mod RunLemmas
pub mod SprintLemmas
