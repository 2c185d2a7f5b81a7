pub mod OutcomeLemmas
pub mod ModelLemmas
pub mod ProgramLemmas
