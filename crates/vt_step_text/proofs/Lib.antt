pub mod CutLemmas
pub mod WordLemmas
pub mod StepTextLemmas
pub mod PrintLemmas
pub mod ReplayLemmas
pub mod StepLineLemmas
