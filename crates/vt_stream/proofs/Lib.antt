pub mod WordLemmas
pub mod DrawLemmas
