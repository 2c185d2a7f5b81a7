pub mod BitLemmas
pub mod MarkLemmas
