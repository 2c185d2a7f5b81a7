pub mod OutboxLemmas
mod PartingLemmas
