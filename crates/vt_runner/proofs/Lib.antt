pub mod RunLemmas
pub mod WorkerLemmas
pub mod OneModelLemmas
pub mod WithFilesLemmas
