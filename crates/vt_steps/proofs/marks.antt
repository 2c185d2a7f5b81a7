pub mod MarkedRuns
pub mod OwnCuts
pub mod OwnCloses
