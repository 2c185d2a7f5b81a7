mod Computed
mod SequentialRuns
mod ResendingComputed
