pub mod OwnHistories
pub mod LiveEvents
pub mod QuietHistories
pub mod HistoriesTheorem
pub mod FinalValues
