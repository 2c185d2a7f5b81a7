mod ProcessView
pub mod RisingLemmas
mod ReachLemmas
mod ReadyLemmas
mod LeastLemmas
pub mod AcceptLemmas
pub mod CancelLemmas
pub mod Stamping
pub mod RipeLemmas
pub mod Ends
pub mod Advancing
pub mod ExecuteLemmas
pub mod UndoLemmas
