-- The earlier of two times, and the least time of letters, for this crate and those above.
pub use Rattle.vt_steps.proofs.TimeLemmas.{earlier_assoc, earlier_comm, earlier_first, earlier_low, earlier-end, least_time-low, least_time-append, same_low}
