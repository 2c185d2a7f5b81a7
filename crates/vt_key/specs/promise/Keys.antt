-- The name of an event in virtual time.
use Rattle.std.specs.Prelude.{ℕ}
use Rattle.vt_key.specs.promise.Times.{Time}

-- when the event is received, who sent it, and how many events the sender had sent before it
pub record Key : Type 0 where
  pub time : Time
  pub source : ℕ
  pub number : ℕ
