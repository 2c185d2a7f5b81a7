-- A process as a simulator keeps it.
use Rattle.std.specs.Prelude.{◌≡◌, ℕ}
use Rattle.vt_stream.specs.promise.Words.{seed_key}
use Rattle.vt_stream.specs.inside.Words.{Stream}
use Rattle.vt_model.specs.promise.Simulation.{Triple}

-- where a process stands, by what is kept of it
abbrev pub triple_at : {S : Type 0} → S → ℕ → Stream → Triple S
triple_at s n w = record { state = s; number = n; place = w.place }

-- a stream is that of this seed and process
pub record IsProcessStream (seed p : ℕ) (w : Stream) : Type 0 where
  pub key : w.key ≡ seed_key seed
  pub process : w.process ≡ p
