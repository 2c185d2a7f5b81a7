-- Histories: for each process the events that it executed, as the sends alone determine them; and the laws of a simulation.
use Rattle.std.specs.Prelude.{◌≡◌, ℕ, ◌<◌, List, [], ◌∷◌, ◌++◌}
use Rattle.std.specs.List.{AllByRecursion}
use Rattle.vt_key.specs.promise.Keys.{Key}
use Rattle.vt_key.specs.promise.Order.{KeyBefore}
use Rattle.vt_model.specs.declared.sending.Sent.{Sent}
use Rattle.vt_key.specs.promise.Times.{Time, TimeBefore}
use Rattle.vt_key.specs.promise.Lists.{Among, IsRisingBy}
use Rattle.vt_model.specs.promise.Simulation.{Simulation, Triple}

-- each event of the list is after this key
abbrev pub AllAfter : {P : Type 0} → Key → List (Sent P) → Type 0
AllAfter k = AllByRecursion (λ e. KeyBefore k e.key)

-- the keys of the list rise strictly
abbrev pub IsRising : {P : Type 0} → List (Sent P) → Type 0
IsRising = IsRisingBy (λ d e. KeyBefore d.key e.key)

-- no two of these events have one key
abbrev pub AreDistinct : {P : Type 0} → List (Sent P) → Type 0
AreDistinct = IsRisingBy (λ d e. ¬ (d.key ≡ e.key))

module _ {S P : Type 0} (sim : Simulation S P) where
  -- what the events of a list send, each after those before it
  abbrev pub sends_from : ℕ → Triple S → List (Sent P) → List (Sent P)
  sends_from p t [] = []
  sends_from p t (e ∷ es) = (sim.fire p t e).sends ++ sends_from p (sim.fire p t e).triple es

  -- what a process sends at its start and by these events
  abbrev pub sends_of : ℕ → List (Sent P) → List (Sent P)
  sends_of p es = (sim.start p).sends ++ sends_from p (sim.start p).triple es

  -- some process sends this event
  abbrev pub IsSent : (ℕ → List (Sent P)) → Sent P → Type 0
  IsSent lists e = (q : ℕ) × (q < sim.lps) × Among e (sends_of q (lists q))

  -- below a time, each process has in the order of keys exactly the events that the processes send to it
  pub record IsHistory (below : Time) (lists : ℕ → List (Sent P)) : Type 0 where
    pub own : (p : ℕ) (e : Sent P) → p < sim.lps → Among e (lists p) → e.dest ≡ p
    pub rising : (p : ℕ) → p < sim.lps → IsRising (lists p)
    pub sent : (p : ℕ) (e : Sent P) → p < sim.lps → TimeBefore e.key.time below → Among e (lists p) → IsSent lists e
    pub had : (e : Sent P) → TimeBefore e.key.time below → IsSent lists e → Among e (lists e.dest)
