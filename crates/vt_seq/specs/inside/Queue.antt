-- Pending events in the order of their keys.
use Rattle.std.specs.Prelude.{◌≡◌, ℕ, ◌<◌, List, [], ◌∷◌}
use Rattle.vt_key.specs.promise.Times.{Time, TimeBefore}
use Rattle.vt_key.specs.promise.Order.{key_before}
use Rattle.vt_key.specs.promise.Lists.{Among}
use Rattle.vt_key.specs.promise.Queues.{insert_ordered}
use Rattle.vt_model.specs.declared.sending.Sent.{Sent}

-- events with one more, before the first of greater key
abbrev pub inserted : {P : Type 0} → Sent P → List (Sent P) → List (Sent P)
inserted = insert_ordered (λ d e. key_before d.key e.key)

-- events with these inserted one after the other
abbrev pub all_inserted : {P : Type 0} → List (Sent P) → List (Sent P) → List (Sent P)
all_inserted [] ds = ds
all_inserted (e ∷ es) ds = all_inserted es (inserted e ds)

-- events that are inserted one after the other, each with a key that isn't there
abbrev pub HaveNewKeys : {P : Type 0} → List (Sent P) → List (Sent P) → Type 0
HaveNewKeys [] ds = Unit {0}
HaveNewKeys (e ∷ es) ds = ((d : Sent _) → Among d ds → d.key ≡ e.key → ⊥) × HaveNewKeys es (inserted e ds)

-- an event that some process of the run may execute
pub record IsWithinRun {P : Type 0} (lps : ℕ) (end : Time) (e : Sent P) : Type 0 where
  pub known : e.dest < lps
  pub soon : TimeBefore e.key.time end
