-- How an executed event becomes a past one, and when the last past one has to be undone.
use Rattle.std.specs.Prelude.{ℕ, ◌≡◌, ◌+◌, ◌<◌, ◌≤◌, ◌⊎◌, length, Bool, false, List, [], ◌∷◌, if◌then◌else◌, Option, Some, None}
use Rattle.std.specs.List.{last_or}
use Rattle.vt_steps.specs.promise.ProcessSteps.{must_undo}
use Rattle.vt_key.specs.declared.limits.TheConstants.{MAX_COUNT}
use Rattle.vt_key.specs.declared.fault.Fault.{Fault}
use Rattle.vt_key.specs.declared.fault.Fault.TheVariants.{Memory, Exhausted}
use Rattle.vt_key.specs.declared.letter.Event.{Event}
use Rattle.vt_key.specs.declared.letter.Letter.{Letter}
use Rattle.vt_model.specs.promise.Simulation.{Fired}
use Rattle.vt_past.specs.declared.event.PastEvent.{PastEvent}
use Rattle.vt_lp.specs.inside.Guards.{may_come_after}

-- why an event that may be executed is not: a counter would pass its limit; or none would, and memory was refused
abbrev pub IsAdvanceRefusal : {S P : Type 0} → Fired S P → ℕ → Fault → Type 0
IsAdvanceRefusal fired serial fault =
    ((fault ≡ Exhausted) × ((MAX_COUNT < fired.triple.number) ⊎ (MAX_COUNT < serial + length fired.sends)))
    ⊎ ((fault ≡ Memory) × (fired.triple.number ≤ MAX_COUNT) × (serial + length fired.sends ≤ MAX_COUNT))

module _ {P K : Type 0} where
  -- the event that Execute would execute, if it is lawful
  abbrev pub ready_event : List (Letter P) → List (PastEvent P K) → Option (Event P)
  ready_event [] past = None
  ready_event (least ∷ rest) past = if may_come_after (last_or None past) least.event.rank then Some least.event else None

  -- the last past event, if there is one, has to be undone
  abbrev pub must_undo_last : List (Letter P) → List (Letter P) → Option (PastEvent P K) → Bool
  must_undo_last pending waiting None = false
  must_undo_last pending waiting (Some last) = must_undo pending waiting last.letter.event.rank
