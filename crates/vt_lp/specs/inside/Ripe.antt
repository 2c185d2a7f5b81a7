-- The past events before a floor, which a commit forgets, and their rows.
use Rattle.std.specs.Prelude.{Bool, List, [], ◌∷◌, ◌++◌, if◌then◌else◌}
use Rattle.vt_key.specs.promise.Times.{Time, time_before}
use Rattle.vt_model.specs.declared.rows.Row.{Row}
use Rattle.vt_model.specs.promise.Simulation.{rows_of}
use Rattle.vt_past.specs.declared.event.PastEvent.{PastEvent}

module _ {P K : Type 0} (floor : Time) where
  -- the event is before the floor
  abbrev pub is_ripe : PastEvent P K → Bool
  is_ripe e = time_before e.letter.event.rank.key.time floor

  -- the past events without the first ones, which are before the floor
  abbrev pub unripe_events : List (PastEvent P K) → List (PastEvent P K)
  unripe_events [] = []
  unripe_events (e ∷ es) = if is_ripe e then unripe_events es else e ∷ es

  -- the rows of the first past events, which are before the floor
  abbrev pub rows_of_ripe : List (PastEvent P K) → List Row
  rows_of_ripe [] = []
  rows_of_ripe (e ∷ es) = if is_ripe e then rows_of e.letter.event.rank.key e.records ++ rows_of_ripe es else []
