-- What is left of what a worker keeps of its processes once it committed, and the rows that it handed in.
use Rattle.std.specs.Prelude.{Bool, not, List}
use Rattle.std.specs.List.{filter, flat_map}
use Rattle.vt_key.specs.promise.Times.{Time}
use Rattle.vt_model.specs.declared.rows.Row.{Row}
use Rattle.vt_model.specs.promise.Simulation.{rows_of}
use Rattle.vt_lp.specs.inside.Held.{HeldProcess}
use Rattle.vt_lp.specs.inside.Ripe.{is_ripe, rows_of_ripe}
use Rattle.vt_pool.specs.inside.View.{Placed, Stock}

-- the rows of a past event
abbrev pub placed_rows : {P K : Type 0} → Placed P K → List Row
placed_rows e = rows_of e.event.letter.event.rank.key e.event.records

module _ {P K : Type 0} (floor : Time) where
  -- whether a past event is before the floor
  abbrev pub is_placed_ripe : Placed P K → Bool
  is_placed_ripe e = is_ripe floor e.event

  -- the past events that aren't before it
  abbrev pub unripe_placed : List (Placed P K) → List (Placed P K)
  unripe_placed es = filter (λ (e : Placed P K). not (is_placed_ripe e)) es

  -- the rows of those before the floor, in the order of their execution
  abbrev pub rows_of_placed : List (Placed P K) → List Row
  rows_of_placed es = flat_map placed_rows (filter is_placed_ripe es)

-- the rows of the past events before a floor of these processes: process after process, and for each in the order of their execution
abbrev pub rows_of_held : {S P K : Type 0} → Time → List (HeldProcess S P K) → List Row
rows_of_held floor held = flat_map (λ process. rows_of_ripe floor process.past) held

-- after a commit below a floor
abbrev pub forgotten_in : {S P K : Type 0} → Time → Stock S P K → Stock S P K
forgotten_in floor stock = record stock { past = unripe_placed floor stock.past }
