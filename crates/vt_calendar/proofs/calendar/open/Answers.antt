use Rattle.std.proofs.Common.{◌≡◌, ◌++◌, ◌≤◌, List, sym, subst, ap, ◌∙◌}
use Rattle.std.specs.List.Sorted.{IsPermutation}
use Rattle.std.proofs.lemmas.List.Sorted.{IsPermutation-trans}
use Rattle.vt_key.specs.promise.Times.{Time, ticks_of}
use Rattle.vt_key.specs.declared.letter.Letter.{Letter}
use Rattle.vt_calendar.specs.inside.Slots.{items_in}
use Rattle.vt_calendar.specs.inside.Kept.{time_of, earliest, AreFrom, ArePlaced, AreSpread}
use Rattle.vt_calendar.proofs.KeptLemmas.{earliest-least, opened-placed, opened-ticks, opened-same, opened-some}
use Rattle.vt_calendar.proofs.calendar.open.Given.{Over}
use Rattle.vt_calendar.proofs.calendar.open.Goals.{After-earliest_of_slot}
use Rattle.vt_calendar.proofs.calendar.open.Goals as goal

starts : (g : Over) (c : After-earliest_of_slot g) → c.earliest_of_slot.result ≡ earliest (time_of c.in-Some-front.first.now) c.take_all-letters.result
starts g c = c.earliest_of_slot.ensures ∙ ap (λ (t : Time). earliest t c.take_all-letters.result) c.when.ensures

-- letters that stay in their slots
stay : (g : Over) (c : After-earliest_of_slot g) → ArePlaced c.earliest_of_slot.result c.take_all-letters.new.self
stay g c =
    subst (λ (t : Time). ArePlaced t c.take_all-letters.new.self) (sym (starts g c))
    (opened-placed c.args.now.now c.in-Some.slot c.take_all-letters.result c.in-Some-front.first.now c.args.slots.now c.take_all-letters.new.self c.requires.placed c.take_all-letters.ensures c.in-Some.ensures.first (sym c.in-Some-front.ensures))

pub earliest_of_slot-requires : goal.earliest_of_slot-requires
earliest_of_slot-requires g c =
    let ticks = opened-ticks c.args.now.now c.in-Some.slot c.take_all-letters.result c.in-Some-front.first.now c.args.slots.now c.take_all-letters.new.self c.requires.placed c.take_all-letters.ensures c.in-Some.ensures.first (sym c.in-Some-front.ensures) in
    record { one_tick = λ low y m. subst (λ (t : Time). ticks_of t ≤ ticks_of (time_of y)) (sym c.when.ensures) (ticks low y m) }

pub spread-requires-clause-from : goal.spread-requires-clause-from
spread-requires-clause-from g c =
    let w : After-earliest_of_slot g = (goal.at.spread-requires-clause-from g c).After-earliest_of_slot in
    subst (λ (t : Time). AreFrom t c.take_all-letters.result) (sym (starts g w)) (earliest-least (time_of c.in-Some-front.first.now) c.take_all-letters.result)

pub returns-clause-placed : goal.returns-clause-placed
returns-clause-placed g c = c.spread.ensures.spread.placed (stay g (goal.at.returns-clause-placed g c).After-earliest_of_slot)

pub returns-clause-spread : goal.returns-clause-spread
returns-clause-spread g c =
    let all : List (Letter _) = items_in c.args.slots.now in
    let list : List (Letter _) = c.take_all-letters.result in
    let left : List (Letter _) = items_in c.take_all-letters.new.self in
    let spread : List (Letter _) = c.spread.result ++ items_in c.spread.new.slots in
    let same : IsPermutation all (list ++ left) =
    opened-same c.args.now.now c.in-Some.slot list c.in-Some-front.first.now c.args.slots.now c.take_all-letters.new.self c.requires.placed c.take_all-letters.ensures c.in-Some.ensures.first (sym c.in-Some-front.ensures) in
    record {
      same = IsPermutation-trans all (list ++ left) spread same c.spread.ensures.spread.same;
      ordered = c.spread.ensures.spread.ordered;
      reached = c.spread.ensures.spread.reached;
      placed = λ h. c.spread.ensures.spread.placed (stay g (goal.at.returns-clause-spread g c).After-earliest_of_slot);
    }

pub returns-clause-first : goal.returns-clause-first
returns-clause-first g c =
    let w : After-earliest_of_slot g = (goal.at.returns-clause-first g c).After-earliest_of_slot in
    opened-some c.args.now.now c.in-Some.slot c.take_all-letters.result c.in-Some-front.first.now c.args.slots.now c.take_all-letters.new.self c.requires.placed c.take_all-letters.ensures c.in-Some.ensures.first (sym c.in-Some-front.ensures)
    c.spread.result c.spread.new.slots (subst (λ (t : Time). AreSpread t c.take_all-letters.result c.spread.result c.take_all-letters.new.self c.spread.new.slots) (starts g w) c.spread.ensures.spread)
