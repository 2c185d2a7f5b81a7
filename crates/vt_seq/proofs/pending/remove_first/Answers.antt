use Rattle.std.proofs.Common.{◌≡◌, ◌∙◌, ◌++◌, List, length, drop, slice_get, Some, refl, sym, ap, subst, arith}
use Rattle.std.specs.BinaryHeap.{heap_items}
use Rattle.vt_key.specs.promise.Times.{ticks_of}
use Rattle.vt_model.specs.declared.sending.Sent.{Sent}
use Rattle.vt_seq.specs.declared.entry.Entry.{Entry}
use Rattle.vt_seq.specs.inside.Entries.{in_order, IsLeastEntry, IsQueue}
use Rattle.vt_seq.specs.inside.Days.{day_of, calendar_entries}
use Rattle.vt_seq.proofs.HeapLemmas.{top-least, least-popped, least-append, in-far, first-event, near-removed, far-removed}
use Rattle.vt_seq.proofs.pending.remove_first.Given.{Over}
use Rattle.vt_seq.proofs.pending.remove_first.Goals as goal

-- ---- the first is in the calendar

pub returns-then-not-is_far_first-clause-rest : goal.returns-then-not-is_far_first-clause-rest
returns-then-not-is_far_first-clause-rest g c =
    let it = c.args.calendar.now in
    let x : Entry _ = c.in-Some.field-0 in
    let left = calendar_entries c.remove_first.new.self.present.items c.remove_first.new.self.days in
    near-removed x (calendar_entries it.present.items it.days) left (heap_items c.args.far.now) c.requires.queue c.in-Some.ensures.rest c.in-Some.ensures.least (c.if-not-is_far_first.ensures.near refl x c.in-Some.ensures.least)

pub returns-then-not-is_far_first-clause-moved : goal.returns-then-not-is_far_first-clause-moved
returns-then-not-is_far_first-clause-moved g c none =
    let it = c.args.calendar.now in
    let empty : length (in_order (calendar_entries it.present.items it.days ++ heap_items c.args.far.now)) ≡ 0 = ap (λ (l : List (Entry _)). length (in_order l)) (c.if-not-is_far_first.ensures.nothing refl none) in
    absurd (omega (arith, empty, c.requires.some))

-- ---- it is the heap's top

least : (g : Over) (c : goal.After-move_to g)
    → let it = c.args.calendar.now in IsLeastEntry c.in-Some-pop.entry (calendar_entries it.present.items it.days) × IsLeastEntry c.in-Some-pop.entry (heap_items c.args.far.now)
least g c =
    let x : Entry _ = c.in-Some-pop.entry in
    let left = heap_items c.pop.new.self in
    (c.if-not-is_far_first.ensures.far refl x c.in-Some-pop.ensures.top, least-popped x (heap_items c.args.far.now) left c.in-Some-pop.ensures.permutation (top-least x left (c.in-Some-pop.ensures.below_top c.requires.queue.heap)))

pub returns-clause-rest : goal.returns-clause-rest
returns-clause-rest g c =
    let it = c.args.calendar.now in
    let near = calendar_entries it.present.items it.days in
    let far = heap_items c.args.far.now in
    let left = heap_items c.pop.new.self in
    let first = least g c in
    subst (λ (l : List (Entry _)). IsQueue l left × (in_order (l ++ left) ≡ drop 1 (in_order (near ++ far)))) (sym c.move_to.ensures.same)
    (far-removed c.in-Some-pop.entry near far left c.requires.queue c.in-Some-pop.ensures.permutation (c.in-Some-pop.ensures.heap_order c.requires.queue.heap).0 first.0 first.1)

pub returns-clause-moved : goal.returns-clause-moved
returns-clause-moved g c none d at =
    let it = c.args.calendar.now in
    let x : Entry _ = c.in-Some-pop.entry in
    let near = calendar_entries it.present.items it.days in
    let far = heap_items c.args.far.now in
    let left = heap_items c.pop.new.self in
    let first = least g c in
    let head : slice_get (in_order (near ++ far)) 0 ≡ Some x.event = first-event x (near ++ far) (near ++ left) c.requires.queue.apart (in-far x near far left c.in-Some-pop.ensures.permutation) (least-append x near far first.0 first.1) in
    let same : x.event ≡ d = (let both : Some x.event ≡ Some d = sym head ∙ at in cc) in
    let moved = c.move_to.ensures.moved none in
    (moved.0 ∙ ap (day_of c.move_to.new.self.scale) (c.ticks.ensures ∙ ap ticks_of c.when.ensures ∙ ap (λ (e : Sent _). ticks_of e.key.time) same), moved.1)
