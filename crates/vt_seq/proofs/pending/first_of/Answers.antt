use Rattle.std.proofs.Common.{◌<◌, length, refl, rules}
use Rattle.std.specs.BinaryHeap.{heap_items}
use Rattle.vt_seq.specs.declared.entry.Entry.{Entry}
use Rattle.vt_seq.specs.inside.Days.{calendar_entries}
use Rattle.vt_seq.proofs.HeapLemmas.{top-least, top-out, in-near, in-far, least-append}
use Rattle.vt_seq.proofs.pending.first_of.Goals as goal

pub returns-then-is_far_first-clause-among : goal.returns-then-is_far_first-clause-among
returns-then-is_far_first-clause-among g c =
    let near = calendar_entries c.args.calendar.now.present.items c.args.calendar.now.days in
    let far = heap_items c.args.far.now in
    let y : Entry _ = c.in-Some.entry.now in
    let some : 0 < length far = search (rules, c.args.far.now.data.ok.0) in
    let out = top-out far y some c.in-Some.ensures.lookup in
    (_, in-far y near far out.0 out.1)

pub returns-then-is_far_first-clause-least : goal.returns-then-is_far_first-clause-least
returns-then-is_far_first-clause-least g c =
    let near = calendar_entries c.args.calendar.now.present.items c.args.calendar.now.days in
    let far = heap_items c.args.far.now in
    let y : Entry _ = c.in-Some.entry.now in
    least-append y near far (c.if-is_far_first.ensures.far refl y c.in-Some.ensures.lookup) (top-least y far (c.in-Some.ensures.greatest c.requires.queue.heap))

pub returns-clause-among : goal.returns-clause-among
returns-clause-among g c =
    let near = calendar_entries c.args.calendar.now.present.items c.args.calendar.now.days in
    let far = heap_items c.args.far.now in
    let among = c.in-Some-first.ensures.among in
    (_, in-near c.in-Some-first.entry.now near among.0 far among.1)

pub returns-clause-least : goal.returns-clause-least
returns-clause-least g c =
    let near = calendar_entries c.args.calendar.now.present.items c.args.calendar.now.days in
    let far = heap_items c.args.far.now in
    let x : Entry _ = c.in-Some-first.entry.now in
    least-append x near far c.in-Some-first.ensures.least (c.if-is_far_first.ensures.near refl x c.in-Some-first.ensures.least)
