use Rattle.std.proofs.Common.{◌≡◌, ◌<◌, ◌∙◌, true, false, length, sym, subst, rules}
use Rattle.std.specs.BinaryHeap.{heap_items}
use Rattle.vt_key.specs.promise.Order.{KeyBefore}
use Rattle.vt_key.proofs.OrderLemmas.{key-transitive, key_before-true, before-key_before}
use Rattle.vt_seq.specs.declared.entry.Entry.{Entry}
use Rattle.vt_seq.specs.inside.Days.{calendar_entries}
use Rattle.vt_seq.proofs.HeapLemmas.{top-least, top-same, among-least, none-left, not-before-trans}
use Rattle.vt_seq.proofs.pending.is_far_first.Goals as goal

pub returns-clause-far : goal.returns-clause-far
returns-clause-far g c ahead x at d m before =
    let y : Entry _ = c.in-Some.far.now in
    let n : Entry _ = c.in-Some-first.near.now in
    let some : 0 < length (heap_items c.args.far.now) = search (rules, c.args.far.now.data.ok.0) in
    let same : x ≡ y = top-same (heap_items c.args.far.now) x y some at c.in-Some.ensures.lookup in
    let first : KeyBefore y.event.key n.event.key = key_before-true y.event.key n.event.key (sym c.is_before.ensures ∙ ahead) in
    c.in-Some-first.ensures.least d m (key-transitive d.key y.event.key n.event.key (subst (λ (z : Entry _). KeyBefore d.key z.event.key) same before) first)

pub returns-clause-near : goal.returns-clause-near
returns-clause-near g c behind x least d m =
    let y : Entry _ = c.in-Some.far.now in
    let n : Entry _ = c.in-Some-first.near.now in
    let below : KeyBefore y.event.key n.event.key → ⊥ = λ h. let both : true ≡ false = sym (before-key_before y.event.key n.event.key h) ∙ (sym c.is_before.ensures ∙ behind) in absurd (cc) in
    let own : KeyBefore n.event.key x.event.key → ⊥ = among-least x n (calendar_entries c.args.calendar.now.present.items c.args.calendar.now.days) c.in-Some-first.ensures.among.0 least c.in-Some-first.ensures.among.1 in
    let top : KeyBefore d.key y.event.key → ⊥ = top-least y (heap_items c.args.far.now) (c.in-Some.ensures.greatest c.requires.queue.heap) d m in
    not-before-trans d.key n.event.key x.event.key (not-before-trans d.key y.event.key n.event.key top below) own

pub returns-clause-nothing : goal.returns-clause-nothing
returns-clause-nothing g c behind none =
    absurd (none-left c.in-Some-first.near.now (calendar_entries c.args.calendar.now.present.items c.args.calendar.now.days) c.in-Some-first.ensures.among.0 c.in-Some-first.ensures.among.1
    (search rules))
