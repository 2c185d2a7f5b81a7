use Rattle.std.proofs.Common.{◌≡◌, ℕ, suc, ◌+◌, ◌≤◌, ◌∙◌, ◌++◌, List, ◌∷◌, drop, length, refl, sym, ap, subst, arith}
use Rattle.std.specs.BinaryHeap.{heap_items, heap_len, heap_capacity}
use Rattle.std.proofs.lemmas.List.{drop_more, drop_all}
use Rattle.vt_model.specs.declared.sending.Sent.{Sent}
use Rattle.vt_seq.specs.declared.entry.Entry.{Entry}
use Rattle.vt_seq.specs.inside.Queue.{all_inserted, HaveNewKeys}
use Rattle.vt_seq.specs.inside.Entries.{in_order}
use Rattle.vt_seq.specs.inside.Days.{calendar_entries}
use Rattle.vt_seq.proofs.HeapLemmas.{IsPutAmong, near-put, far-put, near-reordered, refused-kept, done-put}
use Rattle.vt_seq.proofs.pending.put_all.Goals.{then-is_err+in-Ok, else-is_err}
use Rattle.vt_seq.proofs.pending.put_all.Goals as goal

pub loop-event-preserved : goal.loop-event-preserved
loop-event-preserved g c =
    let inv = c.loop-event.invariant in
    let events = c.args.events.now in
    let i : ℕ = c.loop-event.event-index in
    let event = c.event-item.result in
    let x : Entry _ = record { event = event } in
    let rest = drop (i + 1) events in
    let near = calendar_entries c.loop-event.calendar.present.items c.loop-event.calendar.days in
    let far = heap_items c.loop-event.far in
    let now = calendar_entries c.put.new.self.present.items c.put.new.self.days in
    let old = in_order (near ++ far) in
    let more : drop i events ≡ event ∷ rest = drop_more events i event c.loop-event-test.true ∙ ap (λ (e : Sent _). e ∷ rest) (sym c.event-item.is) in
    let fresh : HaveNewKeys (event ∷ rest) old = subst (λ (es : List (Sent _)). HaveNewKeys es old) more inv.fresh in
    let longer : length (drop i events) ≡ suc (length rest) = ap length more in
    let put : IsPutAmong x near far now (heap_items c.if-is_err.far) = elim c.if-is_err.branch [
      | then-is_err+in-Ok w ↦
          let pushed = heap_items w.push.new.self in
          let both : IsPutAmong x near far now pushed = far-put x near far now pushed inv.queue w.in-Ok.ensures.permutation (w.in-Ok.ensures.heap_order inv.queue.heap) (refused-kept c.put.result w.if-is_err.ensures.value c.put.ensures.kept) fresh.0 in
          subst (λ (l : List (Entry _)). IsPutAmong x near far now l) (sym (ap heap_items w.far-is)) both
      | else-is_err w ↦ near-put x near far now (heap_items c.if-is_err.far) inv.queue (done-put c.put.result w.if-is_err.ensures.value c.put.ensures.put) (ap heap_items w.far-is) fresh.0
    ] in
    let room : heap_len c.if-is_err.far + length rest ≤ heap_capacity c.if-is_err.far = elim c.if-is_err.branch [
      | then-is_err+in-Ok w ↦ let len = ap heap_len w.far-is in let capacity = ap heap_capacity w.far-is in omega (arith, inv.room, longer, len, capacity, w.in-Ok.ensures.len, w.push.ensures.capacity)
      | else-is_err w ↦ let len = ap heap_len w.far-is in let capacity = ap heap_capacity w.far-is in omega (arith, inv.room, longer, len, capacity)
    ] in
    record {
      room = room;
      queue = put.0;
      fresh = subst (HaveNewKeys rest) (sym put.1) fresh.1;
      base = (c.put.ensures.window.0 ∙ inv.base.0, c.put.ensures.window.1 ∙ inv.base.1);
      same = ap (all_inserted rest) put.1 ∙ ap (λ (es : List (Sent _)). all_inserted es old) (sym more) ∙ inv.same;
    }

pub returns-clause-events : goal.returns-clause-events
returns-clause-events g c =
    let inv = c.loop-event.invariant in
    let near = calendar_entries c.loop-event.calendar.present.items c.loop-event.calendar.days in
    let settled = calendar_entries c.settle.new.self.present.items c.settle.new.self.days in
    let old = in_order (near ++ heap_items c.loop-event.far) in
    let none = drop_all c.loop-event.event-index c.args.events.now (omega (arith, c.loop-event-test.false)) in
    (near-reordered near (heap_items c.loop-event.far) settled inv.queue c.settle.ensures.same).1 ∙ ap (λ (es : List (Sent _)). all_inserted es old) (sym none) ∙ inv.same

pub returns-clause-queue : goal.returns-clause-queue
returns-clause-queue g c =
    let near = calendar_entries c.loop-event.calendar.present.items c.loop-event.calendar.days in
    let settled = calendar_entries c.settle.new.self.present.items c.settle.new.self.days in
    (near-reordered near (heap_items c.loop-event.far) settled c.loop-event.invariant.queue c.settle.ensures.same).0

pub loop-event-init : goal.loop-event-init
loop-event-init g c = record { room = c.requires.room; queue = c.requires.queue; fresh = c.requires.new; base = (refl, refl); same = refl }

pub returns-clause-settled : goal.returns-clause-settled
returns-clause-settled g c = c.settle.ensures.settled

pub returns-clause-base : goal.returns-clause-base
returns-clause-base g c = (c.settle.ensures.base.0 ∙ c.loop-event.invariant.base.0, c.settle.ensures.base.1 ∙ c.loop-event.invariant.base.1)
