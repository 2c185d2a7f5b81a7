use Rattle.std.proofs.Common.{◌∙◌, ◌++◌, List, slice_get, sym, ap}
use Rattle.std.specs.BinaryHeap.{heap_items}
use Rattle.vt_model.specs.declared.sending.Sent.{Sent}
use Rattle.vt_seq.specs.inside.Days.{calendar_entries}
use Rattle.vt_seq.proofs.HeapLemmas.{first-event}
use Rattle.vt_seq.proofs.pending.PendingEvents.first.Goals as goal

pub returns : goal.returns
returns g c =
    let it = c.self.inside.calendar in
    let all = calendar_entries it.present.items it.days ++ heap_items c.self.inside.far in
    let among = c.in-Some.ensures.among in
    sym (ap (λ (es : List (Sent _)). slice_get es 0) (sym c.self.view_is) ∙ first-event c.in-Some.entry.now all among.0 c.self.invariant.0.apart among.1 c.in-Some.ensures.least)
