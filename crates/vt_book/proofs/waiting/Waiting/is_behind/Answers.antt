use Rattle.std.proofs.Common.{◌≡◌, true, sym, subst, ◌∙◌, Option}
use Rattle.std.specs.BinaryHeap.{heap_items}
use Rattle.std.proofs.lemmas.List.Elements.{recursion_from_All}
use Rattle.vt_model.specs.declared.rows.Row.{Row}
use Rattle.vt_steps.specs.promise.Rows.{row_before}
use Rattle.vt_steps.specs.inside.Rows.{NoneBefore}
use Rattle.vt_steps.proofs.book.RowOrder.{row-asymmetric}
use Rattle.vt_book.specs.inside.Runs.{AreBehind, IsRun}
use Rattle.vt_book.proofs.OrderLemmas.{none-chain}
use Rattle.vt_book.proofs.RunLemmas.{behind-all}
use Rattle.vt_book.proofs.waiting.Waiting.is_behind.Goals as goal

pub returns : goal.returns
returns c t =
    let runs = heap_items c.self.inside.runs in
    let row = c.in-Some-first-2.row.now in
    let next = c.in-Some-first.next.now in
    let ahead : row_before row next ≡ true = sym c.is_before.ensures ∙ t in
    let behind : NoneBefore next c.args.self.now =
    subst (NoneBefore next) c.self.view_is (behind-all c.in-Some.first.now next runs c.in-Some-first.ensures (recursion_from_All IsRun runs c.self.invariant.each) (c.in-Some.ensures.greatest c.self.invariant.heap)) in
    subst (λ (o : Option Row). AreBehind o c.args.self.now) (sym c.in-Some-first-2.ensures) (none-chain row next c.args.self.now (row-asymmetric row next ahead) behind)
