use Rattle.std.proofs.Common.{not, length, sym, ◌∙◌, ap}
use Rattle.std.proofs.lemmas.List.Filters.{FiltersInPlace-all, FiltersInPlace-more_no, FiltersInPlace-more_set}
use Rattle.vt_logs.proofs.ShelfLemmas.{lt-along, le-along}
use Rattle.vt_logs.proofs.shelf.drop_unused.Goals.{then-not-is_unused, else-not-is_unused}
use Rattle.vt_logs.proofs.shelf.drop_unused.Goals as goal

pub loop-i-preserved : goal.loop-i-preserved
loop-i-preserved g c =
    let within = lt-along c.loop-i.i c.len-i-end.result (length c.args.numbers.now.items) (length c.loop-i.numbers.items) c.loop-i-test.true (c.len-i-end.ensures ∙ c.args.numbers.now.ok.0) c.loop-i.invariant.long in
    elim c.if-not-is_unused.branch [
      | then-not-is_unused w ↦ rw (w.numbers-is, w.kept-is) (FiltersInPlace-more_set {x = c.index-number.result.now} c.loop-i.invariant within (ap not (sym c.is_unused.ensures ∙ w.if-not-is_unused.true)) c.index-number.ensures)
      | else-not-is_unused w ↦ rw (w.numbers-is, w.kept-is) (FiltersInPlace-more_no {x = c.index-number.result.now} c.loop-i.invariant within (ap not (sym c.is_unused.ensures ∙ w.if-not-is_unused.false)) c.index-number.ensures)
    ]

pub returns : goal.returns
returns g c =
    c.truncate.ensures.items ∙ FiltersInPlace-all c.loop-i.invariant (le-along c.loop-i.i c.len-i-end.result (length c.args.numbers.now.items) c.loop-i-test.false (c.len-i-end.ensures ∙ c.args.numbers.now.ok.0))
