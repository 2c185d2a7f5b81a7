use Rattle.std.proofs.Common.{◌+◌, ◌%◌, ◌^◌, sym, ◌∙◌, ap}
use Rattle.vt_logs.proofs.ShelfLemmas.{mod-more, sum-more}
use Rattle.vt_logs.proofs.shelf.count_nodes.Goals as goal

pub loop-number-preserved : goal.loop-number-preserved
loop-number-preserved g c =
    mod-more _ _ c.loop-number.nodes _ c.loop-number.invariant (ap (λ k. (c.loop-number.nodes + k) % 2 ^ 64) c.needs-nodes.ensures)
    ∙ ap (λ k. k % 2 ^ 64) (sym (sum-more c.args.sheets.now c.args.numbers.now c.loop-number.number-index c.index-sheets-number.result c.loop-number-test.true c.requires c.index-sheets-number.is))
