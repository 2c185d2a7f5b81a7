use Rattle.std.proofs.Common.{◌+◌, get_or, slice_set, sym, ◌∙◌, ap, add-one}
use Rattle.vt_logs.specs.inside.Shelves.{page_below}
use Rattle.vt_logs.proofs.ShelfLemmas.{map-step, map-there, map-done}
use Rattle.vt_logs.proofs.shelf.forget_in.Goals as goal

pub loop-sheet-preserved : goal.loop-sheet-preserved
loop-sheet-preserved g c =
    let i = c.loop-sheet.sheet-index in
    let f = page_below c.args.floor in
    let d = c.sheet-item.result in
    let there = c.sheet-item.is ∙ ap (λ qs. get_or qs i d) c.loop-sheet.invariant ∙ map-there f c.args.sheets.now i d c.loop-sheet-test.true in
    (λ j. slice_set (c.loop-sheet.invariant j) i ((c.forget.ensures ∙ ap f (sym c.sheet-item.is ∙ there)) j))
    ∙ map-step f c.args.sheets.now i (i + 1) d (add-one i) c.loop-sheet-test.true

pub returns : goal.returns
returns g c = c.loop-sheet.invariant ∙ map-done (page_below c.args.floor) c.args.sheets.now c.loop-sheet.sheet-index c.loop-sheet-test.false
