use Rattle.std.proofs.Common.{sym, append-nil}
use Rattle.vt_logs.specs.inside.Shelves.{page_rows}
use Rattle.vt_logs.proofs.SheetLemmas.{flat-total}
use Rattle.vt_logs.proofs.ShelfLemmas.{rows-more}
use Rattle.vt_logs.proofs.shelf.append_rows_in.Goals as goal

pub loop-number-init : goal.loop-number-init
loop-number-init g c = sym (append-nil c.args.rows.now.items)

pub loop-number-preserved : goal.loop-number-preserved
loop-number-preserved g c =
    rows-more c.args.sheets.now c.args.numbers.now c.loop-number.number-index c.index-sheets-number.result c.loop-number-test.true c.requires c.index-sheets-number.is
    c.args.floor c.args.rows.now.items c.loop-number.rows.items c.append_rows.new.rows.items c.loop-number.invariant c.in-Ok.ensures.rows

pub returns-clause-rows : goal.returns-clause-rows
returns-clause-rows g c =
    flat-total (page_rows c.args.floor c.args.sheets.now) c.args.numbers.now c.loop-number.number-index c.args.rows.now.items c.loop-number.rows.items c.loop-number-test.false c.loop-number.invariant
