use Rattle.std.proofs.Common.{refl}
use Rattle.vt_logs.specs.inside.Shelves.{page_has_stamp}
use Rattle.vt_logs.proofs.SheetLemmas.{any-total}
use Rattle.vt_logs.proofs.ShelfLemmas.{stamp-found, stamp-more}
use Rattle.vt_logs.proofs.shelf.has_stamp_in.Goals as goal

pub loop-number-init : goal.loop-number-init
loop-number-init g c = refl

pub returns-then-has_stamp : goal.returns-then-has_stamp
returns-then-has_stamp g c =
    stamp-found c.args.sheets.now c.args.numbers.now c.loop-number.number-index c.index-sheets-number.result c.loop-number-test.true c.requires c.index-sheets-number.is
    c.args.stamp.now c.has_stamp.result c.has_stamp.ensures c.if-has_stamp.true

pub loop-number-preserved : goal.loop-number-preserved
loop-number-preserved g c =
    stamp-more c.args.sheets.now c.args.numbers.now c.loop-number.number-index c.index-sheets-number.result c.loop-number-test.true c.requires c.index-sheets-number.is
    c.args.stamp.now c.has_stamp.result c.has_stamp.ensures c.if-has_stamp.false c.loop-number.invariant

pub returns : goal.returns
returns g c = any-total (page_has_stamp c.args.stamp.now c.args.sheets.now) c.args.numbers.now c.loop-number.number-index c.loop-number-test.false c.loop-number.invariant
