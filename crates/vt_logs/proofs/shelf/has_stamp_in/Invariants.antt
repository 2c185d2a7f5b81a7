use Rattle.std.proofs.Common.{◌≡◌, false, take}
use Rattle.std.specs.List.{list_any}
use Rattle.vt_logs.specs.inside.Shelves.{page_has_stamp}
use Rattle.vt_logs.proofs.shelf.has_stamp_in.Given as goal

abbrev pub invariant-loop-number : goal.invariant-loop-number
invariant-loop-number g l = list_any (page_has_stamp l.stamp l.sheets) (take l.number-index l.numbers) ≡ false
