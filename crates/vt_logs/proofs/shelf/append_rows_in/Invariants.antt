use Rattle.std.proofs.Common.{◌≡◌, ◌++◌, take}
use Rattle.std.specs.List.{flat_map}
use Rattle.vt_logs.specs.inside.Shelves.{page_rows}
use Rattle.vt_logs.proofs.shelf.append_rows_in.Given as goal

abbrev pub invariant-loop-number : goal.invariant-loop-number
invariant-loop-number g l = l.rows.items ≡ l.fn.rows.items ++ flat_map (page_rows l.floor l.sheets) (take l.number-index l.numbers)
