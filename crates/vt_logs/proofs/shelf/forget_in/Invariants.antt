use Rattle.std.proofs.Common.{◌≡◌, ◌++◌, map, take, drop}
use Rattle.vt_logs.specs.inside.Shelves.{page_below}
use Rattle.vt_logs.proofs.shelf.forget_in.Given as goal

abbrev pub invariant-loop-sheet : goal.invariant-loop-sheet
invariant-loop-sheet g l = l.sheets ≡ map (page_below l.floor) (take l.sheet-index l.initial.sheets) ++ drop l.sheet-index l.initial.sheets
