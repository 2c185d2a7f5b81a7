use Rattle.std.proofs.lemmas.List.Filters.{FiltersInPlace}
use Rattle.vt_logs.specs.inside.Shelves.{is_used}
use Rattle.vt_logs.proofs.shelf.drop_unused.Given as goal

abbrev pub invariant-loop-i : goal.invariant-loop-i
invariant-loop-i g l = FiltersInPlace (is_used l.sheets) l.initial.numbers.items l.numbers.items l.kept l.i
