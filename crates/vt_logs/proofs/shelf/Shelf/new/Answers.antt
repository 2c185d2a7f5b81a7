use Rattle.std.proofs.Common.{[], ◌∷◌, ◌++◌, ◌∙◌}
use Rattle.vt_logs.proofs.ShelfLemmas.{shelf-along, shelf-fresh}
use Rattle.vt_logs.proofs.shelf.Shelf.new.Goals as goal

pub invariant_of-result : goal.invariant_of-result
invariant_of-result g c =
    shelf-along (c.in-Ok.ensures.items ∙ (λ j. c.new-sheets.ensures.items j ++ c.new.ensures j ∷ [])) c.new-2.ensures.items c.new-3.ensures.items shelf-fresh
