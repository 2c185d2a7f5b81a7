use Rattle.std.proofs.Common.{[], ◌∷◌, ◌++◌, ◌∙◌}
use Rattle.std.proofs.lemmas.List.{replicate_more}
use Rattle.vt_world.proofs.making.open_inboxes.Goals as goal

pub loop-preserved : goal.loop-preserved
loop-preserved g c = c.in-Ok.ensures.items ∙ (λ j. c.loop.invariant j ++ c.new.ensures j ∷ []) ∙ replicate_more c.loop.counter []
