use Rattle.std.proofs.Common.{[], ◌∷◌, ◌++◌}
use Rattle.vt_world.proofs.world.World.step.Given as goal

abbrev pub ghost-add_step : goal.ghost-add_step
ghost-add_step g a = a.steps.now.items ++ a.step.now ∷ []
