use Rattle.vt_world.proofs.world.add_step.Given as goal

abbrev pub ghost-picked : goal.ghost-picked
ghost-picked g a = g.all
