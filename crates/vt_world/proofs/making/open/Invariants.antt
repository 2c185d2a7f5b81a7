use Rattle.std.proofs.Common.{[]}
use Rattle.vt_world.proofs.making.open.Given as goal

abbrev pub ghost-picked : goal.ghost-picked
ghost-picked g a = []
