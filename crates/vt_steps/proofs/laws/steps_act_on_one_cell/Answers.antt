use Rattle.vt_steps.proofs.steps.CellLemmas.{next-acts_on_one_cell, local-leaves_cells}
use Rattle.vt_steps.proofs.laws.steps_act_on_one_cell.Goals as goal

pub returns : goal.returns
returns g c = record { acts = next-acts_on_one_cell g.sim; leaves = local-leaves_cells g.sim }
