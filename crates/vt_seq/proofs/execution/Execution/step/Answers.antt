use Rattle.std.proofs.Common.{arith}
use Rattle.vt_model.proofs.Sizes.{out_fits, first_out}
use Rattle.vt_seq.proofs.execution.Execution.step.Goals as goal

pub new-out-requires : goal.new-out-requires
new-out-requires g c = first_out _ _ c.self.inside.engine.config g.met.M.Model.payload_align g.met.M.Model.payload_size (omega (arith, c.self.inside.engine.config.some_process)) c.tick.ensures

pub step_reusing-requires-after_bounds : goal.step_reusing-requires-after_bounds
step_reusing-requires-after_bounds g c κs within = out_fits _ _ g.met.M.Model.payload_align g.met.M.Model.payload_size

pub returns : goal.returns
returns g c = c.step_reusing.ensures
