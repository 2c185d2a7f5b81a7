use Rattle.std.proofs.Common.{arith}
use Rattle.vt_model.proofs.Sizes.{out_fits}
use Rattle.vt_lookup.proofs.looking.Looking.look_at_next.Goals as goal

pub new-out-requires : goal.new-out-requires
new-out-requires g c = (out_fits _ _ g.met.M.Model.payload_align g.met.M.Model.payload_size, (omega arith, (omega arith, omega arith)))

pub look_at-requires-after_bounds : goal.look_at-requires-after_bounds
look_at-requires-after_bounds g c κs within = (out_fits _ _ g.met.M.Model.payload_align g.met.M.Model.payload_size, (omega arith, omega arith))

pub sends-requires : goal.sends-requires
sends-requires g c = out_fits _ _ g.met.M.Model.payload_align g.met.M.Model.payload_size
