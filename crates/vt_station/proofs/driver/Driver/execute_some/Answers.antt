use Rattle.std.proofs.Common.{arith}
use Rattle.vt_model.proofs.Sizes.{out_fits, first_out}
use Rattle.vt_station.proofs.driver.Driver.execute_some.Goals as goal

pub new-out-requires : goal.new-out-requires
new-out-requires g c =
    let config = c.self.inside.config in
    first_out _ _ config g.met.M.Model.payload_align g.met.M.Model.payload_size (omega (arith, config.some_process)) c.tick.ensures

pub execute_one-requires-after_bounds : goal.execute_one-requires-after_bounds
execute_one-requires-after_bounds g c κs within = out_fits _ _ g.met.M.Model.payload_align g.met.M.Model.payload_size

pub sends-requires : goal.sends-requires
sends-requires g c = out_fits _ _ g.met.M.Model.payload_align g.met.M.Model.payload_size
