use Rattle.std.proofs.Common.{◌∙◌, ℕ, [], ap}
use Rattle.vt_model.proofs.Sizes.{out_fits, first_out}
use Rattle.vt_kernel.proofs.making.count_started.Goals as goal
use Rattle.vt_model.specs.promise.Settings.{end_of}

pub new-out-requires : goal.new-out-requires
new-out-requires g c = first_out _ _ c.args.config g.met.M.Model.payload_align g.met.M.Model.payload_size c.requires.known c.tick.ensures

pub sends-requires : goal.sends-requires
sends-requires g c = out_fits _ _ g.met.M.Model.payload_align g.met.M.Model.payload_size

pub start-requires-after_bounds : goal.start-requires-after_bounds
start-requires-after_bounds g c κs within =
    (out_fits _ _ g.met.M.Model.payload_align g.met.M.Model.payload_size, (c.requires.known, c.new-out.ensures.whole ∙ ap (λ (t : ℕ). record { lps = c.args.config.lps; end = (end_of c.args.config); lp = c.args.p; time = t; first = 0; number = 0; sends = []; records = [] }) c.tick.ensures))
