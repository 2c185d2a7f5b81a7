use Rattle.std.proofs.Common.{◌∙◌, ℕ, [], ap}
use Rattle.vt_model.proofs.Sizes.{out_fits, first_out}
use Rattle.vt_model.specs.promise.Settings.{end_of}
use Rattle.vt_lookup.proofs.looking.started.Goals as goal

pub new-out-requires : goal.new-out-requires
new-out-requires g c = first_out _ _ c.args.config g.met.M.Model.payload_align g.met.M.Model.payload_size c.requires c.tick-now.ensures

pub start-tried-requires-after_bounds : goal.start-tried-requires-after_bounds
start-tried-requires-after_bounds g c κs within =
    let config = c.args.config in
    (out_fits _ _ g.met.M.Model.payload_align g.met.M.Model.payload_size, (c.requires, c.new-out.ensures.whole ∙ ap (λ (t : ℕ). record { lps = config.lps; end = end_of config; lp = c.args.lp; time = t; first = 0; number = 0; sends = []; records = [] }) c.tick-now.ensures))

pub renew-requires : goal.renew-requires
renew-requires g c = first_out _ _ c.args.config g.met.M.Model.payload_align g.met.M.Model.payload_size c.requires c.tick-now.ensures

pub start-steady-requires-after_bounds : goal.start-steady-requires-after_bounds
start-steady-requires-after_bounds g c κs within =
    let config = c.args.config in
    (out_fits _ _ g.met.M.Model.payload_align g.met.M.Model.payload_size, (c.requires, c.renew.ensures.whole ∙ ap (λ (t : ℕ). record { lps = config.lps; end = end_of config; lp = c.args.lp; time = t; first = 0; number = 0; sends = []; records = [] }) c.tick-now.ensures))

pub sends-requires : goal.sends-requires
sends-requires g c = out_fits _ _ g.met.M.Model.payload_align g.met.M.Model.payload_size
