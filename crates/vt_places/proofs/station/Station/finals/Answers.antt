use Rattle.std.proofs.Common.{rules, ◌≡◌, ℕ, ◌∙◌, subst}
use Rattle.std.specs.Prelude.{IfOk}
use Rattle.std.proofs.lemmas.Result.{IfOk-weaker}
use Rattle.vt_key.specs.promise.Times.{TimeAtMost}
use Rattle.vt_model.specs.declared.settings.Config.{Config}
use Rattle.vt_model.specs.promise.Settings.{end_of}
use Rattle.vt_model.specs.promise.Simulation.{simulation_of}
use Rattle.vt_model.proofs.LawLemmas.{lawful_of}
use Rattle.vt_steps.specs.inside.Finals.{worker_finals}
use Rattle.vt_places.specs.inside.Calls.{IsShown, Reaches}
use Rattle.vt_places.proofs.FinalLemmas.{finals-right}
use Rattle.vt_places.proofs.station.Station.finals.Goals as goal

pub returns-clause-values : goal.returns-clause-values
returns-clause-values g c =
    let H = g.M.Model.handlers in
    let m = c.args.model.now in
    let config = c.args.config in
    let v = c.args.place.now.seat.me.0 in
    let k = c.args.kernel.now in
    let lawful = lawful_of (H m) config (g.met.M.Model.start_within m) (g.met.M.Model.forward_within m) in
    let known = subst (λ (z : g.row.M.Denot × Config). Reaches (H z.0) z.1 v k × IsShown (simulation_of (H z.0) z.1) v) (λ j. (c.requires.told.0 j, c.requires.told.1 j)) (c.requires.kernel, c.look.ensures.shown) in
    let end : TimeAtMost (end_of config) k.floor = search rules in
    let there : IfOk c.finals.result (λ values. values.items ≡ worker_finals (simulation_of (H m) config) v.worker) =
    IfOk-weaker c.finals.result _ _ (λ values is. is ∙ finals-right (H m) config lawful v k known.0 known.1 end) (c.finals.ensures.values known.0.part known.0.stands) in
    subst (λ (n : ℕ). IfOk c.finals.result (λ values. values.items ≡ worker_finals (simulation_of (H m) config) n)) c.args.place.now.own there
