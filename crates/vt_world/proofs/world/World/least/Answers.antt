use Rattle.std.proofs.Common.{◌≡◌, ◌∙◌, refl, sym, subst}
use Rattle.vt_key.specs.promise.Times.{TimeAtMost}
use Rattle.vt_model.proofs.LawLemmas.{lawful_of}
use Rattle.vt_model.specs.promise.Settings.{end_of}
use Rattle.vt_model.specs.promise.Simulation.{simulation_of}
use Rattle.vt_steps.specs.promise.World.{least}
use Rattle.vt_steps.proofs.book.HeadlineTheorem.{headline}
use Rattle.vt_world.specs.promise.Calls.{RunWorld}
use Rattle.vt_world.specs.promise.Answers.{IsReachedWorld}
use Rattle.vt_world.proofs.HeldLemmas.{least-same}
use Rattle.vt_world.proofs.world.World.least.Goals as goal

pub returns : goal.returns
returns g c =
    let i = c.self.inside in
    let m = i.memory in
    let H = g.M.Model.handlers m.model in
    let value = c.least.ensures ∙ sym (least-same H m _ c.self.invariant) in
    let right = (headline (simulation_of H m.config) (lawful_of H m.config (g.met.M.Model.start_within m.model) (g.met.M.Model.forward_within m.model)) i.serial i.steps.items).floors in
    record {
      value = subst (λ (v : RunWorld _ _). c.least.result ≡ least (end_of v.config) v.world) c.self.view_is value;
      announced = subst (λ (v : RunWorld _ _). TimeAtMost v.world.board.announced c.least.result) c.self.view_is (subst (TimeAtMost _) (sym value) right.announced);
      reached = subst (λ (v : RunWorld _ _). IsReachedWorld (simulation_of (g.M.Model.handlers v.model) v.config) v.world) c.self.view_is ∣ (i.serial, i.steps.items, refl) ∣₁;
    }
