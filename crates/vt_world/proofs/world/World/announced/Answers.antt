use Rattle.std.proofs.Common.{◌≡◌, ◌∙◌, ap, sym, subst}
use Rattle.vt_key.specs.promise.Times.{TimeAtMost}
use Rattle.vt_model.proofs.LawLemmas.{lawful_of}
use Rattle.vt_model.specs.promise.Settings.{end_of}
use Rattle.vt_model.specs.promise.Simulation.{simulation_of}
use Rattle.vt_steps.specs.promise.World.{Board, least}
use Rattle.vt_steps.specs.promise.Next.{reached}
use Rattle.vt_steps.proofs.book.HeadlineTheorem.{headline}
use Rattle.vt_world.specs.promise.Calls.{RunWorld}
use Rattle.vt_world.proofs.world.World.announced.Goals as goal

pub returns : goal.returns
returns g c =
    let i = c.self.inside in
    let m = i.memory in
    let H = g.M.Model.handlers m.model in
    let value = c.announced.ensures ∙ ap (λ (b : Board). b.announced) (sym c.self.invariant.board) in
    let world = reached (simulation_of H m.config) i.serial i.steps.items in
    let right = (headline (simulation_of H m.config) (lawful_of H m.config (g.met.M.Model.start_within m.model) (g.met.M.Model.forward_within m.model)) i.serial i.steps.items).floors in
    record {
      value = subst (λ (v : RunWorld _ _). c.announced.result ≡ v.world.board.announced) c.self.view_is value;
      least = subst (λ (v : RunWorld _ _). TimeAtMost c.announced.result (least (end_of v.config) v.world)) c.self.view_is (subst (λ t. TimeAtMost t (least (end_of m.config) world)) (sym value) right.announced);
    }
