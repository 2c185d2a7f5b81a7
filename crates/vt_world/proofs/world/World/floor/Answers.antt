use Rattle.std.proofs.Common.{◌≡◌, ◌∙◌, ap, sym, subst}
use Rattle.std.specs.Prelude.{IsTrue}
use Rattle.vt_key.specs.promise.Times.{TimeAtMost}
use Rattle.vt_model.proofs.LawLemmas.{lawful_of}
use Rattle.vt_model.specs.promise.Settings.{end_of}
use Rattle.vt_model.specs.promise.Simulation.{simulation_of}
use Rattle.vt_steps.specs.promise.World.{book_floor}
use Rattle.vt_steps.specs.promise.Next.{reached}
use Rattle.vt_steps.proofs.book.HeadlineTheorem.{headline}
use Rattle.vt_world.specs.promise.Calls.{RunWorld}
use Rattle.vt_world.proofs.world.World.floor.Goals as goal

pub returns : goal.returns
returns g c =
    let i = c.self.inside in
    let m = i.memory in
    let H = g.M.Model.handlers m.model in
    let value = c.floor.ensures ∙ ap (book_floor (end_of m.config)) (sym c.self.invariant.book) in
    let world = reached (simulation_of H m.config) i.serial i.steps.items in
    let right = headline (simulation_of H m.config) (lawful_of H m.config (g.met.M.Model.start_within m.model) (g.met.M.Model.forward_within m.model)) i.serial i.steps.items in
    record {
      value = subst (λ (v : RunWorld _ _). c.floor.result ≡ book_floor (end_of v.config) v.world.book) c.self.view_is value;
      announced = subst (λ (v : RunWorld _ _). TimeAtMost c.floor.result v.world.board.announced) c.self.view_is (subst (λ t. TimeAtMost t world.board.announced) (sym value) right.floors.floor);
      closed = subst (λ (v : RunWorld _ _). IsTrue v.world.book.is_closed → c.floor.result ≡ end_of v.config) c.self.view_is (λ shut. value ∙ (right.closed shut).at_end);
    }
