use Rattle.std.proofs.Common.{◌≡◌, ◌∙◌, ap, sym, subst, IfOk}
use Rattle.std.proofs.lemmas.Result.{IfOk-weaker}
use Rattle.std.specs.Prelude.{IsTrue}
use Rattle.vt_model.proofs.LawLemmas.{lawful_of}
use Rattle.vt_model.specs.promise.Sequential.{seq_records}
use Rattle.vt_model.specs.promise.Settings.{end_of}
use Rattle.vt_model.specs.promise.Simulation.{simulation_of}
use Rattle.vt_steps.specs.promise.World.{book_floor, book_records}
use Rattle.vt_steps.proofs.book.HeadlineTheorem.{headline}
use Rattle.vt_world.specs.promise.Calls.{RunWorld}
use Rattle.vt_world.proofs.world.World.records.Goals as goal

pub returns : goal.returns
returns g c =
    let i = c.self.inside in
    let m = i.memory in
    let H = g.M.Model.handlers m.model in
    let right = headline (simulation_of H m.config) (lawful_of H m.config (g.met.M.Model.start_within m.model) (g.met.M.Model.forward_within m.model)) i.serial i.steps.items in
    let there = ap (book_records (end_of m.config)) (sym c.self.invariant.book) in
    record {
      records = subst (λ (v : RunWorld _ _). IfOk c.records.result (λ r. r.items ≡ seq_records (simulation_of (g.M.Model.handlers v.model) v.config) (book_floor (end_of v.config) v.world.book))) c.self.view_is
          (IfOk-weaker c.records.result _ _ (λ r is. is ∙ there ∙ right.records.records) c.records.ensures.records);
      closed = subst (λ (v : RunWorld _ _). IsTrue v.world.book.is_closed → IfOk c.records.result (λ r. r.items ≡ seq_records (simulation_of (g.M.Model.handlers v.model) v.config) (end_of v.config))) c.self.view_is
          (λ shut. IfOk-weaker c.records.result _ _ (λ r is. is ∙ there ∙ (right.closed shut).records) c.records.ensures.records);
      refused = c.records.ensures.refused;
    }
