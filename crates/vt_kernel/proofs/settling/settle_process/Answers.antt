use Rattle.std.proofs.Common.{◌≡◌, ◌∙◌, refl, sym, subst}
use Rattle.std.proofs.lemmas.Result.{IfErr-weaker}
use Rattle.vt_steps.specs.promise.ProcessSteps.{can_annihilate}
use Rattle.vt_model.specs.declared.settings.Config.{Config}
use Rattle.vt_lp.specs.inside.Held.{AllWithinRun}
use Rattle.vt_kernel.proofs.SettlingLemmas.{led-start, led-undone, led-cancelled, led-same, settled-now, in-ok, in-err, cannot-err}
use Rattle.vt_kernel.proofs.settling.settle_process.Given.{Over}
use Rattle.vt_kernel.proofs.settling.settle_process.Goals.{After-cancellable}
use Rattle.vt_kernel.proofs.settling.settle_process.Goals as goal

pub loop-undone-init : goal.loop-undone-init
loop-undone-init g c = record {
  led = λ h s. led-start (g.M.Model.handlers c.args.model.now) h c.args.process.now c.args.outbox.now s;
  within = λ w. w;
  lp = refl;
  config = refl;
}

pub loop-undone-preserved-then-is_ok : goal.loop-undone-preserved-then-is_ok
loop-undone-preserved-then-is_ok g c =
    let handlers = g.M.Model.handlers c.args.model.now in
    let inv = c.loop-undone.invariant in
    let ok = sym c.is_ok.ensures.value ∙ c.if-is_ok.true in
    let same = c.undo.ensures.same in
    record {
      led = λ h s.
          (let so_far = inv.led h s in
          led-undone handlers h c.loop-undone.process c.undo.new.self c.args.outbox.now c.loop-undone.outbox c.undo.new.outbox c.loop-undone.undone _ so_far same.0 refl
          (in-ok c.undo.result ok (c.undo.ensures.done so_far.effect.process so_far.stands)));
      within = λ w. subst (λ (k : Config). AllWithinRun k c.loop-undone.outbox → AllWithinRun k c.undo.new.outbox) inv.config c.undo.ensures.within (inv.within w);
      lp = same.0 ∙ inv.lp;
      config = same.1 ∙ inv.config;
    }

-- the undo that was refused left the process and the outbox
left : (g : Over) (c : After-cancellable g) → (c.undo.new.self ≡ c.loop-undone.process) × (c.undo.new.outbox ≡ c.loop-undone.outbox)
left g c = in-err c.undo.result (sym c.is_ok.ensures.value ∙ c.if-is_ok.false) (IfErr-weaker c.undo.result _ _ (λ _ kept. (kept.1, kept.2)) c.undo.ensures.kept)

pub returns-in_default-clause-settled : goal.returns-in_default-clause-settled
returns-in_default-clause-settled g c h s =
    let handlers = g.M.Model.handlers c.args.model.now in
    let so_far = c.loop-undone.invariant.led h s in
    let err = sym c.is_ok.ensures.value ∙ c.if-is_ok.false in
    let kept = left g (goal.at.returns-in_default-clause-settled g c).After-cancellable in
    settled-now handlers h c.loop-undone.process c.undo.new.self c.args.outbox.now c.loop-undone.outbox c.undo.new.outbox c.loop-undone.undone so_far kept.0 kept.1
    (in-err c.undo.result err (c.undo.ensures.refused so_far.effect.process so_far.stands)) c.in_default.ensures.none

pub loop-undone-preserved : goal.loop-undone-preserved
loop-undone-preserved g c =
    let handlers = g.M.Model.handlers c.args.model.now in
    let inv = c.loop-undone.invariant in
    let kept = left g (goal.at.loop-undone-preserved g c).After-cancellable in
    let ok = cannot-err c.cancel.result (can_annihilate c.in-Some.stamp c.undo.new.self.pending c.undo.new.self.waiting) c.cancel.ensures.unlawful c.in-Some.ensures.lawful in
    let same = c.cancel.ensures.same in
    record {
      led = λ h s.
          (let so_far = led-same handlers h c.loop-undone.process c.undo.new.self c.args.outbox.now c.loop-undone.outbox c.undo.new.outbox c.loop-undone.undone (inv.led h s) kept.0 kept.1 in
          led-cancelled handlers c.in-Some.stamp h c.undo.new.self c.cancel.new.self c.args.outbox.now c.undo.new.outbox c.loop-undone.undone so_far same.0
          (in-ok c.cancel.result ok (c.cancel.ensures.done handlers so_far.effect.process so_far.stands)));
      within = λ w. subst (λ (k : Config). AllWithinRun k c.loop-undone.outbox → AllWithinRun k c.undo.new.outbox) inv.config c.undo.ensures.within (inv.within w);
      lp = same.0 ∙ c.undo.ensures.same.0 ∙ inv.lp;
      config = same.1 ∙ c.undo.ensures.same.1 ∙ inv.config;
    }
