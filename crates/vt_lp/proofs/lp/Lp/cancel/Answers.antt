use Rattle.std.proofs.Common.{◌≡◌, ◌∙◌, true, false, length, suc, ap, sym, subst}
use Rattle.vt_steps.specs.promise.ProcessSteps.{can_annihilate}
use Rattle.vt_lp.specs.inside.Held.{HeldProcess, StandsFor}
use Rattle.vt_lp.proofs.CancelLemmas.{cancel-none, cancels, inside-cancelled, fewer-both}
use Rattle.vt_lp.proofs.ProcessView.{process_view}
use Rattle.vt_lp.proofs.lp.Lp.cancel.Goals as goal

pub returns-then-not-annihilate-clause-refused : goal.returns-then-not-annihilate-clause-refused
returns-then-not-annihilate-clause-refused g c handlers h s =
    let held = c.args.self.now in
    let cannot : can_annihilate c.args.stamp held.pending held.waiting ≡ false =
    ap (λ (v : HeldProcess _ _ _). can_annihilate c.args.stamp v.pending v.waiting) (sym c.self.view_is) ∙ sym c.annihilate.ensures ∙ c.if-not-annihilate.true in
    cancel-none handlers held h c.args.stamp cannot s

pub invariant_of-self : goal.invariant_of-self
invariant_of-self g c =
    let inside = c.self.inside in
    inside-cancelled inside.config inside.lp inside.process.number inside.process.stream inside.past inside.pending inside.waiting c.take_stamp.new.self c.take_stamp-2.new.self
    c.args.stamp c.take_stamp.ensures.others c.take_stamp-2.ensures.others c.self.invariant

pub returns-clause-done : goal.returns-clause-done
returns-clause-done g c handlers h s =
    let inside = c.self.inside in
    let held = process_view inside.lp inside.config inside.process.state inside.process.number inside.process.stream inside.past inside.pending inside.waiting in
    let stands = subst (λ (v : HeldProcess _ _ _). StandsFor handlers v h) (sym c.self.view_is) s in
    let can : can_annihilate c.args.stamp held.pending held.waiting ≡ true = sym c.annihilate.ensures ∙ c.if-not-annihilate.false in
    cancels handlers held h c.args.stamp c.take_stamp.new.self c.take_stamp-2.new.self c.take_stamp.ensures.others c.take_stamp-2.ensures.others can stands

pub returns-clause-fewer : goal.returns-clause-fewer
returns-clause-fewer g c =
    let inside = c.self.inside in
    let can : can_annihilate c.args.stamp inside.pending inside.waiting ≡ true = sym c.annihilate.ensures ∙ c.if-not-annihilate.false in
    subst (λ (v : HeldProcess _ _ _). (suc (length c.take_stamp.new.self) ≡ length v.pending) × (suc (length c.take_stamp-2.new.self) ≡ length v.waiting)) c.self.view_is
    (fewer-both c.args.stamp inside.pending inside.waiting c.take_stamp.new.self c.take_stamp-2.new.self c.take_stamp.ensures.others c.take_stamp-2.ensures.others can)
