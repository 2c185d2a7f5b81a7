use Rattle.std.proofs.Common.{◌≡◌, ◌∙◌, None, Some, true, ap, sym}
use Rattle.std.specs.Prelude.{find}
use Rattle.std.specs.Option.{option_copied}
use Rattle.vt_steps.specs.promise.ProcessSteps.{can_annihilate}
use Rattle.vt_key.specs.declared.letter.Letter.{Letter}
use Rattle.vt_key.proofs.ListLemmas.{find-passes}
use Rattle.vt_lp.specs.inside.Held.{HeldProcess}
use Rattle.vt_lp.proofs.CancelLemmas.{none-annihilate, IfNone-of}
use Rattle.vt_lp.proofs.lp.Lp.cancellable.Goals as goal

pub returns-in_err-letter-clause-none : goal.returns-in_err-letter-clause-none
returns-in_err-letter-clause-none g c =
    let inside = c.self.inside in
    let none : find (λ (l : Letter _). can_annihilate l.event.rank.stamp inside.pending inside.waiting) inside.waiting ≡ None = sym c.find.ensures ∙ ap option_copied c.in_err-letter.was in
    IfNone-of c.from_residual.result _
    (λ stamp. ap (λ (v : HeldProcess _ _ _). can_annihilate stamp v.pending v.waiting) (sym c.self.view_is) ∙ none-annihilate inside.pending inside.waiting none stamp)

pub returns-clause-lawful : goal.returns-clause-lawful
returns-clause-lawful g c =
    let inside = c.self.inside in
    let letter = c.in_ok-letter.letter.now in
    let found : find (λ (l : Letter _). can_annihilate l.event.rank.stamp inside.pending inside.waiting) inside.waiting ≡ Some letter = sym c.find.ensures ∙ ap option_copied c.in_ok-letter.was in
    let can : can_annihilate letter.event.rank.stamp c.args.self.now.pending c.args.self.now.waiting ≡ true =
    ap (λ (v : HeldProcess _ _ _). can_annihilate letter.event.rank.stamp v.pending v.waiting) (sym c.self.view_is)
    ∙ find-passes (λ (l : Letter _). can_annihilate l.event.rank.stamp inside.pending inside.waiting) inside.waiting letter found in
    can
