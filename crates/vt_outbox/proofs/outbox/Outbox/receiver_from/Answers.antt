use Rattle.std.proofs.Common.{◌≡◌, ◌∙◌, ◌≤◌, ℕ, Bool, true, false, not, ◌&&◌, nat_eq, nat_lt, refl, ap, subst, arith}
use Rattle.std.proofs.lemmas.Bool.{ltb-true, ltb-false}
use Rattle.vt_key.specs.declared.letter.Letter.{Letter}
use Rattle.vt_steps.specs.promise.PartSteps.{is_for}
use Rattle.vt_steps.specs.promise.CellSteps.{may_send}
use Rattle.vt_outbox.specs.inside.Outbox.{HeldOutbox}
use Rattle.vt_outbox.proofs.OutboxLemmas.{filter-never, never-beyond, none-filter}
use Rattle.vt_outbox.proofs.outbox.Outbox.receiver_from.Goals as goal

-- there are no letters for a worker behind the last
holds-none : {P : Type 0} (held : HeldOutbox P) (own k : ℕ) → held.config.workers ≤ k → may_send held.config.workers own k held.letters ≡ false
holds-none held own k past =
    let test : Letter _ → Bool = is_for held.config.workers k in
    ap (λ (b : Bool). not (nat_eq own k) && b) (none-filter test held.letters (filter-never test (never-beyond held.config k past) held.letters)) ∙ never (not (nat_eq own k))
  where
    never : (b : Bool) → (b && false) ≡ false
    never true = refl
    never false = refl

pub returns-clause-nobody : goal.returns-clause-nobody
returns-clause-nobody g c k from =
    let now = c.args.self.now in
    let u = c.loop-u.u in
    let past = subst (λ (v : HeldOutbox _). v.config.workers ≤ u) c.self.view_is c.loop-u-test.false in
    elim (nat_lt k u) as (λ (b : Bool). nat_lt k u ≡ b → may_send now.config.workers c.args.own k now.letters ≡ false) [
      | true ↦ λ less. c.loop-u.invariant.before k from (ltb-true k u less)
      | false ↦ λ more. (let behind = ltb-false k u more in holds-none now c.args.own k (omega (arith, behind, past)))
    ] refl
