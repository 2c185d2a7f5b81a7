use Rattle.std.proofs.Common.{◌≡◌, ◌<◌, ◌≤◌, ℕ, List, true, false, IfSome, IfNone, subst}
use Rattle.vt_key.specs.declared.letter.Letter.{Letter}
use Rattle.vt_model.specs.declared.settings.Config.{Config}
use Rattle.vt_steps.specs.promise.CellSteps.{may_send}
use Rattle.vt_kernel.specs.inside.Held.{HeldWorker}
use Rattle.vt_kernel.proofs.kernel.Kernel.receiver_from.Goals as goal

pub returns-clause-first : goal.returns-clause-first
returns-clause-first g c =
    let v = c.args.v in
    let is = λ (workers w : ℕ) (letters : List (Letter _)). IfSome c.receiver_from.result
    (λ (u : ℕ). (v ≤ u) × (u < workers) × (may_send workers w u letters ≡ true) × ((k : ℕ) → v ≤ k → k < u → may_send workers w k letters ≡ false)) in
    subst (λ (k : HeldWorker _ _ _). is k.config.workers k.worker k.outbox) c.self.view_is
    (subst (λ (f : Config). is f.workers c.self.inside.worker c.self.inside.outbox.letters) c.self.invariant.by_worker c.receiver_from.ensures.first)

pub returns-clause-nobody : goal.returns-clause-nobody
returns-clause-nobody g c =
    let is = λ (workers w : ℕ) (letters : List (Letter _)). IfNone c.receiver_from.result ((k : ℕ) → c.args.v ≤ k → may_send workers w k letters ≡ false) in
    subst (λ (k : HeldWorker _ _ _). is k.config.workers k.worker k.outbox) c.self.view_is
    (subst (λ (f : Config). is f.workers c.self.inside.worker c.self.inside.outbox.letters) c.self.invariant.by_worker c.receiver_from.ensures.nobody)
