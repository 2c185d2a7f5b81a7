use Rattle.std.proofs.Common.{◌≡◌, ◌<◌, ◌≤◌, ℕ, List, length, filter, IfSome, IfNone, subst}
use Rattle.vt_key.specs.declared.letter.Letter.{Letter}
use Rattle.vt_model.specs.declared.settings.Config.{Config}
use Rattle.vt_steps.specs.promise.PartSteps.{is_for}
use Rattle.vt_pool.specs.inside.Share.{HeldPool}
use Rattle.vt_pool.proofs.pool.Pool.count_for.Goals as goal

pub returns-clause-count : goal.returns-clause-count
returns-clause-count g c =
    let is = λ (workers : ℕ) (letters : List (Letter _)). IfSome c.count_for.result (λ (n : ℕ). (n ≡ length (filter (is_for workers c.args.v) letters)) × (n ≤ c.args.most)) in
    subst (λ (v : HeldPool _ _ _). is v.config.workers v.outbox) c.self.view_is
    (subst (λ (f : Config). is f.workers c.self.inside.outbox.letters) c.self.invariant.0.by_worker c.count_for.ensures.count)

pub returns-clause-more : goal.returns-clause-more
returns-clause-more g c =
    let is = λ (workers : ℕ) (letters : List (Letter _)). IfNone c.count_for.result (c.args.most < length (filter (is_for workers c.args.v) letters)) in
    subst (λ (v : HeldPool _ _ _). is v.config.workers v.outbox) c.self.view_is
    (subst (λ (f : Config). is f.workers c.self.inside.outbox.letters) c.self.invariant.0.by_worker c.count_for.ensures.more)
