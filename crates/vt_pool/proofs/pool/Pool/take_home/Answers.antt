use Rattle.std.proofs.Common.{subst, IfSome}
use Rattle.vt_model.specs.promise.Settings.{end_of}
use Rattle.vt_steps.specs.promise.PartSteps.{is_for}
use Rattle.vt_lp.specs.inside.Held.{IsWithinRun}
use Rattle.vt_pool.specs.inside.Share.{HeldPool}
use Rattle.vt_pool.proofs.HomeLemmas.{found-has}
use Rattle.vt_pool.proofs.PoolLemmas.{pool-left}
use Rattle.vt_pool.proofs.pool.Pool.take_home.Goals as goal

pub invariant_of-self : goal.invariant_of-self
invariant_of-self g c =
    let i = c.self.inside in
    (pool-left c.self.invariant.0 (is_for i.outbox.config.workers i.worker) c.pop_for.new.self c.pop_for.ensures.left, c.self.invariant.1, c.self.invariant.2)

pub returns-clause-within : goal.returns-clause-within
returns-clause-within g c =
    let i = c.self.inside in
    subst (λ (v : HeldPool _ _ _). IfSome c.pop_for.result (λ letter. IsWithinRun v.config.lps (end_of v.config) letter)) c.self.view_is
    (found-has (IsWithinRun i.config.lps (end_of i.config)) (is_for i.outbox.config.workers i.worker) i.outbox.letters c.pop_for.result c.self.invariant.0.sendable c.pop_for.ensures.letter)
