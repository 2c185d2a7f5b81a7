use Rattle.std.proofs.Common.{◌≡◌, ◌<◌, ◌≤◌, ℕ, true, false, IfSome, IfNone, subst}
use Rattle.vt_steps.specs.promise.CellSteps.{may_send}
use Rattle.vt_kernel.specs.inside.Held.{HeldWorker}
use Rattle.vt_share.proofs.share.Share.receiver_from.Goals as goal

pub returns-clause-first : goal.returns-clause-first
returns-clause-first g c =
    let v = c.args.v in
    subst (λ (k : HeldWorker _ _ _). IfSome c.receiver_from.result
    (λ (u : ℕ). (v ≤ u) × (u < k.config.workers) × (may_send k.config.workers k.worker u k.outbox ≡ true) × ((n : ℕ) → v ≤ n → n < u → may_send k.config.workers k.worker n k.outbox ≡ false))) c.self.view_is
    c.receiver_from.ensures.first

pub returns-clause-nobody : goal.returns-clause-nobody
returns-clause-nobody g c =
    subst (λ (k : HeldWorker _ _ _). IfNone c.receiver_from.result ((n : ℕ) → c.args.v ≤ n → may_send k.config.workers k.worker n k.outbox ≡ false)) c.self.view_is
    c.receiver_from.ensures.nobody
