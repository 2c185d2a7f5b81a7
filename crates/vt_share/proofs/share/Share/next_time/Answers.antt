use Rattle.std.proofs.Common.{◌≡◌, ◌∙◌, sym, ap, subst}
use Rattle.vt_model.specs.promise.Settings.{end_of}
use Rattle.vt_steps.specs.promise.Letters.{least_time}
use Rattle.vt_kernel.specs.inside.Held.{HeldWorker}
use Rattle.vt_pool.specs.inside.Share.{HeldPool, seen}
use Rattle.vt_share.specs.inside.Calls.{all_pending}
use Rattle.vt_share.specs.inside.Held.{share_of, IsShareInside}
use Rattle.vt_share.proofs.LetterLemmas.{least-pending}
use Rattle.vt_share.proofs.share.Share.next_time.Goals as goal

pub invariant_of-self : goal.invariant_of-self
invariant_of-self g c =
    let i = c.self.inside in
    subst (λ (p : HeldPool _ _ _). IsShareInside p.config p.worker p.stock i.arrived.items i.sent i.got) (sym c.next_time.ensures.same) c.self.invariant

pub returns-clause-next : goal.returns-clause-next
returns-clause-next g c =
    let i = c.self.inside in
    c.next_time.ensures.next ∙ least-pending i.pool.config i.pool.worker i.pool.stock c.fits.ensures.known c.fits.ensures.inside (end_of i.pool.config)
    ∙ ap (λ (v : HeldWorker _ _ _). least_time (end_of v.config) (all_pending v)) c.self.view_is

pub returns-clause-same : goal.returns-clause-same
returns-clause-same g c =
    let i = c.self.inside in
    ap (λ (p : HeldPool _ _ _). seen (share_of p i.arrived.items i.colour i.sent i.got i.red_minimum i.floor)) c.next_time.ensures.same ∙ c.self.view_is
