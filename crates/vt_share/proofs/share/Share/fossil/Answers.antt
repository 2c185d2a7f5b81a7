use Rattle.std.proofs.Common.{◌≡◌, refl, sym, subst}
use Rattle.vt_steps.specs.promise.PartSteps.{part_after_commit}
use Rattle.vt_kernel.specs.inside.Held.{HeldWorker, StandsFor}
use Rattle.vt_kernel.proofs.PartLemmas.{stands_along}
use Rattle.vt_pool.specs.inside.Share.{HeldPool, seen}
use Rattle.vt_pool.proofs.CommitLemmas.{forgotten-settled}
use Rattle.vt_pool.proofs.ForgetLemmas.{forget-stands}
use Rattle.vt_share.specs.inside.Held.{share_of, IsShareInside}
use Rattle.vt_share.proofs.share.Share.fossil.Goals as goal

pub invariant_of-self : goal.invariant_of-self
invariant_of-self g c =
    let i = c.self.inside in
    subst (λ (p : HeldPool _ _ _). IsShareInside p.config p.worker p.stock i.arrived.items i.sent i.got) (sym c.forget.ensures) (record {
      settled = forgotten-settled i.floor i.pool.stock c.self.invariant.settled;
      own_mail = c.self.invariant.own_mail;
      few_sent = c.self.invariant.few_sent;
      few_got = c.self.invariant.few_got;
    })

pub returns-clause-stands : goal.returns-clause-stands
returns-clause-stands g c handlers part s =
    let i = c.self.inside in
    let held : HeldWorker _ _ _ = seen (share_of i.pool i.arrived.items i.colour i.sent i.got i.red_minimum i.floor) in
    subst (λ (p : HeldPool _ _ _). StandsFor handlers (seen (share_of p i.arrived.items i.colour i.sent i.got i.red_minimum i.floor)) (part_after_commit part)) (sym c.forget.ensures)
    (forget-stands handlers held i.pool.stock refl c.fits.ensures.inside.pasts_rise part (stands_along c.self.view_is handlers part s))

pub returns-clause-others : goal.returns-clause-others
returns-clause-others g c =
    let i = c.self.inside in
    let new : HeldPool _ _ _ → HeldWorker _ _ _ = λ p. seen (share_of p i.arrived.items i.colour i.sent i.got i.red_minimum i.floor) in
    subst (λ (v : HeldWorker _ _ _). new c.forget.new.self ≡ record v { processes = (new c.forget.new.self).processes }) c.self.view_is
    (subst (λ (p : HeldPool _ _ _). new p ≡ record (new i.pool) { processes = (new p).processes }) (sym c.forget.ensures) refl)
