use Rattle.std.proofs.Common.{◌≡◌, ◌∙◌, ◌++◌, List, map, sym, ap, subst}
use Rattle.std.specs.List.{flat_map}
use Rattle.vt_key.specs.promise.Times.{earlier}
use Rattle.vt_key.specs.declared.letter.Letter.{Letter}
use Rattle.vt_key.specs.declared.letter.Mail.{Mail}
use Rattle.vt_model.specs.promise.Settings.{end_of}
use Rattle.vt_steps.specs.promise.Letters.{least_time}
use Rattle.vt_lp.specs.inside.Held.{HeldProcess}
use Rattle.vt_kernel.specs.inside.Held.{HeldWorker}
use Rattle.vt_kernel.specs.inside.Guards.{held_letters}
use Rattle.vt_pool.specs.inside.Share.{HeldPool, seen}
use Rattle.vt_pool.specs.inside.View.{processes_in}
use Rattle.vt_share.specs.inside.Held.{share_of, IsShareInside}
use Rattle.vt_share.proofs.LetterLemmas.{least-held, least-kept}
use Rattle.vt_share.proofs.share.Share.least.Goals as goal

pub invariant_of-self : goal.invariant_of-self
invariant_of-self g c =
    let i = c.self.inside in
    subst (λ (p : HeldPool _ _ _). IsShareInside p.config p.worker p.stock i.arrived.items i.sent i.got) (sym c.least.ensures.same) c.self.invariant

pub returns-clause-least : goal.returns-clause-least
returns-clause-least g c =
    let i = c.self.inside in
    let pool = i.pool in
    let end = end_of pool.config in
    let letters : List (Mail _) → List (Letter _) = map (λ (m : Mail _). m.letter) in
    let at_end : c.end.result ≡ end = c.end.ensures ∙ ap end_of c.config.ensures in
    let arrived : c.least_of_mail-arrived.result ≡ least_time end (letters i.arrived.items) =
    c.least_of_mail-arrived.ensures ∙ (λ j. least_time (at_end j) (letters (c.deref.ensures.value j))) in
    let kept = least-kept pool.config pool.worker pool.stock c.fits.ensures.known c.fits.ensures.inside end in
    let all = flat_map (λ (q : HeldProcess _ _ _). q.pending ++ q.waiting) (processes_in pool.config pool.worker pool.stock) in
    c.earlier.ensures ∙ (λ j. earlier (c.least.ensures.least j) (arrived j)) ∙ least-held end pool.outbox (letters i.arrived.items) pool.stock.pending pool.stock.waiting all kept
    ∙ ap (λ (v : HeldWorker _ _ _). least_time (end_of v.config) (held_letters v)) c.self.view_is

pub returns-clause-same : goal.returns-clause-same
returns-clause-same g c =
    let i = c.self.inside in
    ap (λ (p : HeldPool _ _ _). seen (share_of p i.arrived.items i.colour i.sent i.got i.red_minimum i.floor)) c.least.ensures.same ∙ c.self.view_is
