use Rattle.std.proofs.Common.{◌≡◌, ◌∙◌, suc, ◌+◌, ◌≤◌, List, ◌∷◌, [], drop, map, length, true, IfSome, refl, sym, ap, subst, arith}
use Rattle.vt_key.specs.promise.Queues.{letter_rank}
use Rattle.vt_key.specs.declared.letter.Letter.{Letter}
use Rattle.vt_key.specs.declared.letter.Mail.{Mail}
use Rattle.vt_key.specs.declared.letter.Sign.TheVariants.{Plus}
use Rattle.vt_steps.proofs.lists.Indices.{get-within}
use Rattle.vt_pool.specs.inside.Inside.{AreSettled, IsHeard}
use Rattle.vt_pool.specs.inside.Pool.{MayCome, holds_stamp, with_letter}
use Rattle.vt_pool.specs.inside.Share.{HeldPool, PoolLeadsTo}
use Rattle.vt_share.specs.inside.Calls.{AcceptsFirst}
use Rattle.vt_share.proofs.AcceptLemmas.{drop-at, accepts-asked, accepts-next, accepts-nothing, next-letter, next-may_come, past-end}
use Rattle.vt_share.proofs.arriving.accept_new.Goals as goal

pub loop-accepted-init : goal.loop-accepted-init
loop-accepted-init g c = record {
  within = omega arith;
  letters = c.requires.letters;
  leads = accepts-nothing (g.M.Model.handlers c.args.model.now) c.args.mails.now c.args.pool.now;
  settled = c.requires.settled;
  worker = refl;
  config = refl;
}

pub unreachable-requires : goal.unreachable-requires
unreachable-requires g c =
    let mails = c.args.mails.now in
    let i = c.loop-accepted.accepted in
    let at = get-within mails i c.loop-accepted-test.true in
    let letters : List (Mail _) → List (Letter _) = map (λ (m : Mail _). m.letter) in
    let none : c.loop-accepted.letters ≡ [] = c.in_default.ensures.0 in
    let e : [] ≡ at.0.letter ∷ letters (drop (suc i) mails) = sym none ∙ c.loop-accepted.invariant.letters ∙ ap letters (drop-at mails i at.0 at.1) in
    absurd (omega (arith, ap length e))

pub accept-requires-clause-may : goal.accept-requires-clause-may
accept-requires-clause-may g c κs within =
    let handlers = g.M.Model.handlers c.args.model.now in
    let mails = c.args.mails.now in
    let i = c.loop-accepted.accepted in
    let inv = c.loop-accepted.invariant in
    let pool = c.loop-accepted.pool in
    let asked = c.is_held.new.self in
    let less = c.loop-accepted-test.true in
    let at = get-within mails i less in
    let next = next-letter mails i at.0 c.in-Some.letter c.pop_front.new.self at.1 (sym c.in-Some.ensures ∙ inv.letters) in
    let it = c.get.ensures ∙ next.0 in
    let new = ap (λ (l : Letter _). holds_stamp l.sign (letter_rank l).stamp pool.stock) (sym it) ∙ sym c.is_held.ensures.held ∙ c.if-is_held.false in
    let heard = subst (λ (l : Letter _). l.sign ≡ Plus → IsHeard asked.heard (letter_rank l).stamp) it c.is_held.ensures.heard in
    subst (MayCome asked) (sym next.0) (next-may_come handlers mails c.args.pool.now pool asked i at.0 c.is_held.ensures.same at.1 inv.worker inv.config c.requires.own new heard)

pub loop-accepted-preserved : goal.loop-accepted-preserved
loop-accepted-preserved g c =
    let handlers = g.M.Model.handlers c.args.model.now in
    let mails = c.args.mails.now in
    let i = c.loop-accepted.accepted in
    let inv = c.loop-accepted.invariant in
    let old = c.args.pool.now in
    let pool = c.loop-accepted.pool in
    let asked = c.is_held.new.self in
    let same = c.is_held.ensures.same in
    let less = c.loop-accepted-test.true in
    let at = get-within mails i less in
    let next = next-letter mails i at.0 c.in-Some.letter c.pop_front.new.self at.1 (sym c.in-Some.ensures ∙ inv.letters) in
    let it = c.get.ensures ∙ next.0 in
    let new = ap (λ (l : Letter _). holds_stamp l.sign (letter_rank l).stamp pool.stock) (sym it) ∙ sym c.is_held.ensures.held ∙ c.if-is_held.false in
    let heard = subst (λ (l : Letter _). l.sign ≡ Plus → IsHeard asked.heard (letter_rank l).stamp) it c.is_held.ensures.heard in
    let may = next-may_come handlers mails old pool asked i at.0 same at.1 inv.worker inv.config c.requires.own new heard in
    let comes = subst (λ (l : Letter _). PoolLeadsTo handlers (with_letter l asked) c.accept.new.self) next.0 c.accept.ensures.leads in
    let leads = accepts-next handlers mails old asked c.accept.new.self i at.0 c.fits.ensures.known c.fits.ensures.inside
    (accepts-asked handlers mails old pool asked i at.0 same at.1 inv.leads) at.1 may comes in
    let more : suc i ≡ i + 1 = omega arith in
    record {
      within = omega (arith, less);
      letters = next.1 ∙ ap (λ n. map (λ (m : Mail _). m.letter) (drop n mails)) more;
      leads = subst (λ n. AcceptsFirst handlers n mails old c.accept.new.self) more leads;
      settled = c.accept.ensures.settled;
      worker = c.accept.ensures.same.0 ∙ ap (λ (p : HeldPool _ _ _). p.worker) same ∙ inv.worker;
      config = c.accept.ensures.same.1 ∙ ap (λ (p : HeldPool _ _ _). p.config) same ∙ inv.config;
    }

pub returns-then-is_held-clause-leads : goal.returns-then-is_held-clause-leads
returns-then-is_held-clause-leads g c =
    let mails = c.args.mails.now in
    let i = c.loop-accepted.accepted in
    let at = get-within mails i c.loop-accepted-test.true in
    accepts-asked (g.M.Model.handlers c.args.model.now) mails c.args.pool.now c.loop-accepted.pool c.is_held.new.self i at.0 c.is_held.ensures.same at.1 c.loop-accepted.invariant.leads

pub returns-then-is_held-clause-held : goal.returns-then-is_held-clause-held
returns-then-is_held-clause-held g c =
    let mails = c.args.mails.now in
    let i = c.loop-accepted.accepted in
    let inv = c.loop-accepted.invariant in
    let pool = c.loop-accepted.pool in
    let at = get-within mails i c.loop-accepted-test.true in
    let next = next-letter mails i at.0 c.in-Some.letter c.pop_front.new.self at.1 (sym c.in-Some.ensures ∙ inv.letters) in
    let it = c.get.ensures ∙ next.0 in
    let held = ap (λ (l : Letter _). holds_stamp l.sign (letter_rank l).stamp pool.stock) (sym it) ∙ sym c.is_held.ensures.held ∙ c.if-is_held.true in
    let still = ap (λ (p : HeldPool _ _ _). holds_stamp at.0.letter.sign (letter_rank at.0.letter).stamp p.stock) c.is_held.ensures.same ∙ held in
    subst (λ o. IfSome o (λ (mail : Mail _). holds_stamp mail.letter.sign (letter_rank mail.letter).stamp c.is_held.new.self.stock ≡ true)) (sym at.1) still

pub returns-then-is_held-clause-settled : goal.returns-then-is_held-clause-settled
returns-then-is_held-clause-settled g c = subst (λ (p : HeldPool _ _ _). AreSettled p.stock) (sym c.is_held.ensures.same) c.loop-accepted.invariant.settled

pub returns-then-is_held-clause-same : goal.returns-then-is_held-clause-same
returns-then-is_held-clause-same g c =
    let inv = c.loop-accepted.invariant in
    (ap (λ (p : HeldPool _ _ _). p.worker) c.is_held.ensures.same ∙ inv.worker, ap (λ (p : HeldPool _ _ _). p.config) c.is_held.ensures.same ∙ inv.config)

pub returns-clause-leads : goal.returns-clause-leads
returns-clause-leads g c =
    let inv = c.loop-accepted.invariant in
    let past = c.loop-accepted-test.false in
    let within = inv.within in
    let all : c.loop-accepted.accepted ≡ length c.args.mails.now = omega (arith, past, within) in
    subst (λ n. AcceptsFirst (g.M.Model.handlers c.args.model.now) n c.args.mails.now c.args.pool.now c.loop-accepted.pool) all inv.leads

pub returns-clause-held : goal.returns-clause-held
returns-clause-held g c =
    let all : length c.args.mails.now ≤ length c.args.mails.now = omega arith in
    subst (λ o. IfSome o (λ (mail : Mail _). holds_stamp mail.letter.sign (letter_rank mail.letter).stamp c.loop-accepted.pool.stock ≡ true)) (sym (past-end c.args.mails.now (length c.args.mails.now) all)) tt
