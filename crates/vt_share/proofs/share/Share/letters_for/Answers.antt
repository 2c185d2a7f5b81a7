use Rattle.std.proofs.Common.{◌≡◌, ◌<◌, ◌≤◌, ◌+◌, ◌∙◌, ◌++◌, List, not, nat_eq, true, false, inl, refl, length, map, rules, sym, ap, subst, arith}
use Rattle.std.proofs.lemmas.Bool.Decides.{nat_tests}
use Rattle.std.specs.List.{filter}
use Rattle.vt_key.specs.declared.fault.Fault.{Fault}
use Rattle.vt_key.specs.declared.fault.Fault.TheVariants.{NotLawful}
use Rattle.vt_key.proofs.ResultLemmas.{if_err}
use Rattle.vt_key.specs.declared.letter.Letter.{Letter}
use Rattle.vt_key.specs.declared.limits.TheConstants.{MAX_COUNT}
use Rattle.vt_model.specs.promise.Simulation.{simulation_of}
use Rattle.vt_steps.specs.promise.Letters.{raised, count_of}
use Rattle.vt_steps.specs.promise.PartSteps.{letters_for, is_for, part_after_send}
use Rattle.vt_kernel.specs.inside.Held.{HeldWorker, AllOwnMail, AreCounted, StandsFor}
use Rattle.vt_kernel.specs.inside.Guards.{mailed, IsSendRefusal}
use Rattle.vt_kernel.specs.inside.Steps.{held_after_send}
use Rattle.vt_kernel.proofs.PartLemmas.{stands-send, mail-sent}
use Rattle.vt_kernel.proofs.SendLemmas.{count_of-counted, counted-raised, refused-send, count_sent, may_send-own, may_send-yes}
use Rattle.vt_pool.specs.inside.Share.{HeldPool, seen}
use Rattle.vt_share.specs.inside.Held.{share_of, IsShareInside}
use Rattle.vt_share.proofs.share.Share.letters_for.Goals as goal

pub returns-then-v-worker-clause-refused : goal.returns-then-v-worker-clause-refused
returns-then-v-worker-clause-refused g c handlers part s =
    let pool = c.self.inside.pool in
    let who = c.worker.ensures in
    let test : nat_eq pool.worker c.args.v ≡ true = grind (arith, nat_tests, who) in
    subst (λ (k : HeldWorker _ _ _). IsSendRefusal (simulation_of handlers k.config) k.worker c.args.v part NotLawful) c.self.view_is
    (inl (refl, may_send-own (simulation_of handlers pool.config) pool.worker c.args.v part test))

pub returns-in_err-count-clause-refused : goal.returns-in_err-count-clause-refused
returns-in_err-count-clause-refused g c handlers part s =
    let pool = c.self.inside.pool in
    let who = c.worker.ensures in
    let test : nat_eq pool.worker c.args.v ≡ false = grind (arith, nat_tests, who) in
    if_err (λ (fault : Fault). IsSendRefusal (simulation_of handlers c.args.self.now.config) c.args.self.now.worker c.args.v part fault) c.from_residual.result c.in_err-count.field-0.0 (search rules)
    (refused-send c.self.view_is handlers c.args.v part s c.in_err-count.field-0.0 c.room-room.result c.room-room.ensures test c.in_err-count.ensures.refused)

pub room-room-requires : goal.room-room-requires
room-room-requires g c = record { few = count_of-counted c.self.inside.sent c.self.inside.colour c.self.invariant.few_sent }

pub invariant_of-self : goal.invariant_of-self
invariant_of-self g c =
    let i = c.self.inside in
    subst (λ (p : HeldPool _ _ _). IsShareInside p.config p.worker p.stock i.arrived.items i.sent i.got) (sym c.in_err-count.ensures.kept.0) c.self.invariant

pub invariant_of-self-2 : goal.invariant_of-self-2
invariant_of-self-2 g c =
    let i = c.self.inside in
    let count = c.in_ok-count.ensures.count in
    let room = c.room-room.ensures in
    let few : count_of i.sent i.colour + c.in_ok-count.count ≤ MAX_COUNT = omega (arith, room, count.1) in
    subst (λ (p : HeldPool _ _ _). IsShareInside p.config p.worker p.stock i.arrived.items c.raise.new.self i.got) (sym c.in_ok-count.ensures.left) (record {
      settled = c.self.invariant.settled;
      own_mail = c.self.invariant.own_mail;
      few_sent = rw c.raise.ensures (counted-raised i.sent i.colour c.in_ok-count.count c.self.invariant.few_sent few);
      few_got = c.self.invariant.few_got;
    })

pub returns-clause-sent : goal.returns-clause-sent
returns-clause-sent g c =
    let i = c.self.inside in
    let pool = i.pool in
    let sent : c.raise.new.self ≡ raised i.sent i.colour (length (filter (is_for pool.config.workers c.args.v) pool.outbox)) = c.raise.ensures ∙ ap (raised i.sent i.colour) c.in_ok-count.ensures.count.0 in
    let red = c.in_ok-count.ensures.least in
    (λ j. seen (share_of (c.in_ok-count.ensures.left j) i.arrived.items i.colour (sent j) i.got (red j) i.floor)) ∙ ap (held_after_send c.args.v) c.self.view_is

pub returns-clause-mail : goal.returns-clause-mail
returns-clause-mail g c =
    c.in_ok-count.ensures.mail ∙ ap (λ (v : HeldWorker _ _ _). c.args.mail.now.items ++ map (mailed v.colour) (filter (is_for v.config.workers c.args.v) v.outbox)) c.self.view_is

pub returns-clause-own : goal.returns-clause-own
returns-clause-own g c =
    subst (λ (v : HeldWorker _ _ _). AllOwnMail v.config c.args.v (map (mailed v.colour) (filter (is_for v.config.workers c.args.v) v.outbox))) c.self.view_is c.in_ok-count.ensures.own

pub returns-clause-counted : goal.returns-clause-counted
returns-clause-counted g c handlers part s =
    let i = c.self.inside in
    let count = c.in_ok-count.ensures.count in
    let room = c.room-room.ensures in
    let few : count_of i.sent i.colour + c.in_ok-count.count ≤ MAX_COUNT = omega (arith, room, count.1) in
    let within : AreCounted c.raise.new.self = rw c.raise.ensures (counted-raised i.sent i.colour c.in_ok-count.count c.self.invariant.few_sent few) in
    let same : count_of part.sent part.colour ≡ count_of c.raise.new.self i.colour = (λ j. count_of (s.sent j) (s.colour j)) in
    let most = count_of-counted c.raise.new.self i.colour within in
    λ over. omega (arith, over, same, most)

pub returns-clause-done : goal.returns-clause-done
returns-clause-done g c handlers part s =
    let i = c.self.inside in
    let pool = i.pool in
    let who = c.worker.ensures in
    let sent : c.raise.new.self ≡ raised i.sent i.colour (length (filter (is_for pool.config.workers c.args.v) pool.outbox)) = c.raise.ensures ∙ ap (raised i.sent i.colour) c.in_ok-count.ensures.count.0 in
    let red = c.in_ok-count.ensures.least in
    let own : nat_eq pool.worker c.args.v ≡ false = grind (arith, nat_tests, who) in
    let other : nat_eq c.args.self.now.worker c.args.v ≡ false = ap (λ (v : HeldWorker _ _ _). nat_eq v.worker c.args.v) (sym c.self.view_is) ∙ own in
    let number = count_sent c.self.view_is handlers c.args.v part s in
    let count = c.in_ok-count.ensures.count in
    let some : 0 < length (letters_for (simulation_of handlers c.args.self.now.config) c.args.v part) = omega (arith, number, count.0, count.2) in
    let others : List (Letter _) = filter (λ (l : Letter _). not (is_for pool.config.workers c.args.v l)) pool.outbox in (
      may_send-yes (simulation_of handlers c.args.self.now.config) c.args.self.now.worker c.args.v part other some,
      subst (λ (p : HeldPool _ _ _). StandsFor handlers (seen (share_of p i.arrived.items i.colour c.raise.new.self i.got c.mail_for.new.least i.floor)) (part_after_send (simulation_of handlers c.args.self.now.config) c.args.v part)) (sym c.in_ok-count.ensures.left)
          (stands-send c.self.view_is handlers c.args.v part s others refl c.raise.new.self sent c.mail_for.new.least red),
      c.in_ok-count.ensures.mail ∙ ap (λ ms. c.args.mail.now.items ++ ms) (mail-sent c.self.view_is handlers c.args.v part s),
    )
