use Rattle.std.proofs.Common.{◌≡◌, ◌<◌, ◌≤◌, ◌+◌, ◌++◌, ◌∙◌, Bool, true, false, inl, refl, nat_eq, not, length, map, List, sym, ap, subst, rules, arith}
use Rattle.std.proofs.lemmas.Bool.Decides.{nat_tests}
use Rattle.std.proofs.lemmas.List.Elements.{All-filter}
use Rattle.std.specs.List.{filter}
use Rattle.vt_key.specs.promise.Times.{earlier}
use Rattle.vt_key.specs.declared.fault.Fault.{Fault}
use Rattle.vt_key.specs.declared.fault.Fault.TheVariants.{NotLawful}
use Rattle.vt_key.specs.declared.letter.Letter.{Letter}
use Rattle.vt_key.specs.declared.limits.TheConstants.{MAX_COUNT}
use Rattle.vt_model.specs.declared.settings.Config.{Config}
use Rattle.vt_model.specs.promise.Simulation.{simulation_of}
use Rattle.vt_model.specs.promise.Settings.{end_of}
use Rattle.vt_steps.specs.promise.Letters.{least_time, raised, count_of}
use Rattle.vt_steps.specs.promise.PartSteps.{letters_for, is_for}
use Rattle.vt_lp.specs.inside.Held.{AllWithinRun, IsWithinRun}
use Rattle.vt_outbox.specs.inside.Outbox.{HeldOutbox}
use Rattle.vt_kernel.specs.inside.Held.{HeldWorker, AllOwnMail, AreCounted}
use Rattle.vt_kernel.specs.inside.Guards.{mailed, IsSendRefusal}
use Rattle.vt_kernel.proofs.InsideLemmas.{inside-outbox}
use Rattle.vt_outbox.proofs.OutboxLemmas.{receiver-below}
use Rattle.vt_kernel.proofs.PartLemmas.{stands-send, mail-sent}
use Rattle.vt_key.proofs.ResultLemmas.{if_err}
use Rattle.vt_kernel.proofs.SendLemmas.{IsRoomRefusal, count_of-counted, counted-raised, refused-send, own_mail-sent, count_sent, may_send-own, may_send-yes}
use Rattle.vt_kernel.proofs.kernel.Kernel.letters_for.Goals as goal

pub returns-then-v-self-clause-refused : goal.returns-then-v-self-clause-refused
returns-then-v-self-clause-refused g c handlers part s =
    let test : nat_eq c.self.inside.worker c.args.v ≡ true = grind (arith, nat_tests) in
    subst (λ (k : HeldWorker _ _ _). IsSendRefusal (simulation_of handlers k.config) k.worker c.args.v part NotLawful) c.self.view_is
    (inl (refl, may_send-own (simulation_of handlers c.self.inside.config) c.self.inside.worker c.args.v part test))

pub returns-in_err-count-clause-refused : goal.returns-in_err-count-clause-refused
returns-in_err-count-clause-refused g c handlers part s =
    let k = c.self.inside in
    let test : nat_eq k.worker c.args.v ≡ false = grind (arith, nat_tests) in
    if_err (λ (fault : Fault). IsSendRefusal (simulation_of handlers c.args.self.now.config) c.args.self.now.worker c.args.v part fault)
    c.from_residual.result c.in_err-count.field-0.0 (search rules)
    (refused-send c.self.view_is handlers c.args.v part s c.in_err-count.field-0.0 c.room-room.result c.room-room.ensures test
    (subst (λ (f : Config). IsRoomRefusal c.room-room.result (length (filter (is_for f.workers c.args.v) k.outbox.letters)) c.in_err-count.field-0.0) c.self.invariant.by_worker c.in_err-count.ensures.refused))

pub room-room-requires : goal.room-room-requires
room-room-requires g c = record { few = count_of-counted c.self.inside.sent c.self.inside.colour c.self.invariant.few_sent }

pub take_for-letters-requires : goal.take_for-letters-requires
take_for-letters-requires g c =
    let k = c.self.inside in
    let count = c.in_ok-count.ensures.count in
    let known = receiver-below k.outbox.config c.args.v k.outbox.letters (omega (arith, count.0, count.2)) in
    search (rules, known)

pub invariant_of-self : goal.invariant_of-self
invariant_of-self g c =
    let k = c.self.inside in
    let inv = c.self.invariant in
    let test : Letter _ → Bool = is_for k.config.workers c.args.v in
    let letters : c.take_for-letters.new.self.letters ≡ filter (λ (l : Letter _). not (test l)) k.outbox.letters =
    ap (λ (o : HeldOutbox _). o.letters) c.take_for-letters.ensures.left ∙ ap (λ (f : Config). filter (λ (l : Letter _). not (is_for f.workers c.args.v l)) k.outbox.letters) inv.by_worker in
    let count = c.in_ok-count.ensures.count in
    let few : count_of k.sent k.colour + c.in_ok-count.count ≤ MAX_COUNT = omega (arith, c.room-room.ensures, count.1) in
    inside-outbox c.take_for-letters.new.self c.raise.new.self
    (subst (AllWithinRun k.config) (sym letters) (All-filter (λ (l : Letter _). not (test l)) (IsWithinRun k.config.lps (end_of k.config)) k.outbox.letters inv.sendable))
    (ap (λ (o : HeldOutbox _). o.config) c.take_for-letters.ensures.left ∙ inv.by_worker)
    (rw c.raise.ensures (counted-raised k.sent k.colour c.in_ok-count.count inv.few_sent few))
    inv

pub returns-clause-sent : goal.returns-clause-sent
returns-clause-sent g c =
    let k = c.self.inside in
    let others : HeldWorker _ _ _ → List (Letter _) = λ v. filter (λ (l : Letter _). not (is_for v.config.workers c.args.v l)) v.outbox in
    let theirs : HeldWorker _ _ _ → List (Letter _) = λ v. filter (is_for v.config.workers c.args.v) v.outbox in
    let after : HeldWorker _ _ _ → HeldWorker _ _ _ = λ v. record v {
      outbox = others v;
      sent = raised v.sent v.colour (length (theirs v));
      red_minimum = earlier v.red_minimum (least_time (end_of v.config) (theirs v));
    } in
    let theirs = ap (λ (f : Config). filter (is_for f.workers c.args.v) k.outbox.letters) c.self.invariant.by_worker in
    let letters : c.take_for-letters.new.self.letters ≡ filter (λ (l : Letter _). not (is_for k.config.workers c.args.v l)) k.outbox.letters =
    ap (λ (o : HeldOutbox _). o.letters) c.take_for-letters.ensures.left ∙ ap (λ (f : Config). filter (λ (l : Letter _). not (is_for f.workers c.args.v l)) k.outbox.letters) c.self.invariant.by_worker in
    let sent : c.raise.new.self ≡ raised k.sent k.colour (length (filter (is_for k.config.workers c.args.v) k.outbox.letters)) = c.raise.ensures ∙ ap (raised k.sent k.colour) (c.in_ok-count.ensures.count.0 ∙ ap length theirs) in
    let red : c.earlier-self-inside.result ≡ earlier k.red_minimum (least_time (end_of k.config) (filter (is_for k.config.workers c.args.v) k.outbox.letters)) = c.earlier-self-inside.ensures ∙ ap (earlier k.red_minimum) (c.mail_letters-least.ensures.least ∙ ap (least_time (end_of k.config)) (c.take_for-letters.ensures.taken ∙ theirs)) in
    (λ j. record {
      worker = k.worker;
      config = k.config;
      processes = k.processes.items;
      outbox = letters j;
      arrived = k.arrived.items;
      colour = k.colour;
      sent = sent j;
      got = k.got;
      red_minimum = red j;
      floor = k.floor;
      serial = k.serial;
    }) ∙ ap after c.self.view_is

pub returns-clause-counted : goal.returns-clause-counted
returns-clause-counted g c handlers part s =
    let k = c.self.inside in
    let count = c.in_ok-count.ensures.count in
    let few : count_of k.sent k.colour + c.in_ok-count.count ≤ MAX_COUNT = omega (arith, c.room-room.ensures, count.1) in
    let within : AreCounted c.raise.new.self = rw c.raise.ensures (counted-raised k.sent k.colour c.in_ok-count.count c.self.invariant.few_sent few) in
    let same : count_of part.sent part.colour ≡ count_of c.raise.new.self k.colour = (λ j. count_of (s.sent j) (s.colour j)) in
    let most = count_of-counted c.raise.new.self k.colour within in
    λ over. omega (arith, over, same, most)

pub returns-clause-own : goal.returns-clause-own
returns-clause-own g c =
    let k = c.self.inside in
    subst (λ (v : HeldWorker _ _ _). AllOwnMail v.config c.args.v (map (mailed v.colour) (filter (is_for v.config.workers c.args.v) v.outbox))) c.self.view_is
    (own_mail-sent k.config c.args.v k.colour k.outbox.letters c.self.invariant.sendable)

pub returns-clause-done : goal.returns-clause-done
returns-clause-done g c handlers part s =
    let k = c.self.inside in
    let theirs = ap (λ (f : Config). filter (is_for f.workers c.args.v) k.outbox.letters) c.self.invariant.by_worker in
    let letters : c.take_for-letters.new.self.letters ≡ filter (λ (l : Letter _). not (is_for k.config.workers c.args.v l)) k.outbox.letters =
    ap (λ (o : HeldOutbox _). o.letters) c.take_for-letters.ensures.left ∙ ap (λ (f : Config). filter (λ (l : Letter _). not (is_for f.workers c.args.v l)) k.outbox.letters) c.self.invariant.by_worker in
    let sent : c.raise.new.self ≡ raised k.sent k.colour (length (filter (is_for k.config.workers c.args.v) k.outbox.letters)) = c.raise.ensures ∙ ap (raised k.sent k.colour) (c.in_ok-count.ensures.count.0 ∙ ap length theirs) in
    let red : c.earlier-self-inside.result ≡ earlier k.red_minimum (least_time (end_of k.config) (filter (is_for k.config.workers c.args.v) k.outbox.letters)) = c.earlier-self-inside.ensures ∙ ap (earlier k.red_minimum) (c.mail_letters-least.ensures.least ∙ ap (least_time (end_of k.config)) (c.take_for-letters.ensures.taken ∙ theirs)) in
    let own : nat_eq k.worker c.args.v ≡ false = grind (arith, nat_tests) in
    let other : nat_eq c.args.self.now.worker c.args.v ≡ false = ap (λ (v : HeldWorker _ _ _). nat_eq v.worker c.args.v) (sym c.self.view_is) ∙ own in
    let number = count_sent c.self.view_is handlers c.args.v part s in
    let count = c.in_ok-count.ensures.count in
    let same = ap length theirs in
    let some : 0 < length (letters_for (simulation_of handlers c.args.self.now.config) c.args.v part) = omega (arith, number, count.0, count.2, same) in (
      may_send-yes (simulation_of handlers c.args.self.now.config) c.args.self.now.worker c.args.v part other some,
      stands-send c.self.view_is handlers c.args.v part s _ letters _ sent _ red,
      c.mail_letters-least.ensures.mail ∙ (λ j. c.make_room.ensures.items j ++ (ap (map (mailed k.colour)) (c.take_for-letters.ensures.taken ∙ theirs) ∙ mail-sent c.self.view_is handlers c.args.v part s) j),
    )
