use Rattle.std.proofs.Common.{◌≡◌, ◌<◌, ◌∙◌, inl, inr, false, nat_eq, length, sym, ap, refl, arith}
use Rattle.std.proofs.lemmas.Bool.Decides.{nat_tests}
use Rattle.vt_key.specs.declared.fault.Fault.TheVariants.{NotLawful, Exhausted}
use Rattle.vt_model.specs.promise.Simulation.{simulation_of}
use Rattle.vt_steps.specs.promise.Letters.{count_of}
use Rattle.vt_steps.specs.promise.PartSteps.{letters_for}
use Rattle.vt_kernel.specs.inside.Held.{HeldWorker}
use Rattle.vt_kernel.proofs.SendLemmas.{count_of-counted, count_sent, may_send-yes, refused-send, sent-after}
use Rattle.vt_share.proofs.share.Share.may_send.Goals as goal

pub room-room-requires : goal.room-room-requires
room-room-requires g c = record { few = count_of-counted c.self.inside.sent c.self.inside.colour c.self.invariant.few_sent }

pub returns-in_default-clause-refused : goal.returns-in_default-clause-refused
returns-in_default-clause-refused g c handlers part s =
    let k = c.self.inside.pool in
    let who = c.worker.ensures in
    let test : nat_eq k.worker c.args.v ≡ false = grind (arith, nat_tests, who) in
    refused-send c.self.view_is handlers c.args.v part s Exhausted c.room-room.result c.room-room.ensures test (let more = c.in_default.ensures.more in inr (omega (arith, more), inl (refl, more)))

pub returns-then-count-eq0-clause-refused : goal.returns-then-count-eq0-clause-refused
returns-then-count-eq0-clause-refused g c handlers part s =
    let k = c.self.inside.pool in
    let who = c.worker.ensures in
    let test : nat_eq k.worker c.args.v ≡ false = grind (arith, nat_tests, who) in
    let zero : c.in-Some.count ≡ 0 = grind (arith, nat_tests) in
    refused-send c.self.view_is handlers c.args.v part s NotLawful c.room-room.result c.room-room.ensures test (inl (refl, sym c.in-Some.ensures.count.0 ∙ zero))

pub returns-clause-lawful : goal.returns-clause-lawful
returns-clause-lawful g c handlers part s =
    let k = c.self.inside.pool in
    let who = c.worker.ensures in
    let own : nat_eq k.worker c.args.v ≡ false = grind (arith, nat_tests, who) in
    let other : nat_eq c.args.self.now.worker c.args.v ≡ false = ap (λ (v : HeldWorker _ _ _). nat_eq v.worker c.args.v) (sym c.self.view_is) ∙ own in
    let number = count_sent c.self.view_is handlers c.args.v part s in
    let some_there : 0 < c.in-Some.count = grind (arith, nat_tests) in
    let count = c.in-Some.ensures.count in
    let some : 0 < length (letters_for (simulation_of handlers c.args.self.now.config) c.args.v part) = omega (arith, number, count.0, some_there) in
    let sent : count_of c.self.inside.sent c.self.inside.colour ≡ count_of part.sent part.colour =
    ap (λ (u : HeldWorker _ _ _). count_of u.sent u.colour) c.self.view_is ∙ (λ j. count_of (sym s.sent j) (sym s.colour j)) in
    let after = sent-after (simulation_of handlers c.args.self.now.config) c.args.v part in
    let room = c.room-room.ensures in (
      may_send-yes (simulation_of handlers c.args.self.now.config) c.args.self.now.worker c.args.v part other some,
      λ over. omega (arith, over, after, number, count.0, count.1, room, sent),
    )
