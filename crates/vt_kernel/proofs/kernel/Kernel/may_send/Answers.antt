use Rattle.std.proofs.Common.{◌≡◌, ◌<◌, ◌∙◌, inl, inr, false, nat_eq, length, sym, ap, refl, arith}
use Rattle.std.proofs.lemmas.Bool.Decides.{nat_tests}
use Rattle.std.specs.List.{filter}
use Rattle.vt_key.specs.declared.fault.Fault.TheVariants.{NotLawful, Exhausted}
use Rattle.vt_model.specs.declared.settings.Config.{Config}
use Rattle.vt_model.specs.promise.Simulation.{simulation_of}
use Rattle.vt_steps.specs.promise.Letters.{count_of}
use Rattle.vt_steps.specs.promise.PartSteps.{letters_for, is_for}
use Rattle.vt_kernel.specs.inside.Held.{HeldWorker}
use Rattle.vt_kernel.proofs.SendLemmas.{sent-after, refused-send, count_sent, may_send-yes}
use Rattle.vt_kernel.proofs.kernel.Kernel.may_send.Goals as goal

pub returns-in_default-clause-refused : goal.returns-in_default-clause-refused
returns-in_default-clause-refused g c handlers part s =
    let k = c.self.inside in
    let test : nat_eq k.worker c.args.v ≡ false = grind (arith, nat_tests) in
    let theirs = ap (λ (f : Config). length (filter (is_for f.workers c.args.v) k.outbox.letters)) c.self.invariant.by_worker in
    let over = c.in_default.ensures.more in
    let more : c.room-room.result < length (filter (is_for k.config.workers c.args.v) k.outbox.letters) = omega (arith, over, theirs) in
    refused-send c.self.view_is handlers c.args.v part s Exhausted c.room-room.result c.room-room.ensures test (inr (omega arith, inl (refl, more)))

pub returns-then-count-eq0-clause-refused : goal.returns-then-count-eq0-clause-refused
returns-then-count-eq0-clause-refused g c handlers part s =
    let k = c.self.inside in
    let test : nat_eq k.worker c.args.v ≡ false = grind (arith, nat_tests) in
    let zero : c.in-Some.count ≡ 0 = grind (arith, nat_tests) in
    let theirs = ap (λ (f : Config). length (filter (is_for f.workers c.args.v) k.outbox.letters)) c.self.invariant.by_worker in
    let none : length (filter (is_for k.config.workers c.args.v) k.outbox.letters) ≡ 0 = sym (c.in-Some.ensures.count.0 ∙ theirs) ∙ zero in
    refused-send c.self.view_is handlers c.args.v part s NotLawful c.room-room.result c.room-room.ensures test (inl (refl, none))

pub returns-clause-lawful : goal.returns-clause-lawful
returns-clause-lawful g c handlers part s =
    let k = c.self.inside in
    let own : nat_eq k.worker c.args.v ≡ false = grind (arith, nat_tests) in
    let other : nat_eq c.args.self.now.worker c.args.v ≡ false = ap (λ (v : HeldWorker _ _ _). nat_eq v.worker c.args.v) (sym c.self.view_is) ∙ own in
    let number = count_sent c.self.view_is handlers c.args.v part s in
    let some_there : 0 < c.in-Some.count = grind (arith, nat_tests) in
    let count = c.in-Some.ensures.count in
    let theirs = ap (λ (f : Config). length (filter (is_for f.workers c.args.v) k.outbox.letters)) c.self.invariant.by_worker in
    let some : 0 < length (letters_for (simulation_of handlers c.args.self.now.config) c.args.v part) = omega (arith, number, count.0, theirs) in
    let sent : count_of k.sent k.colour ≡ count_of part.sent part.colour =
    ap (λ (u : HeldWorker _ _ _). count_of u.sent u.colour) c.self.view_is ∙ (λ j. count_of (sym s.sent j) (sym s.colour j)) in
    let after = sent-after (simulation_of handlers c.args.self.now.config) c.args.v part in
    let room = c.room-room.ensures in (
      may_send-yes (simulation_of handlers c.args.self.now.config) c.args.self.now.worker c.args.v part other some,
      λ over. omega (arith, over, after, number, count.0, count.1, room, sent, theirs),
    )
