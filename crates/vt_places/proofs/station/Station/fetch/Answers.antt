use Rattle.std.proofs.Common.{inl, inr, ℕ, refl, sym, ap, subst, ◌∙◌, Result, arith, rules}
use Rattle.std.proofs.lemmas.Result.{IfErr-weaker}
use Rattle.vt_key.specs.declared.fault.Fault.{Fault}
use Rattle.vt_model.specs.declared.settings.Config.{Config}
use Rattle.vt_model.specs.promise.Simulation.{simulation_of}
use Rattle.vt_steps.specs.declared.step.Step.TheVariants.{Fetch}
use Rattle.vt_steps.specs.declared.step.Reply.{Reply}
use Rattle.vt_steps.specs.declared.step.Reply.TheVariants.{Done}
use Rattle.vt_steps.specs.inside.Cells.{Cell, in_inbox}
use Rattle.vt_steps.specs.promise.Letters.{Counts, is_empty}
use Rattle.vt_kernel.specs.inside.Held.{HeldWorker, AllOwnMail}
use Rattle.vt_kernel.specs.inside.Steps.{IsTooMuchMail}
use Rattle.vt_cells.specs.inside.Calls.{IsCellStepOf}
use Rattle.vt_places.specs.declared.slot.Slot.TheVariants.{Inbox}
use Rattle.vt_places.specs.inside.Calls.{Known, IsFetchRefusal}
use Rattle.vt_places.proofs.CallLemmas.{took-own, took-place, tried-there}
use Rattle.vt_places.proofs.HeldLemmas.{found-is, found-right, puts}
use Rattle.vt_places.proofs.PlaceLemmas.{rested, refused, released, looked}
use Rattle.vt_places.proofs.ReachLemmas.{reaches-visited}
use Rattle.vt_places.proofs.station.Station.fetch.Goals as goal

pub fetch-answer-requires-clause-own : goal.fetch-answer-requires-clause-own
fetch-answer-requires-clause-own g c κs within =
    let r = c.requires.kernel in
    let box = took-own c.args.place.now (c.if-finds_nothing.ensures.not refl) (c.if-not-claim.ensures.claimed refl) in
    (omega arith, subst (λ (x : ℕ × Config). AllOwnMail x.1 x.0 c.in-Inbox.mails.items) (λ i. (sym (r.worker ∙ c.args.place.now.own) i, sym r.config_is i)) (found-right box.holds c.slot_mut-held.ensures.value c.in-Inbox.is))

pub release_visit-requires-after_bounds : goal.release_visit-requires-after_bounds
release_visit-requires-after_bounds g c κs within =
    let H = g.M.Model.handlers c.args.self.now.table.shared.key.model.value in
    let r = c.requires.kernel in
    let is = r.worker ∙ c.args.place.now.own in
    let box = took-own c.args.place.now (c.if-finds_nothing.ensures.not refl) (c.if-not-claim.ensures.claimed refl) in
    let old = c.in-Inbox.mails in
    let new = c.fetch-answer.new.inbox in (
      omega arith,
      (
        search rules,
        (
          search rules,
          (
            search rules,
            (
              search rules,
              (
                (
                  in_inbox old.items,
                  in_inbox new.items,
                  puts box.holds c.slot_mut-held.ensures.value c.in-Inbox.is (Inbox new) refl (subst (λ (x : ℕ × Config). AllOwnMail x.1 x.0 new.items) (λ i. (is i, r.config_is i)) c.fetch-answer.ensures.own),
                  (λ e. ap in_inbox (c.word_of_inbox-word.ensures.empty e)),
                  subst (λ (x : Config × ℕ × HeldWorker _ _ _ × HeldWorker _ _ _ × Result Reply Fault). IsCellStepOf H x.0 (Fetch x.1) x.2 x.3 (in_inbox old.items) (in_inbox new.items) x.4)
                      (λ i. (r.config_is i, is i, sym c.of-before.ensures i, sym c.of.ensures i, sym c.done_of.ensures i)) (c.fetch-answer.ensures.step H),
                ),
                search rules,
              ),
            ),
          ),
        ),
      ),
    )

pub returns-clause-done : goal.returns-clause-done
returns-clause-done g c =
    let key = c.args.self.now.table.shared.key in
    let H = g.M.Model.handlers key.model.value in
    let box = took-own c.args.place.now (c.if-finds_nothing.ensures.not refl) (c.if-not-claim.ensures.claimed refl) in
    tried-there H key.config c.args.place.now.seat.me.0 c.claim.new.seat.me.0 c.of-before.result.value c.of.result.value c.args.kernel.now c.fetch-answer.new.kernel (Fetch c.args.place.now.worker) c.release_visit.new.seat.me.0
    (took-place box.took c.args.place.now.rests) c.of-before.ensures c.of.ensures _ (λ _. Done) c.fetch-answer.result c.done_of.ensures c.release_visit.ensures.done (c.fetch-answer.ensures.step H).unchanged

pub returns-clause-refused : goal.returns-clause-refused
returns-clause-refused g c part s =
    let key = c.args.self.now.table.shared.key in
    let sim = simulation_of (g.M.Model.handlers key.model.value) key.config in
    let v = c.args.place.now.seat.me.0 in
    let why = IsFetchRefusal sim v part in
    let box = took-own c.args.place.now (c.if-finds_nothing.ensures.not refl) (c.if-not-claim.ensures.claimed refl) in
    let held = sym (found-is box.holds c.slot_mut-held.ensures.value c.in-Inbox.is) in
    IfErr-weaker c.fetch-answer.result _ why
    (λ fault at. elim at [
      | inl x ↦ inl (x.0, ap is_empty s.arrived ∙ x.1)
      | inr x ↦ inr (
        ap is_empty s.arrived ∙ x.1,
        inr (
          x.0,
          (
            c.in-Inbox.mails.items,
            subst (λ (z : ℕ × Cell _). Known sim v z.0 z.1) (λ i. (sym c.args.place.now.own i, (box.found ∙ held) i)) box.took.known,
            subst (λ (n : Counts). IsTooMuchMail n c.in-Inbox.mails.items) (sym s.got) x.2,
          ),
        ),
      )
    ])
    c.fetch-answer.ensures.why

pub returns-then-finds_nothing-clause-ready : goal.returns-then-finds_nothing-clause-ready
returns-then-finds_nothing-clause-ready g c =
    let key = c.args.self.now.table.shared.key in
    let v = c.args.place.now.seat.me.0 in
    let k = c.args.kernel.now in
    reaches-visited (g.M.Model.handlers key.model.value) key.config v c.finds_nothing.new.seat.me.0 k c.requires.kernel k v.seen (Fetch c.args.place.now.worker) Done (c.if-finds_nothing.ensures.done refl)

pub invariant_of-place : goal.invariant_of-place
invariant_of-place g c =
    let found = c.if-finds_nothing.ensures in
    rested c.args.place.now c.finds_nothing.new.seat (found.same.0, found.same.1, found.same.2, (found.done refl).same.worker)

pub invariant_of-place-then-not-claim : goal.invariant_of-place-then-not-claim
invariant_of-place-then-not-claim g c =
    let look = c.if-finds_nothing.ensures in
    refused (looked c.args.place.now c.finds_nothing.new.seat look.same (look.not refl)) c.claim.new.seat c.if-not-claim.ensures.same (c.if-not-claim.ensures.busy refl).0

pub invariant_of-place-2 : goal.invariant_of-place-2
invariant_of-place-2 g c =
    let look = c.if-finds_nothing.ensures in
    released (looked c.args.place.now c.finds_nothing.new.seat look.same (look.not refl)) c.claim.new.seat c.release_visit.new.seat c.if-not-claim.ensures.same c.release_visit.ensures.same
