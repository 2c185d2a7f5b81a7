use Rattle.std.proofs.Common.{◌≡◌, ℕ, ◌<◌, refl, sym, ap, subst, ◌∙◌, Result, arith, rules}
use Rattle.vt_key.specs.declared.fault.Fault.{Fault}
use Rattle.vt_model.specs.declared.settings.Config.{Config}
use Rattle.vt_steps.specs.declared.step.Step.TheVariants.{Send}
use Rattle.vt_steps.specs.declared.step.Reply.{Reply}
use Rattle.vt_steps.specs.declared.step.Reply.TheVariants.{Done}
use Rattle.vt_steps.specs.inside.Cells.{in_inbox}
use Rattle.vt_kernel.specs.inside.Held.{HeldWorker, AllOwnMail}
use Rattle.vt_cells.specs.inside.Calls.{IsCellStepOf}
use Rattle.vt_places.specs.declared.slot.Slot.TheVariants.{Inbox}
use Rattle.vt_places.proofs.CallLemmas.{took-inbox, took-place, tried-there}
use Rattle.vt_places.proofs.HeldLemmas.{is-inbox, found-is, found-right, puts}
use Rattle.vt_places.proofs.PlaceLemmas.{refused, released}
use Rattle.vt_places.proofs.station.Station.post.Goals as goal

-- a worker of the kernel's run is one of the station's
in-run : {v : ℕ} {own config : Config} → own ≡ config → v < own.workers → v < config.workers
in-run {v} is = subst (λ (f : Config). v < f.workers) is

pub claim-requires-clause-near : goal.claim-requires-clause-near
claim-requires-clause-near g c =
    let known = in-run c.requires.kernel.config_is (c.if-not-is_receiver.ensures.known refl) in
    omega (arith, known, c.args.self.now.counted)

pub unreachable-requires : goal.unreachable-requires
unreachable-requires g c =
    let box = took-inbox (c.if-not-claim.ensures.claimed refl) c.args.place.now.rests (in-run c.requires.kernel.config_is (c.if-not-is_receiver.ensures.known refl)) in
    is-inbox c.slot_mut-held.result.now box.0 (found-is box.1 c.slot_mut-held.ensures.value refl) c.in_default.not-Inbox

pub release_visit-requires-after_bounds : goal.release_visit-requires-after_bounds
release_visit-requires-after_bounds g c κs within =
    let H = g.M.Model.handlers c.args.self.now.table.shared.key.model.value in
    let r = c.requires.kernel in
    let h = (took-inbox (c.if-not-claim.ensures.claimed refl) c.args.place.now.rests (in-run r.config_is (c.if-not-is_receiver.ensures.known refl))).1 in
    let old = c.in-Inbox.mails in
    let new = c.send-answer.new.inbox in (
      omega arith,
      (
        search rules,
        (
          search rules,
          (
            search rules,
            (
              search rules,
              (
                (
                  in_inbox old.items,
                  in_inbox new.items,
                  puts h c.slot_mut-held.ensures.value c.in-Inbox.is (Inbox new) refl (subst (λ (f : Config). AllOwnMail f c.args.v old.items → AllOwnMail f c.args.v new.items) r.config_is c.send-answer.ensures.own (found-right h c.slot_mut-held.ensures.value c.in-Inbox.is)),
                  (λ e. ap in_inbox (c.word_of_inbox-word.ensures.empty e)),
                  subst (λ (x : Config × ℕ × HeldWorker _ _ _ × HeldWorker _ _ _ × Result Reply Fault). IsCellStepOf H x.0 (Send x.1 c.args.v) x.2 x.3 (in_inbox old.items) (in_inbox new.items) x.4)
                      (λ i. (r.config_is i, (r.worker ∙ c.args.place.now.own) i, sym c.of-before.ensures i, sym c.of.ensures i, sym c.done_of.ensures i)) (c.send-answer.ensures.step H),
                ),
                search rules,
              ),
            ),
          ),
        ),
      ),
    )

pub returns-clause-done : goal.returns-clause-done
returns-clause-done g c =
    let key = c.args.self.now.table.shared.key in
    let H = g.M.Model.handlers key.model.value in
    tried-there H key.config c.args.place.now.seat.me.0 c.claim.new.seat.me.0 c.of-before.result.value c.of.result.value c.args.kernel.now c.send-answer.new.kernel (Send c.args.place.now.worker c.args.v) c.release_visit.new.seat.me.0
    (took-place (c.if-not-claim.ensures.claimed refl) c.args.place.now.rests) c.of-before.ensures c.of.ensures _ (λ _. Done) c.send-answer.result c.done_of.ensures c.release_visit.ensures.done (c.send-answer.ensures.step H).unchanged

pub invariant_of-place : goal.invariant_of-place
invariant_of-place g c = refused c.args.place.now c.claim.new.seat c.if-not-claim.ensures.same (c.if-not-claim.ensures.busy refl).0

pub invariant_of-place-2 : goal.invariant_of-place-2
invariant_of-place-2 g c = released c.args.place.now c.claim.new.seat c.release_visit.new.seat c.if-not-claim.ensures.same c.release_visit.ensures.same
