use Rattle.std.proofs.Common.{◌≡◌, ℕ, refl, sym, ap, subst, ◌∙◌, Result, arith, rules}
use Rattle.std.proofs.lemmas.Result.{IfErr-weaker}
use Rattle.vt_key.specs.declared.fault.Fault.{Fault}
use Rattle.vt_model.specs.declared.settings.Config.{Config}
use Rattle.vt_model.specs.promise.Simulation.{simulation_of}
use Rattle.vt_model.specs.promise.Settings.{end_of}
use Rattle.vt_steps.specs.declared.step.Step.TheVariants.{Cut}
use Rattle.vt_steps.specs.declared.step.Reply.{Reply}
use Rattle.vt_steps.specs.declared.step.Reply.TheVariants.{Done}
use Rattle.vt_steps.specs.inside.Cells.{Cell, on_board}
use Rattle.vt_kernel.specs.inside.Held.{HeldWorker}
use Rattle.vt_cells.specs.inside.Calls.{IsCellStepOf, IsCellRefusal, answer_as}
use Rattle.vt_places.specs.declared.slot.Slot.TheVariants as slot
use Rattle.vt_places.specs.inside.Calls.{Stays, IsCutRefusal}
use Rattle.vt_places.proofs.HeldLemmas.{found-is, found-right, puts}
use Rattle.vt_places.proofs.PlaceLemmas.{refused, released}
use Rattle.vt_places.proofs.Releases.{home-not_empty}
use Rattle.vt_places.proofs.CallLemmas.{tried-there, tried-refused}
use Rattle.vt_places.proofs.RefusalLemmas.{cut-refused}
use Rattle.vt_places.proofs.AloneLemmas.{cut-alone}
use Rattle.vt_places.proofs.station.Station.cut.Goals as goal

pub cut-answer-requires-clause-end : goal.cut-answer-requires-clause-end
cut-answer-requires-clause-end g c κs within =
    (omega arith, found-right (c.if-not-claim_board.ensures.claimed refl).holds c.slot_mut-held.ensures.value c.in-Board.is ∙ ap (λ (f : Config). end_of f) (sym c.requires.kernel.config_is))

pub release_visit-requires-after_bounds : goal.release_visit-requires-after_bounds
release_visit-requires-after_bounds g c κs within =
    let H = g.M.Model.handlers c.args.self.now.table.shared.key.model.value in
    let holds = (c.if-not-claim_board.ensures.claimed refl).holds in
    let new = c.cut-answer.new.board in (
      omega arith,
      (
        search rules,
        (
          search rules,
          (
            search rules,
            (
              search rules,
              (
                (
                  on_board c.in-Board.board.board,
                  on_board new.board,
                  puts holds c.slot_mut-held.ensures.value c.in-Board.is (slot.Board new) refl (c.cut-answer.ensures.end ∙ found-right holds c.slot_mut-held.ensures.value c.in-Board.is),
                  (λ e. home-not_empty e),
                  subst (λ (x : Config × HeldWorker _ _ _ × HeldWorker _ _ _ × Result Reply Fault). IsCellStepOf H x.0 (Cut c.args.place.now.worker) x.1 x.2 (on_board c.in-Board.board.board) (on_board new.board) x.3)
                      (λ i. (c.requires.kernel.config_is i, sym c.of-before.ensures i, sym c.of.ensures i, sym c.done_of.ensures i)) (c.cut-answer.ensures.step H),
                ),
                search rules,
              ),
            ),
          ),
        ),
      ),
    )

pub returns-clause-done : goal.returns-clause-done
returns-clause-done g c =
    let key = c.args.self.now.table.shared.key in
    let H = g.M.Model.handlers key.model.value in
    tried-there H key.config c.args.place.now.seat.me.0 c.claim_board.new.seat.me.0 c.of-before.result.value c.of.result.value c.args.kernel.now c.cut-answer.new.kernel (Cut c.args.place.now.worker) c.release_visit.new.seat.me.0
    (c.if-not-claim_board.ensures.claimed refl).place c.of-before.ensures c.of.ensures _ (λ _. Done) c.cut-answer.result c.done_of.ensures c.release_visit.ensures.done (c.cut-answer.ensures.step H).unchanged

pub returns-clause-refused : goal.returns-clause-refused
returns-clause-refused g c =
    let key = c.args.self.now.table.shared.key in
    let H = g.M.Model.handlers key.model.value in
    let sim = simulation_of H key.config in
    let why = IsCutRefusal sim c.args.place.now.seat.me.0 in
    let t = c.if-not-claim_board.ensures.claimed refl in
    let r = c.requires.kernel in
    tried-refused (λ _. Done) c.cut-answer.result why
    (IfErr-weaker (answer_as (λ _. Done) c.cut-answer.result) _ why
    (λ fault at. cut-refused t.known r.steps r.part r.led t.lawful fault
    (subst (λ (x : Config × ℕ × Cell _). IsCellRefusal (simulation_of H x.0) (Cut x.1) r.part x.2 fault) (λ i. (r.config_is i, sym c.args.place.now.own i, found-is t.holds c.slot_mut-held.ensures.value c.in-Board.is i)) at))
    ((c.cut-answer.ensures.step H).refused r.part r.stands))

pub returns-clause-alone : goal.returns-clause-alone
returns-clause-alone g c r =
    let key = c.args.self.now.table.shared.key in
    let v = c.args.place.now.seat.me.0 in
    let w = c.release_visit.new.seat.me.0 in
    let left = c.cut-answer.new.kernel in
    cut-alone (g.M.Model.handlers key.model.value) key.config v w c.args.kernel.now left r (Stays v w × (left ≡ c.args.kernel.now)) c.args.place.now.own c.cut-answer.result v.seen (returns-clause-done g c) (returns-clause-refused g c)

pub invariant_of-place : goal.invariant_of-place
invariant_of-place g c = refused c.args.place.now c.claim_board.new.seat c.if-not-claim_board.ensures.same (c.if-not-claim_board.ensures.busy refl).0

pub invariant_of-place-2 : goal.invariant_of-place-2
invariant_of-place-2 g c = released c.args.place.now c.claim_board.new.seat c.release_visit.new.seat c.if-not-claim_board.ensures.same c.release_visit.ensures.same
