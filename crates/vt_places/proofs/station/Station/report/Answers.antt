use Rattle.std.proofs.Common.{◌≡◌, ℕ, refl, sym, ap, subst, ◌∙◌, Result, arith, rules}
use Rattle.std.proofs.lemmas.Result.{IfErr-weaker}
use Rattle.vt_key.specs.declared.fault.Fault.{Fault}
use Rattle.vt_model.specs.declared.settings.Config.{Config}
use Rattle.vt_model.specs.promise.Simulation.{simulation_of}
use Rattle.vt_model.specs.promise.Settings.{end_of}
use Rattle.vt_steps.specs.declared.step.Step.TheVariants.{Report}
use Rattle.vt_steps.specs.declared.step.Reply.{Reply}
use Rattle.vt_steps.specs.inside.Cells.{Cell, on_board}
use Rattle.vt_kernel.specs.inside.Held.{HeldWorker, StandsFor}
use Rattle.vt_board.specs.inside.Calls.{reply_of}
use Rattle.vt_cells.specs.inside.Calls.{IsCellStepOf, IsCellRefusal, answer_as}
use Rattle.vt_places.specs.declared.slot.Slot.TheVariants as slot
use Rattle.vt_places.specs.inside.Calls.{Stays, IsReportRefusal}
use Rattle.vt_places.proofs.HeldLemmas.{found-is, found-right, puts}
use Rattle.vt_places.proofs.PlaceLemmas.{refused, released}
use Rattle.vt_places.proofs.Releases.{home-not_empty}
use Rattle.vt_places.proofs.CallLemmas.{tried-there, tried-refused}
use Rattle.vt_places.proofs.RefusalLemmas.{report-refused}
use Rattle.vt_places.proofs.AloneLemmas.{report-alone}
use Rattle.vt_places.proofs.station.Station.report.Goals as goal

pub report-answer-requires-after_bounds : goal.report-answer-requires-after_bounds
report-answer-requires-after_bounds g c κs within =
    let values = c.report_values-values.ensures in (omega arith, (values.sent, (values.got, (values.least, found-right (c.if-not-claim_board.ensures.claimed refl).holds c.slot_mut-held.ensures.value c.in-Board.is ∙ ap (λ (f : Config). end_of f) (sym c.requires.kernel.config_is) ∙ ap (λ (h : HeldWorker _ _ _). end_of h.config) (sym values.same)))))

pub release_visit-requires-after_bounds : goal.release_visit-requires-after_bounds
release_visit-requires-after_bounds g c κs within =
    let H = g.M.Model.handlers c.args.self.now.table.shared.key.model.value in
    let holds = (c.if-not-claim_board.ensures.claimed refl).holds in
    let new = c.report-answer.new.board in (
      omega arith,
      (
        search rules,
        (
          search rules,
          (
            search rules,
            (
              search rules,
              (
                (
                  on_board c.in-Board.board.board,
                  on_board new.board,
                  puts holds c.slot_mut-held.ensures.value c.in-Board.is (slot.Board new) refl (c.report-answer.ensures.end ∙ found-right holds c.slot_mut-held.ensures.value c.in-Board.is),
                  (λ e. home-not_empty e),
                  subst (λ (x : Config × HeldWorker _ _ _ × HeldWorker _ _ _ × Result Reply Fault). IsCellStepOf H x.0 (Report c.args.place.now.worker) x.1 x.2 (on_board c.in-Board.board.board) (on_board new.board) x.3)
                      (λ i. ((ap (λ (h : HeldWorker _ _ _). h.config) c.report_values-values.ensures.same ∙ c.requires.kernel.config_is) i, sym c.of-before.ensures i, sym c.of.ensures i, sym c.answer_of.ensures i)) (c.report-answer.ensures.step H),
                ),
                search rules,
              ),
            ),
          ),
        ),
      ),
    )

pub returns-clause-done : goal.returns-clause-done
returns-clause-done g c =
    let key = c.args.self.now.table.shared.key in
    let H = g.M.Model.handlers key.model.value in
    let k = c.args.kernel.now in
    let left = c.report-answer.new.kernel in
    let step = Report c.args.place.now.worker in
    let same = c.report_values-values.ensures.same in
    let tried = subst (λ (h : HeldWorker _ _ _). IsCellStepOf H h.config step h left (on_board c.in-Board.board.board) (on_board c.report-answer.new.board.board) (answer_as reply_of c.report-answer.result)) same (c.report-answer.ensures.step H) in
    tried-there H key.config c.args.place.now.seat.me.0 c.claim_board.new.seat.me.0 c.of-before.result.value c.of.result.value k left step c.release_visit.new.seat.me.0
    (c.if-not-claim_board.ensures.claimed refl).place (c.of-before.ensures ∙ same) c.of.ensures _ reply_of c.report-answer.result c.answer_of.ensures c.release_visit.ensures.done tried.unchanged

pub returns-clause-refused : goal.returns-clause-refused
returns-clause-refused g c =
    let key = c.args.self.now.table.shared.key in
    let H = g.M.Model.handlers key.model.value in
    let why = IsReportRefusal (simulation_of H key.config) c.args.place.now.seat.me.0 in
    let t = c.if-not-claim_board.ensures.claimed refl in
    let r = c.requires.kernel in
    let same = c.report_values-values.ensures.same in
    tried-refused reply_of c.report-answer.result why
    (IfErr-weaker (answer_as reply_of c.report-answer.result) _ why
    (λ fault at. report-refused t.known r.steps r.part r.led fault
    (subst (λ (x : Config × ℕ × Cell _). IsCellRefusal (simulation_of H x.0) (Report x.1) r.part x.2 fault) (λ i. ((ap (λ (h : HeldWorker _ _ _). h.config) same ∙ r.config_is) i, sym c.args.place.now.own i, found-is t.holds c.slot_mut-held.ensures.value c.in-Board.is i)) at))
    ((c.report-answer.ensures.step H).refused r.part (subst (λ (h : HeldWorker _ _ _). StandsFor H h r.part) (sym same) r.stands)))

pub returns-clause-alone : goal.returns-clause-alone
returns-clause-alone g c r =
    let key = c.args.self.now.table.shared.key in
    let v = c.args.place.now.seat.me.0 in
    let w = c.release_visit.new.seat.me.0 in
    let left = c.report-answer.new.kernel in
    report-alone (g.M.Model.handlers key.model.value) key.config v w c.args.kernel.now left r (Stays v w × (left ≡ c.args.kernel.now)) c.args.place.now.own c.report-answer.result v.seen reply_of (c.if-not-claim_board.ensures.claimed refl).lawful (returns-clause-done g c) (returns-clause-refused g c)

pub invariant_of-place : goal.invariant_of-place
invariant_of-place g c = refused c.args.place.now c.claim_board.new.seat c.if-not-claim_board.ensures.same (c.if-not-claim_board.ensures.busy refl).0

pub invariant_of-place-2 : goal.invariant_of-place-2
invariant_of-place-2 g c = released c.args.place.now c.claim_board.new.seat c.release_visit.new.seat c.if-not-claim_board.ensures.same c.release_visit.ensures.same
