use Rattle.std.proofs.Common.{◌≡◌, ◌+◌, ℕ, List, Option, Result, refl, sym, ◌∙◌, ap, subst, inl, inr}
use Rattle.std.specs.Prelude.{◌⊎◌, OnOk}
use Rattle.std.specs.Io.KnownBytes.{Appends}
use Rattle.std.proofs.lemmas.Result.{on_ok_weaker, IfErr-weaker}
use Rattle.vt_key.specs.promise.Times.{Time}
use Rattle.vt_key.proofs.ResultLemmas.{if_err}
use Rattle.vt_key.specs.declared.fault.Fault.{Fault}
use Rattle.vt_key.specs.declared.fault.Fault.TheVariants.{Memory, TurnsSpent, Output}
use Rattle.vt_model.specs.declared.settings.Config.{Config}
use Rattle.vt_model.specs.promise.Settings.{end_of}
use Rattle.vt_model.specs.promise.Simulation.{simulation_of}
use Rattle.vt_station.specs.declared.driver.Wanted.{Wanted}
use Rattle.vt_station.specs.declared.pieces.Standing.TheVariants.{Whole}
use Rattle.vt_station.specs.inside.Crew.{AtCrew, IsHandOutRefusal, StandsBy, wanted_finals}
use Rattle.vt_text.specs.promise.Writing.{AppendsBeginning}
use Rattle.vt_tasks.specs.promise.Printed.{final_lines}
use Rattle.vt_tasks.specs.promise.Runs.{text_below, run_text, WritesBelow}
use Rattle.vt_tasks.specs.inside.Runs.{StopsInThreads}
use Rattle.vt_tasks.proofs.PrintLemmas.{one_run}
use Rattle.vt_runner.specs.inside.Pieces.{AreWritten, IsDue, wanted_of}
use Rattle.vt_runner.proofs.RunLemmas.{written-below, stops-lasting, stops-unread, unread-due, all-written, piece-written, piece-stops, output_begun, last-written, last-stops}
use Rattle.vt_runner.proofs.simulation.print_pieces.Given.{Over}
use Rattle.vt_runner.proofs.simulation.print_pieces.Goals.{After-print_last, else-loop-test, then-loop-test+in_default+in_ok-print+in-GoesOn+then-turns-options}
use Rattle.vt_runner.proofs.simulation.print_pieces.Goals as goal

pub returns-in-Err-clause-err : goal.returns-in-Err-clause-err
returns-in-Err-clause-err g c = λ start written.
    let l = c.loop.invariant in
    let same = one_run g.M.Model.handlers (c.work-standing.ensures.same.0 ∙ l.model) (c.work-standing.ensures.same.1 ∙ l.config ∙ c.requires.config) in
    stops-unread c.requires.lawful (l.written start written) c.args.options.now.finals c.work-standing.new.self.jobs c.work-standing.result c.in-Err.refusal c.fault_unread.result c.work-standing.ensures.told.1 c.requires.many
    (subst (λ s. IsHandOutRefusal s c.in-Err.refusal) same c.in-Err.ensures.refused) c.fault_unread.ensures

pub returns-in_err-print-clause-err : goal.returns-in_err-print-clause-err
returns-in_err-print-clause-err g c = λ start written.
    let o = c.args.options.now in
    let H = g.M.Model.handlers c.args.crew.now.model in
    let l = c.loop.invariant in
    let same = one_run g.M.Model.handlers (c.work-standing.ensures.same.0 ∙ l.model) (c.work-standing.ensures.same.1 ∙ l.config ∙ c.requires.config) in
    let fault = c.in_err-print.field-0.0 in
    if_err (StopsInThreads H o _ _) c.from_residual.result fault c.from_residual.ensures.1
    (output_begun o.config.workers (text_below o.records H o.config) (run_text o.records o.finals H o.config) _ _ fault c.in_err-print.ensures.fault
    (piece-stops c.requires.lawful (l.written start written) same c.in_default.ensures.piece.1 c.as_slice.ensures.value o.finals c.in_err-print.ensures.err))

-- the run is whole: the crew stands so when its final values are asked for
is-whole : (g : Over) (c : After-print_last g) → c.hand_out.new.self.standing ≡ Whole
is-whole g c = ap (λ k. k.standing) c.hand_out.ensures.same ∙ sym c.work-standing.ensures.told.0 ∙ c.in-Whole.is

-- all records were written
all-there : (g : Over) (c : After-print_last g) (start : Option (List ℕ)) → AreWritten c.args.options.now.records (g.M.Model.handlers c.args.crew.now.model) c.args.options.now.config start (g.O.Write.contents c.args.out.now) 0
    → Appends start (g.O.Write.contents c.print.new.writer) (text_below c.args.options.now.records (g.M.Model.handlers c.args.crew.now.model) c.args.options.now.config (end_of c.args.options.now.config))
all-there g c start written =
    let o = c.args.options.now in
    let H = g.M.Model.handlers c.args.crew.now.model in
    let l = c.loop.invariant in
    let config = c.work-standing.ensures.same.1 ∙ l.config ∙ c.requires.config in
    let same = one_run g.M.Model.handlers (c.work-standing.ensures.same.0 ∙ l.model) config in
    let piece = c.in_default.ensures.piece in
    let end = piece.2 (sym c.work-standing.ensures.told.0 ∙ c.in-Whole.is) ∙ ap (λ (k : Config). end_of k) config in
    let new = g.O.Write.contents c.print.new.writer in
    subst (λ (t : Time). Appends start new (text_below o.records H o.config t)) end (all-written c.requires.lawful (l.written start written) same piece.1 c.as_slice.ensures.value new c.in_ok-print.ensures.ok)

-- and the crew is of this run, and has the final values that are printed
same-crew : (g : Over) (c : After-print_last g) → simulation_of (g.M.Model.handlers c.hand_out.new.self.model) c.hand_out.new.self.config ≡ simulation_of (g.M.Model.handlers c.args.crew.now.model) c.args.options.now.config
same-crew g c =
    let l = c.loop.invariant in
    let same = c.hand_out.ensures.same in
    one_run g.M.Model.handlers (ap (λ k. k.model) same ∙ c.work-standing.ensures.same.0 ∙ l.model) (ap (λ k. k.config) same ∙ c.work-standing.ensures.same.1 ∙ l.config ∙ c.requires.config)

wanted-is : (g : Over) (c : After-print_last g) → c.hand_out.new.self.wanted ≡ wanted_of c.args.options.now.finals
wanted-is g c = ap (λ k. k.wanted) c.hand_out.ensures.same ∙ c.work-standing.ensures.same.2 ∙ c.loop.invariant.wanted ∙ c.requires.wanted

pub print_last-requires-clause-whole : goal.print_last-requires-clause-whole
print_last-requires-clause-whole g c κs within = ap (λ k. k.standing) c.hand_out.ensures.same ∙ sym c.work-standing.ensures.told.0 ∙ c.in-Whole.is

pub returns-in-Whole-clause-ok : goal.returns-in-Whole-clause-ok
returns-in-Whole-clause-ok g c = λ start written.
    let after = (goal.at.returns-in-Whole-clause-ok g c).After-print_last in
    let o = c.args.options.now in
    let crew = c.hand_out.new.self in
    let sim = simulation_of (g.M.Model.handlers crew.model) crew.config in
    let before = g.O.Write.contents c.print.new.writer in
    let new = g.O.Write.contents c.print_last.new.out in
    on_ok_weaker c.print_last.result (λ h. last-written o.records o.finals (g.M.Model.handlers c.args.crew.now.model) o.config start before new (all-there g after start written) sim (same-crew g after)
    (subst (λ (w : Wanted). Appends before new (final_lines 0 (wanted_finals w sim))) (wanted-is g after) h)) c.print_last.ensures.ok

pub returns-in-Whole-clause-err : goal.returns-in-Whole-clause-err
returns-in-Whole-clause-err g c = λ start written.
    let after = (goal.at.returns-in-Whole-clause-err g c).After-print_last in
    let o = c.args.options.now in
    let crew = c.hand_out.new.self in
    let sim = simulation_of (g.M.Model.handlers crew.model) crew.config in
    let before = g.O.Write.contents c.print.new.writer in
    let new = g.O.Write.contents c.print_last.new.out in
    IfErr-weaker c.print_last.result _ _ (λ fault h. last-stops o.records o.finals (g.M.Model.handlers c.args.crew.now.model) o.config start before new (all-there g after start written) sim (same-crew g after) fault
    (subst (λ (w : Wanted). ((fault ≡ Memory) × (new ≡ before)) ⊎ ((fault ≡ Output) × AppendsBeginning before new (final_lines 0 (wanted_finals w sim)))) (wanted-is g after) h)) c.print_last.ensures.err

pub returns-in-Whole-clause-due : goal.returns-in-Whole-clause-due
returns-in-Whole-clause-due g c =
    let sim = simulation_of (g.M.Model.handlers c.args.crew.now.model) c.args.options.now.config in
    let whole = is-whole g (goal.at.returns-in-Whole-clause-due g c).After-print_last in
    IfErr-weaker c.print_last.result _ _ (λ fault h. subst (λ s. IsDue sim s fault) (sym whole) (elim h [ inl refused ↦ inr (inr refused.0) | inr failed ↦ inl failed.0 ])) c.print_last.ensures.err

pub returns-in-Stopped-clause-err : goal.returns-in-Stopped-clause-err
returns-in-Stopped-clause-err g c = λ start written.
    let l = c.loop.invariant in
    let same = one_run g.M.Model.handlers (c.work-standing.ensures.same.0 ∙ l.model) (c.work-standing.ensures.same.1 ∙ l.config ∙ c.requires.config) in
    stops-lasting c.requires.lawful (piece-written c.requires.lawful (l.written start written) same c.in_default.ensures.piece.1 c.as_slice.ensures.value _ c.in_ok-print.ensures.ok)
    c.args.options.now.finals c.in-Stopped.fault (inl (subst (StandsBy c.work-standing.new.self.jobs) c.in-Stopped.is c.work-standing.ensures.told.1).2)

pub loop-preserved : goal.loop-preserved
loop-preserved g c =
    let o = c.args.options.now in
    let H = g.M.Model.handlers c.args.crew.now.model in
    let l = c.loop.invariant in
    let model = c.work-standing.ensures.same.0 ∙ l.model in
    let config = c.work-standing.ensures.same.1 ∙ l.config in
    let same = one_run g.M.Model.handlers model (config ∙ c.requires.config) in record {
      model = ap (λ k. k.model) c.hand_out.ensures.same ∙ model;
      config = ap (λ k. k.config) c.hand_out.ensures.same ∙ config;
      wanted = ap (λ k. k.wanted) c.hand_out.ensures.same ∙ c.work-standing.ensures.same.2 ∙ l.wanted;
      standing = ap (λ k. k.standing) c.hand_out.ensures.same ∙ sym c.work-standing.ensures.told.0 ∙ c.in-GoesOn.is;
      written = λ start written.
          subst (λ k. AreWritten o.records H o.config start (g.O.Write.contents c.print.new.writer) (c.loop.written + k)) (sym (c.len-written.ensures ∙ c.hand_out.new.records.ok.0))
          (piece-written c.requires.lawful (l.written start written) same c.in_default.ensures.piece.1 c.as_slice.ensures.value _ c.in_ok-print.ensures.ok);
    }

pub returns-clause-err : goal.returns-clause-err
returns-clause-err g c = λ start written.
    let o = c.args.options.now in
    let H = g.M.Model.handlers c.args.crew.now.model in
    let l = c.loop.invariant in
    elim c.loop-test.branch [
      | else-loop-test w ↦
          subst (λ out. WritesBelow (text_below o.records H o.config) (run_text o.records o.finals H o.config) start (g.O.Write.contents out)) (sym w.out-is) (written-below c.requires.lawful (l.written start written) o.finals)
      | then-loop-test+in_default+in_ok-print+in-GoesOn+then-turns-options w ↦
          let same = one_run g.M.Model.handlers (w.work-standing.ensures.same.0 ∙ l.model) (w.work-standing.ensures.same.1 ∙ l.config ∙ c.requires.config) in
          subst (λ out. WritesBelow (text_below o.records H o.config) (run_text o.records o.finals H o.config) start (g.O.Write.contents out)) (sym w.out-is)
          (written-below c.requires.lawful (piece-written c.requires.lawful (l.written start written) same w.in_default.ensures.piece.1 w.as_slice.ensures.value _ w.in_ok-print.ensures.ok) o.finals)
    ]

pub returns-in-Err-clause-due : goal.returns-in-Err-clause-due
returns-in-Err-clause-due g c =
    let l = c.loop.invariant in
    let same = one_run g.M.Model.handlers (c.work-standing.ensures.same.0 ∙ l.model) (c.work-standing.ensures.same.1 ∙ l.config ∙ c.requires.config) in
    let sim = simulation_of (g.M.Model.handlers c.args.crew.now.model) c.args.options.now.config in
    let told = c.fault_unread.result in
    subst (λ s. IsDue sim s told) (c.work-standing.ensures.told.0 ∙ sym (ap (λ k. k.standing) c.hand_out.ensures.same))
    (inr (unread-due sim c.work-standing.result c.in-Err.refusal told (subst (λ s. IsHandOutRefusal s c.in-Err.refusal) same c.in-Err.ensures.refused) c.fault_unread.ensures))

pub returns-in_err-print-clause-due : goal.returns-in_err-print-clause-due
returns-in_err-print-clause-due g c =
    let sim = simulation_of (g.M.Model.handlers c.args.crew.now.model) c.args.options.now.config in
    if_err (IsDue sim c.hand_out.new.self.standing) c.from_residual.result c.in_err-print.field-0.0 c.from_residual.ensures.1 (inl c.in_err-print.ensures.fault)

pub returns-in-Stopped-clause-due : goal.returns-in-Stopped-clause-due
returns-in-Stopped-clause-due g c =
    let sim = simulation_of (g.M.Model.handlers c.args.crew.now.model) c.args.options.now.config in
    subst (λ s. IsDue sim s c.in-Stopped.fault) (sym c.in-Stopped.is ∙ c.work-standing.ensures.told.0 ∙ sym (ap (λ k. k.standing) c.hand_out.ensures.same)) (inr refl)

pub returns-clause-due : goal.returns-clause-due
returns-clause-due g c =
    let sim = simulation_of (g.M.Model.handlers c.args.crew.now.model) c.args.options.now.config in
    elim c.loop-test.branch [
      | else-loop-test w ↦ subst (λ crew. IsDue sim crew.standing TurnsSpent) (sym w.crew-is) (subst (λ s. IsDue sim s TurnsSpent) (sym c.loop.invariant.standing) (inr (inr refl)))
      | then-loop-test+in_default+in_ok-print+in-GoesOn+then-turns-options w ↦
          subst (λ crew. IsDue sim crew.standing TurnsSpent) (sym w.crew-is)
          (subst (λ s. IsDue sim s TurnsSpent) (sym w.in-GoesOn.is ∙ w.work-standing.ensures.told.0 ∙ sym (ap (λ k. k.standing) w.hand_out.ensures.same)) (inr (inr refl)))
    ]
