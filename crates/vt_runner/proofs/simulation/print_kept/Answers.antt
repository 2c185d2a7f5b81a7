use Rattle.std.proofs.Common.{◌≡◌, ◌∙◌, ◌++◌, ap, subst, sym}
use Rattle.std.proofs.lemmas.Result.{on_ok_weaker}
use Rattle.std.specs.Io.KnownBytes.{Appends}
use Rattle.vt_key.proofs.ResultLemmas.{if_err}
use Rattle.vt_model.specs.promise.Simulation.{simulation_of}
use Rattle.vt_station.specs.promise.Crew.{IsStop}
use Rattle.vt_station.specs.inside.Crew.{wanted_finals}
use Rattle.vt_text.specs.promise.Writing.{AppendsBeginning}
use Rattle.vt_tasks.specs.promise.Printed.{final_lines, printed_text}
use Rattle.vt_tasks.specs.promise.Runs.{text_below, run_text}
use Rattle.vt_tasks.specs.inside.Runs.{StopsInThreads}
use Rattle.vt_runner.proofs.RunLemmas.{kept-text, part_begun, work_stops, output_begun}
use Rattle.vt_tasks.proofs.ReplayLemmas.{both}
use Rattle.vt_runner.proofs.simulation.print_kept.Given.{Over}
use Rattle.vt_runner.proofs.simulation.print_kept.Goals.{After-print_result}
use Rattle.vt_runner.proofs.simulation.print_kept.Goals as goal

-- what is printed of a whole run is its text
whole : (g : Over) (c : After-print_result g) → printed_text c.args.options.now.records c.as_slice.result.now ++ final_lines 0 c.as_slice-in-Ok.result.now ≡ run_text c.args.options.now.records c.args.options.now.finals (g.M.Model.handlers c.args.model.now) c.args.options.now.config
whole g c =
    let o = c.args.options.now in
    let H = g.M.Model.handlers c.args.model.now in
    kept-text o.records o.finals H o.config c.as_slice.result.now c.as_slice-in-Ok.result.now (c.as_slice.ensures.value ∙ c.in-Ok.ensures.whole)
    (c.as_slice-in-Ok.ensures.value ∙ c.in-Ok.ensures.finals ∙ ap (λ w. wanted_finals w (simulation_of H o.config)) c.wanted_by.ensures)

pub returns-in-Ok-clause-ok : goal.returns-in-Ok-clause-ok
returns-in-Ok-clause-ok g c =
    on_ok_weaker c.print_result.result (λ h. subst (λ l. Appends (g.O.Write.contents c.args.out.now) (g.O.Write.contents c.print_result.new.writer) l) (whole g (goal.at.returns-in-Ok-clause-ok g c).After-print_result) h) c.print_result.ensures.ok

pub returns-in-Ok-clause-err : goal.returns-in-Ok-clause-err
returns-in-Ok-clause-err g c =
    let o = c.args.options.now in
    let H = g.M.Model.handlers c.args.model.now in
    both c.print_result.result (λ fault is h. output_begun o.config.workers (text_below o.records H o.config) (run_text o.records o.finals H o.config) _ _ fault is
    (subst (λ l. AppendsBeginning (g.O.Write.contents c.args.out.now) (g.O.Write.contents c.print_result.new.writer) l) (whole g (goal.at.returns-in-Ok-clause-err g c).After-print_result) h)) c.print_result.ensures.fault c.print_result.ensures.err

pub returns-in_err-print_result-in-Err-clause-err : goal.returns-in_err-print_result-in-Err-clause-err
returns-in_err-print_result-in-Err-clause-err g c =
    let o = c.args.options.now in
    let H = g.M.Model.handlers c.args.model.now in
    let fault = c.in_err-print_result-in-Err.field-0.0 in
    if_err (StopsInThreads H o _ _) c.from_residual.result fault c.from_residual.ensures.1
    (output_begun o.config.workers (text_below o.records H o.config) (run_text o.records o.finals H o.config) _ _ fault c.in_err-print_result-in-Err.ensures.fault
    (part_begun o.records o.finals H o.config c.requires.lawful c.as_slice-in-Err.result.now (c.in-Err.ensures.begun.0, c.as_slice-in-Err.ensures.value ∙ c.in-Err.ensures.begun.1) _ _ c.in_err-print_result-in-Err.ensures.err))

pub returns-in_ok-print_result-in-Err-clause-err : goal.returns-in_ok-print_result-in-Err-clause-err
returns-in_ok-print_result-in-Err-clause-err g c =
    let o = c.args.options.now in
    work_stops o.records o.finals (g.M.Model.handlers c.args.model.now) o.config c.requires.lawful c.as_slice-in-Err.result.now (c.in-Err.ensures.begun.0, c.as_slice-in-Err.ensures.value ∙ c.in-Err.ensures.begun.1) _ _ c.in-Err.stopped.fault (subst (IsStop o.config c.in-Err.stopped.fault) (sym c.as_slice-in-Err.ensures.value) c.in-Err.ensures.fault) c.in_ok-print_result-in-Err.ensures.ok
