use Rattle.std.proofs.Common.{◌≡◌, ◌++◌, ℕ, List, [], Option, Result, inl, subst, OnOk, IfErr, IsErrAnd}
use Rattle.std.specs.Io.KnownBytes.{Appends}
use Rattle.vt_key.specs.promise.Times.{opening_time}
use Rattle.vt_key.specs.declared.fault.Fault.{Fault}
use Rattle.vt_key.specs.declared.fault.Fault.TheVariants.{Memory}
use Rattle.vt_options.specs.declared.choices.RunSettings.{RunSettings}
use Rattle.vt_key.proofs.ResultLemmas.{if_err}
use Rattle.vt_model.specs.declared.settings.Config.{Config}
use Rattle.vt_model.specs.promise.Histories.{IsLawful}
use Rattle.vt_model.specs.promise.Simulation.{simulation_of}
use Rattle.vt_model.proofs.LawLemmas.{lawful_of}
use Rattle.vt_tasks.specs.promise.Printed.{final_lines, printed_text}
use Rattle.vt_tasks.specs.promise.Runs.{text_below, run_text}
use Rattle.vt_tasks.specs.inside.Runs.{StopsInThreads, WritesWhole}
use Rattle.vt_station.proofs.CrewLemmas.{none-at-first}
use Rattle.vt_runner.proofs.RunLemmas.{none-written, part_begun, stops-lasting, output_begun}
use Rattle.vt_runner.proofs.simulation.print_work.Given.{Over}
use Rattle.vt_runner.proofs.simulation.print_work.Goals as goal

lawful : (g : Over) (model : g.row.M.Denot) (config : Config) → IsLawful (simulation_of (g.M.Model.handlers model) config)
lawful g model config =
    let met = g.met.M.Model g.world.𝓛 g.world.𝓜 g.world.𝓡 ((λ s x. x), (λ x. x), (λ x. x), λ x. x) in
    lawful_of (g.M.Model.handlers model) config (met.start_within model) (met.forward_within model)

pub print_kept-requires-clause-lawful : goal.print_kept-requires-clause-lawful
print_kept-requires-clause-lawful g c κs within = lawful g c.args.model.now c.args.options.now.config

pub print_pieces-requires-clause-lawful : goal.print_pieces-requires-clause-lawful
print_pieces-requires-clause-lawful g c κs within = lawful g c.in_ok-crew.crew.model c.args.options.now.config

pub returns-in_err-print_result-clause-err : goal.returns-in_err-print_result-clause-err
returns-in_err-print_result-clause-err g c =
    let o = c.args.options.now in
    let H = g.M.Model.handlers c.args.model.now in
    let fault = c.in_err-print_result.field-0.0 in
    if_err (StopsInThreads H o _ _) c.from_residual.result fault c.from_residual.ensures.1
    (output_begun o.config.workers (text_below o.records H o.config) (run_text o.records o.finals H o.config) _ _ fault c.in_err-print_result.ensures.fault
    (part_begun o.records o.finals H o.config (lawful g c.args.model.now o.config) [] (opening_time, none-at-first (simulation_of H o.config)) _ _ c.in_err-print_result.ensures.err))

-- memory was refused before the first piece, when the first line was written
refused-early : (g : Over) (model : g.row.M.Denot) (o : RunSettings) (old now : Option (List ℕ)) → Appends old now (printed_text o.records [] ++ final_lines 0 []) → (result : Result (Unit {0}) Fault) (fault : Fault) → fault ≡ Memory → IsErrAnd result (λ e. e ≡ fault)
    → IfErr result (StopsInThreads (g.M.Model.handlers model) o old now)
refused-early g model o old now written result fault is told =
    if_err (StopsInThreads (g.M.Model.handlers model) o old now) result fault told
    (stops-lasting {handlers = g.M.Model.handlers model} {config = o.config} (lawful g model o.config) (none-written old now written) o.finals fault (inl (inl is)))

pub returns-in_err-test_threads-clause-err : goal.returns-in_err-test_threads-clause-err
returns-in_err-test_threads-clause-err g c =
    refused-early g c.args.model.now c.args.options.now _ _ c.in_ok-print_result.ensures.ok c.from_residual-in_err-test_threads.result c.in_err-test_threads.field-0.0 c.in_err-test_threads.ensures.refused c.from_residual-in_err-test_threads.ensures.1

pub returns-in_err-station-clause-err : goal.returns-in_err-station-clause-err
returns-in_err-station-clause-err g c =
    refused-early g c.args.model.now c.args.options.now _ _ c.in_ok-print_result.ensures.ok c.from_residual-in_err-station.result c.in_err-station.field-0.0 c.in_err-station.ensures.refused c.from_residual-in_err-station.ensures.1

pub returns-in_err-bells-clause-err : goal.returns-in_err-bells-clause-err
returns-in_err-bells-clause-err g c =
    refused-early g c.args.model.now c.args.options.now _ _ c.in_ok-print_result.ensures.ok c.from_residual-in_err-bells.result c.in_err-bells.field-0.0 c.in_err-bells.ensures.refused c.from_residual-in_err-bells.ensures.1

pub returns-in_err-crew-clause-err : goal.returns-in_err-crew-clause-err
returns-in_err-crew-clause-err g c =
    refused-early g c.args.model.now c.args.options.now _ _ c.in_ok-print_result.ensures.ok c.from_residual-in_err-crew.result c.in_err-crew.field-0.0 c.in_err-crew.ensures.refused c.from_residual-in_err-crew.ensures.1

pub returns-clause-ok : goal.returns-clause-ok
returns-clause-ok g c =
    let o = c.args.options.now in
    let old = g.O.Write.contents c.args.out.now in
    subst (λ m. OnOk c.print_pieces.result (WritesWhole (g.M.Model.handlers m) o old (g.O.Write.contents c.print_pieces.new.out))) c.in_ok-crew.ensures.made.0
    (c.print_pieces.ensures.ok old (none-written _ _ c.in_ok-print_result.ensures.ok))

pub returns-clause-err : goal.returns-clause-err
returns-clause-err g c =
    let o = c.args.options.now in
    let old = g.O.Write.contents c.args.out.now in
    subst (λ m. IfErr c.print_pieces.result (StopsInThreads (g.M.Model.handlers m) o old (g.O.Write.contents c.print_pieces.new.out))) c.in_ok-crew.ensures.made.0
    (c.print_pieces.ensures.err old (none-written _ _ c.in_ok-print_result.ensures.ok))
