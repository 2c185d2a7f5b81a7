use Rattle.std.proofs.Common.{◌≡◌, ◌∙◌, refl, inl, inr, subst, OnOk}
use Rattle.std.specs.Prelude.{◌⊎◌}
use Rattle.std.specs.Io.KnownBytes.{Appends}
use Rattle.vt_key.specs.declared.fault.Fault.TheVariants.{Memory, Output}
use Rattle.vt_key.proofs.ResultLemmas.{if_err}
use Rattle.vt_model.specs.promise.Simulation.{simulation_of}
use Rattle.vt_station.specs.inside.Crew.{wanted_finals}
use Rattle.vt_text.specs.promise.Writing.{AppendsBeginning}
use Rattle.vt_tasks.specs.promise.Printed.{final_lines}
use Rattle.vt_tasks.proofs.ReplayLemmas.{both}
use Rattle.vt_runner.proofs.simulation.print_last.Goals as goal

pub returns-in_err-finals-clause-err : goal.returns-in_err-finals-clause-err
returns-in_err-finals-clause-err g c =
    let crew = c.args.crew.now in
    let lines = final_lines 0 (wanted_finals crew.wanted (simulation_of (g.M.Model.handlers crew.model) crew.config)) in
    let out = g.O.Write.contents c.args.out.now in
    if_err (λ fault. ((fault ≡ Memory) × (out ≡ out)) ⊎ ((fault ≡ Output) × AppendsBeginning out out lines)) c.from_residual.result c.in_err-finals.field-0.0 c.from_residual.ensures.1 (inl (c.in_err-finals.ensures.refused c.requires.whole, refl))

pub returns-clause-ok : goal.returns-clause-ok
returns-clause-ok g c =
    subst (λ values. OnOk c.print_result.result (Appends (g.O.Write.contents c.args.out.now) (g.O.Write.contents c.print_result.new.writer) (final_lines 0 values))) (c.as_slice.ensures.value ∙ c.in_ok-finals.ensures.values) c.print_result.ensures.ok

pub returns-clause-err : goal.returns-clause-err
returns-clause-err g c =
    both c.print_result.result (λ fault is h. inr (is, subst (λ values. AppendsBeginning (g.O.Write.contents c.args.out.now) (g.O.Write.contents c.print_result.new.writer) (final_lines 0 values)) (c.as_slice.ensures.value ∙ c.in_ok-finals.ensures.values) h)) c.print_result.ensures.fault c.print_result.ensures.err
