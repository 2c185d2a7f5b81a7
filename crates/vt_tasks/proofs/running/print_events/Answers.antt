use Rattle.std.proofs.Common.{rules, arith, refl, ◌∙◌, ◌++◌, ap, subst}
use Rattle.std.proofs.lemmas.List.{nil_from_length}
use Rattle.std.proofs.lemmas.Result.{on_ok_weaker}
use Rattle.vt_model.proofs.Sizes.{out_fits, first_out}
use Rattle.vt_model.specs.promise.Settings.{end_of}
use Rattle.vt_key.proofs.ResultLemmas.{if_err}
use Rattle.vt_text.specs.promise.Writing.{AppendsBeginning}
use Rattle.vt_text.specs.inside.Writing.{AppendsAllButHeld}
use Rattle.vt_text.proofs.TextLemmas.{begun}
use Rattle.vt_tasks.specs.promise.Printed.{final_lines}
use Rattle.vt_tasks.specs.promise.Runs.{run_text, text_below}
use Rattle.vt_tasks.specs.inside.Runs.{StopsRun}
use Rattle.vt_tasks.proofs.PrintLemmas.{one_run, opened, first_stops, stepped, step_stops, emptied, put_stops, last_put, finals_refused, finals_put, finals_stop, all_written, last_stops}
use Rattle.vt_tasks.proofs.ReplayLemmas.{both}
use Rattle.vt_tasks.proofs.running.print_events.Given.{Over}
use Rattle.vt_tasks.proofs.running.print_events.Goals.{After-finals_of, After-flush}
use Rattle.vt_tasks.proofs.running.print_events.Goals as goal

pub new-handler_out-requires : goal.new-handler_out-requires
new-handler_out-requires g c =
    let config = c.args.options.now.config in
    first_out _ _ config g.met.M.Model.payload_align g.met.M.Model.payload_size (omega (arith, config.some_process)) c.tick.ensures

pub step_reusing-requires-after_bounds : goal.step_reusing-requires-after_bounds
step_reusing-requires-after_bounds g c κs within = out_fits _ _ g.met.M.Model.payload_align g.met.M.Model.payload_size

pub returns-in_err-put_bytes-clause-err : goal.returns-in_err-put_bytes-clause-err
returns-in_err-put_bytes-clause-err g c =
    let model = c.args.execution.now.model in
    let options = c.args.options.now in
    let e = c.in_err-put_bytes in
    if_err (StopsRun _ _ _ _) _ e.field-0.0 c.from_residual.ensures.1
    (first_stops options.records options.finals (g.M.Model.handlers model) options.config c.new-text.ensures c.first_of.ensures e.ensures.fault (begun _ _ _ _ e.ensures.err))

pub loop-records-init : goal.loop-records-init
loop-records-init g c =
    record {
      model = refl;
      config = c.requires.config;
      printing = opened c.new-text.ensures c.first_of.ensures c.requires.opening c.new-records.ensures.items c.in_ok-put_bytes.ensures.ok;
    }

pub returns-in_err-step_reusing-clause-err : goal.returns-in_err-step_reusing-clause-err
returns-in_err-step_reusing-clause-err g c =
    let l = c.loop-records.invariant in
    let same = one_run g.M.Model.handlers l.model l.config in
    let e = c.in_err-step_reusing in
    if_err (StopsRun _ _ _ _) _ e.field-0.0 c.from_residual-in_err-step_reusing.ensures.1 (step_stops l.printing same c.args.options.now.finals e.ensures.refused)

pub returns-in_err-put_shown-clause-err : goal.returns-in_err-put_shown-clause-err
returns-in_err-put_shown-clause-err g c =
    let l = c.loop-records.invariant in
    let step = c.in_ok-step_reusing.ensures in
    let printing = stepped l.printing (one_run g.M.Model.handlers l.model l.config) step.steps step.adds in
    let e = c.in_err-put_shown in
    if_err (StopsRun _ _ _ _) _ e.field-0.0 c.from_residual-in_err-put_shown.ensures.1 (put_stops printing c.as_slice.ensures.value c.args.options.now.finals e.ensures.fault (begun _ _ _ _ e.ensures.err))

pub loop-records-preserved-then-len-ge-GROUP : goal.loop-records-preserved-then-len-ge-GROUP
loop-records-preserved-then-len-ge-GROUP g c =
    let l = c.loop-records.invariant in
    let step = c.in_ok-step_reusing.ensures in
    let printing = stepped l.printing (one_run g.M.Model.handlers l.model l.config) step.steps step.adds in
    record {
      model = c.step_reusing.ensures.model ∙ l.model;
      config = c.step_reusing.ensures.config ∙ l.config;
      printing = emptied printing c.as_slice.ensures.value c.in_ok-put_shown.ensures.ok c.clear.ensures.items;
    }

pub loop-records-preserved : goal.loop-records-preserved
loop-records-preserved g c =
    let l = c.loop-records.invariant in
    let step = c.in_ok-step_reusing.ensures in
    record {
      model = c.step_reusing.ensures.model ∙ l.model;
      config = c.step_reusing.ensures.config ∙ l.config;
      printing = stepped l.printing (one_run g.M.Model.handlers l.model l.config) step.steps step.adds;
    }

pub returns-in_err-put_shown-2-clause-err : goal.returns-in_err-put_shown-2-clause-err
returns-in_err-put_shown-2-clause-err g c =
    let is = c.as_slice-2.ensures.value ∙ c.in_ok-step_reusing.ensures.none_added c.if-branch.false in
    let e = c.in_err-put_shown-2 in
    if_err (StopsRun _ _ _ _) _ e.field-0.0 c.from_residual-in_err-put_shown-2.ensures.1 (put_stops c.loop-records.invariant.printing is c.args.options.now.finals e.ensures.fault (begun _ _ _ _ e.ensures.err))

pub finals_of-requires-clause-ended : goal.finals_of-requires-clause-ended
finals_of-requires-clause-ended g c κs within =
    ap (λ x. x.pending) (c.in_ok-step_reusing.ensures.idle c.if-branch.false) ∙ nil_from_length c.loop-records.execution.pending (search rules)

-- all records were put, of whose text some is held
records_put : (g : Over) (c : After-finals_of g)
    → AppendsAllButHeld (g.O.Write.contents c.args.out.now) (g.O.Write.contents c.put_shown-2.new.writer) c.put_shown-2.new.text (text_below c.args.options.now.records (g.M.Model.handlers c.args.execution.now.model) c.args.options.now.config (end_of c.args.options.now.config))
records_put g c =
    let l = c.loop-records.invariant in
    let step = c.in_ok-step_reusing.ensures in
    let is = c.as_slice-2.ensures.value ∙ step.none_added c.if-branch.false in
    let none = nil_from_length c.loop-records.execution.pending (search rules) in
    last_put l.printing is (one_run g.M.Model.handlers l.model l.config) none step.whole c.in_ok-put_shown-2.ensures.ok

pub returns-in_err-finals-clause-err : goal.returns-in_err-finals-clause-err
returns-in_err-finals-clause-err g c =
    let e = c.in_err-finals in
    if_err (StopsRun _ _ _ _) _ e.field-0.0 c.from_residual-in_err-finals.ensures.1
    (finals_refused c.args.options.now.records c.args.options.now.finals (g.M.Model.handlers c.args.execution.now.model) c.args.options.now.config (records_put g (goal.at.returns-in_err-finals-clause-err g c).After-finals_of) e.ensures.refused)

-- at the end the whole text was put, of which some is held
all_put : (g : Over) (c : After-flush g)
    → AppendsAllButHeld (g.O.Write.contents c.args.out.now) (g.O.Write.contents c.put_shown-2.new.writer) c.put_shown-2.new.text (text_below c.args.options.now.records (g.M.Model.handlers c.args.execution.now.model) c.args.options.now.config (end_of c.args.options.now.config))
    → AppendsAllButHeld (g.O.Write.contents c.args.out.now) (g.O.Write.contents c.put_finals.new.writer) c.put_finals.new.text (run_text c.args.options.now.records c.args.options.now.finals (g.M.Model.handlers c.args.execution.now.model) c.args.options.now.config)
all_put g c put =
    let l = c.loop-records.invariant in
    finals_put c.args.options.now.records c.args.options.now.finals (g.M.Model.handlers c.args.execution.now.model) c.args.options.now.config put c.in_ok-finals.finals.items (one_run g.M.Model.handlers (c.step_reusing.ensures.model ∙ l.model) (c.step_reusing.ensures.config ∙ l.config)) c.in_ok-finals.ensures.values (subst (λ values. AppendsAllButHeld (g.O.Write.contents c.put_shown-2.new.writer) (g.O.Write.contents c.put_finals.new.writer) c.put_finals.new.text (c.put_shown-2.new.text ++ final_lines 0 values)) c.as_slice-3.ensures.value c.in_ok-put_finals.ensures.ok)

pub returns-in_err-put_finals-clause-err : goal.returns-in_err-put_finals-clause-err
returns-in_err-put_finals-clause-err g c =
    let l = c.loop-records.invariant in
    let e = c.in_err-put_finals in
    let put = records_put g (goal.at.returns-in_err-put_finals-clause-err g c).After-finals_of in
    if_err (StopsRun _ _ _ _) _ e.field-0.0 c.from_residual-in_err-put_finals.ensures.1
    (finals_stop c.args.options.now.records c.args.options.now.finals (g.M.Model.handlers c.args.execution.now.model) c.args.options.now.config put c.in_ok-finals.finals.items (one_run g.M.Model.handlers (c.step_reusing.ensures.model ∙ l.model) (c.step_reusing.ensures.config ∙ l.config)) c.in_ok-finals.ensures.values e.ensures.fault
    (subst (λ values. AppendsBeginning (g.O.Write.contents c.put_shown-2.new.writer) (g.O.Write.contents c.put_finals.new.writer) (c.put_shown-2.new.text ++ final_lines 0 values)) c.as_slice-3.ensures.value e.ensures.err))

pub returns-clause-ok : goal.returns-clause-ok
returns-clause-ok g c =
    let after = goal.at.returns-clause-ok g c in
    on_ok_weaker c.flush.result (all_written (all_put g after.After-flush (records_put g after.After-finals_of)) _) c.flush.ensures.ok

pub returns-clause-err : goal.returns-clause-err
returns-clause-err g c =
    let after = goal.at.returns-clause-err g c in
    both c.flush.result (last_stops (all_put g after.After-flush (records_put g after.After-finals_of)) _) c.flush.ensures.fault c.flush.ensures.err
