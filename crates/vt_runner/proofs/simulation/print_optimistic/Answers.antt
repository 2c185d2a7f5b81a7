use Rattle.std.proofs.Common.{◌∙◌, ℕ, Bool, List, Option, subst, OnOk}
use Rattle.std.proofs.lemmas.Result.{IfErr-weaker}
use Rattle.std.specs.Io.KnownBytes.{Appends}
use Rattle.vt_text.specs.declared.version.Version.{Version}
use Rattle.vt_tasks.specs.promise.Runs.{text_below, run_text}
use Rattle.vt_tasks.specs.inside.Runs.{StopsWork}
use Rattle.vt_runner.proofs.WorkerLemmas.{text-same, stops-same}
use Rattle.vt_runner.proofs.simulation.print_optimistic.Goals as goal

pub returns-clause-ok : goal.returns-clause-ok
returns-clause-ok g c =
    let H = g.M.Model.handlers c.args.model.now in
    let o = c.args.options.now in
    let s = c.with_own_processes-settings in
    let d = s.result.config in
    let run = s.ensures.run in
    subst (λ (l : List ℕ). OnOk c.print_work.result (Appends (g.O.Write.contents c.args.out.now) (g.O.Write.contents c.print_work.new.out) l))
    ((λ j. run_text (s.ensures.shown.0 j) (s.ensures.shown.1 j) H d) ∙ text-same o.records o.finals H o.config d run.0 run.1 run.2) c.print_work.ensures.ok

pub returns-clause-err : goal.returns-clause-err
returns-clause-err g c =
    let H = g.M.Model.handlers c.args.model.now in
    let o = c.args.options.now in
    let s = c.with_own_processes-settings in
    let d = s.result.config in
    let run = s.ensures.run in
    let old = g.O.Write.contents c.args.out.now in
    let new = g.O.Write.contents c.print_work.new.out in
    IfErr-weaker c.print_work.result _ _
    (λ fault h. stops-same o.records o.finals H o.config d run.0 run.1 run.2 old new s.ensures.fewer fault
    (subst (λ (v : Option Version × Bool). StopsWork d.workers (text_below v.0 H d) (run_text v.0 v.1 H d) old new fault) (λ j. (s.ensures.shown.0 j, s.ensures.shown.1 j)) h)) c.print_work.ensures.err
