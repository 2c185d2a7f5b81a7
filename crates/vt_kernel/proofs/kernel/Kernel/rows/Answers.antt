use Rattle.std.proofs.Common.{◌≡◌, ◌∙◌, ◌++◌, List, Some, length, slice_get, sym, ap, refl, subst, arith}
use Rattle.std.proofs.lemmas.List.{take_all}
use Rattle.std.proofs.lemmas.Option.{slice_get_read}
use Rattle.vt_model.specs.promise.Simulation.{simulation_of}
use Rattle.vt_steps.specs.promise.PartSteps.{ripe_rows, rows_of_commit}
use Rattle.vt_steps.proofs.steps.CommitRows.{rows_of_processes}
use Rattle.vt_lp.specs.inside.Held.{HeldProcess}
use Rattle.vt_kernel.specs.inside.Held.{HeldWorker, AreProcesses}
use Rattle.vt_kernel.proofs.CommitLemmas.{rows-next, same-length}
use Rattle.vt_kernel.proofs.kernel.Kernel.rows.Goals as goal

pub loop-process-preserved : goal.loop-process-preserved
loop-process-preserved g c handlers part s =
    let now = c.args.self.now in
    let items = c.deref-process-items.result.now in
    let index = c.loop-process.process-index in
    let q : HeldProcess _ _ _ = c.process-item.result in
    let are : AreProcesses now.config now.worker 0 now.processes = subst (λ (v : HeldWorker _ _ _). AreProcesses v.config v.worker 0 v.processes) c.self.view_is c.self.invariant.own_processes in
    let there : slice_get items index ≡ Some q = slice_get_read items _ index q refl c.loop-process-test.true c.process-item.is in
    let at : slice_get now.processes index ≡ Some q = subst (λ (v : HeldWorker _ _ _). slice_get v.processes index ≡ Some q) c.self.view_is
    (subst (λ (ps : List (HeldProcess _ _ _)). slice_get ps index ≡ Some q) c.deref-process-items.ensures.value there) in
    rows-next handlers now part index q c.loop-process.rows.items c.ripe.new.rows.items s are at (c.loop-process.invariant handlers part s)
    (λ h stands. c.in_ok-ripe.ensures.rows handlers h stands
    ∙ ap (λ (v : HeldWorker _ _ _). c.loop-process.rows.items ++ ripe_rows (simulation_of handlers q.config) q.lp v.floor h) c.self.view_is)

pub returns-clause-rows : goal.returns-clause-rows
unfolding rows_of_commit
returns-clause-rows g c handlers part s =
    let now = c.args.self.now in
    let all = same-length handlers (simulation_of handlers now.config) now.worker 0 now.processes part.processes s.processes in
    let size : length c.deref-process-items.result.now ≡ length now.processes = ap length c.deref-process-items.ensures.value ∙ ap (λ (v : HeldWorker _ _ _). length v.processes) c.self.view_is in
    let past = c.loop-process-test.false in
    c.loop-process.invariant handlers part s
    ∙ (λ j. rows_of_processes (simulation_of handlers now.config) now.worker (sym s.floor j) 0 (take_all c.loop-process.process-index part.processes (omega (arith, all, size, past)) j))
