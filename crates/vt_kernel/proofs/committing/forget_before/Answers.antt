use Rattle.std.proofs.Common.{◌≡◌, ◌<◌, Some, length, slice_get, slice_index_or, refl, sym, subst, arith}
use Rattle.std.proofs.lemmas.Option.{slice_get-get_or}
use Rattle.vt_lp.specs.inside.Held.{HeldProcess}
use Rattle.vt_kernel.proofs.CommitLemmas.{forgotten-more}
use Rattle.vt_kernel.proofs.committing.forget_before.Goals as goal

pub loop-process-init : goal.loop-process-init
loop-process-init g c = record {
  count = refl;
  within = omega arith;
  forgotten = λ k d before. absurd (omega arith);
  left = λ k d more. refl;
}

pub loop-process-preserved : goal.loop-process-preserved
loop-process-preserved g c =
    let old = c.args.processes.now in
    let now = c.loop-process.processes in
    let index = c.loop-process.process-index in
    let item : HeldProcess _ _ _ = slice_index_or now index c.process-item.result in
    let new : HeldProcess _ _ _ = c.fossil.new.self in
    let less : index < length now = subst (λ n. index < n) (sym c.loop-process.invariant.count) c.loop-process-test.true in
    let at : slice_get now index ≡ Some item = slice_get-get_or now index c.process-item.result less in
    let same = c.fossil.ensures.same in
    forgotten-more c.args.floor index old now item new c.loop-process.invariant c.loop-process-test.true at
    (record { committed = c.fossil.ensures.committed; lp = same.0; config = same.1; pending = same.3; waiting = same.4 })

pub returns-clause-count : goal.returns-clause-count
returns-clause-count g c = c.loop-process.invariant.count

pub returns-clause-forgotten : goal.returns-clause-forgotten
returns-clause-forgotten g c k d within = c.loop-process.invariant.forgotten k d (omega (arith, within, c.loop-process-test.false))
