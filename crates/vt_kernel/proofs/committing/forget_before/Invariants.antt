use Rattle.vt_kernel.proofs.CommitLemmas.{HaveForgotten}
use Rattle.vt_kernel.proofs.committing.forget_before.Given as goal

abbrev pub invariant-loop-process : goal.invariant-loop-process
invariant-loop-process g l = HaveForgotten l.floor l.process-index l.initial.processes l.processes
