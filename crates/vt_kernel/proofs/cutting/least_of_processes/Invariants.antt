use Rattle.std.proofs.Common.{◌≡◌, take}
use Rattle.std.specs.List.{flat_map}
use Rattle.vt_steps.specs.promise.Letters.{least_time}
use Rattle.vt_kernel.proofs.ReportLemmas.{kept_letters}
use Rattle.vt_kernel.proofs.cutting.least_of_processes.Given as goal

abbrev pub invariant-loop-process : goal.invariant-loop-process
invariant-loop-process g l = l.least ≡ least_time l.fn.end (flat_map kept_letters (take l.process-index l.processes))
