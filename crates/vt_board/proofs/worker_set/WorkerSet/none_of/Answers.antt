use Rattle.std.proofs.Common.{false}
use Rattle.std.proofs.lemmas.List.{take-replicate}
use Rattle.vt_key.specs.declared.limits.TheConstants.{MAX_WORKERS}
use Rattle.vt_board.proofs.worker_set.WorkerSet.none_of.Goals as goal

pub returns : goal.returns
returns c = take-replicate c.args.workers MAX_WORKERS false c.requires
