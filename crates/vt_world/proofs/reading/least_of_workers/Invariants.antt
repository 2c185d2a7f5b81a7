use Rattle.std.proofs.Common.{◌≡◌, take}
use Rattle.std.specs.List.{flat_map}
use Rattle.vt_steps.specs.promise.Letters.{least_time}
use Rattle.vt_kernel.specs.inside.Guards.{held_letters}
use Rattle.vt_world.proofs.reading.least_of_workers.Given as goal

abbrev pub invariant-loop-kernel : goal.invariant-loop-kernel
invariant-loop-kernel g l = l.least ≡ least_time l.fn.end (flat_map held_letters (take l.kernel-index l.kernels))
