-- The least of some floors.
use Rattle.std.proofs.Common.{◌≤◌, List, [], ◌∷◌, arith}
use Rattle.vt_key.specs.promise.Times.{Time}
use Rattle.vt_steps.specs.promise.Letters.{least_of}

-- it is not after the end
pub not-after-end : (end : Time) (floors : List Time) → least_of end floors ≤ end
not-after-end end [] = omega arith
not-after-end end (floor ∷ floors) = let ih = not-after-end end floors in omega arith
