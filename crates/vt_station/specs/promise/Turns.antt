-- How the work of a worker ends.
use Rattle.std.specs.Prelude.{◌≡◌, ◌⊎◌}
use Rattle.vt_key.specs.declared.fault.Fault.{Fault}
use Rattle.vt_key.specs.declared.fault.Fault.TheVariants.{Memory, Exhausted}

-- a fault that no later turn mends
abbrev pub IsLasting : Fault → Type 0
IsLasting fault = (fault ≡ Memory) ⊎ (fault ≡ Exhausted)
