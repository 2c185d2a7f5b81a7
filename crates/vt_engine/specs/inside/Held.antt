-- What an engine is, as contracts see it.
use Rattle.std.specs.Prelude.{ℕ}
use Rattle.vt_kernel.specs.inside.Held.{HeldWorker}
use Rattle.vt_engine.specs.declared.kind.TheConstants.{KERNEL, SHARE}
use Rattle.vt_engine.specs.declared.kind.Kind.{Kind}
use Rattle.vt_engine.specs.declared.kind.Kind.TheVariants.{Kernel, Share}

-- what is seen of the kernel that it is
abbrev pub held_of : {M S P K : Type 0} → Kind M S P K → HeldWorker S P K
held_of (Kernel kernel) = kernel
held_of (Share share) = share

-- the number of its kind
abbrev pub number_of : {M S P K : Type 0} → Kind M S P K → ℕ
number_of (Kernel kernel) = KERNEL
number_of (Share share) = SHARE
