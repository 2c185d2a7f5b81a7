-- A pointer that may be null: where something lies, or that there is nothing.
use Rattle.std.specs.Prelude.{◌≡◌, refl, Option, Some, None}
use denote.RawPtr.{Ptr, block_ptr, null_ptr, InBlock, Testable}

-- where something lies, if a pointer is not null
abbrev pub address_of : Ptr → Option Ptr
address_of (block_ptr b o) = Some (block_ptr b o)
address_of null_ptr = None

-- the pointer of an address, or null
abbrev pub pointer_of : Option Ptr → Ptr
pointer_of None = null_ptr
pointer_of (Some p) = p

-- no pointer is lost
pub pointer_of-address : (p : Ptr) → pointer_of (address_of p) ≡ p
pointer_of-address (block_ptr b o) = refl
pointer_of-address null_ptr = refl

-- a pointer that is not null, and that may be compared with null
abbrev pub IsSomewhere : Ptr → Type 0
IsSomewhere p = InBlock p × Testable p
