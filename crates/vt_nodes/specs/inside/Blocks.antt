-- Blocks of memory: what owning some is, and what lending them is.
use Rattle.std.specs.Prelude.{ℕ, List, [], ◌∷◌, slice_index_or, map}
use base.Fml.{Lft, Fml, ftrue, fsep}
use denote.RattleType.{RattleType}
use denote.Sharing.{nothing, beside}
use denote.RawPtr.{Ptr, null_ptr}
use denote.Struct.Lending.{lent_at}
use Rattle.std_alloc.specs.Box.Ownership.{box_owns}
use mir.Syntax.{Ty}
use Rattle.std_heap.specs.contracts.GlobalAllocator.TheImpl.{ghosts}

-- the right to free a block of the allocator `Global`, which is the same whichever handle frees it
abbrev pub may_free : Ty → Ptr → Fml
may_free = ghosts.dealloc_token (record { memory = record { seal = tt } })

-- what the owner of some blocks has: of each, its content and the right to free it
abbrev pub blocks_owned : (R : RattleType) → List (Ptr × R.Denot) → Fml
blocks_owned R [] = ftrue
blocks_owned R (b ∷ bs) = fsep (box_owns may_free R b.0 b.1) (blocks_owned R bs)

-- what the holder of a `&` to them has: a `&` to the content of each
abbrev pub blocks_lent : (R : RattleType) → List (Ptr × R.Denot) → Lft → Fml
blocks_lent R [] = nothing
blocks_lent R (b ∷ bs) = beside (lent_at R b.0 b.1) (blocks_lent R bs)

-- where the blocks lie
abbrev pub addresses : {X : Type 0} → List (Ptr × X) → List Ptr
addresses = map (λ b. b.0)

-- what lies in them
abbrev pub contents : {X : Type 0} → List (Ptr × X) → List X
contents = map (λ b. b.1)

-- where the block of that index lies
abbrev pub address_at : {X : Type 0} → List (Ptr × X) → ℕ → Ptr
address_at bs index = slice_index_or (addresses bs) index null_ptr
