-- The process to execute next.
use Rattle.std.specs.Prelude.{◌≡◌, ℕ, ◌<◌, Bool, true, false, List, Option, Some, None, slice_get}
use Rattle.vt_key.specs.promise.Order.{rank_before}
use Rattle.vt_key.specs.inside.Order.{RankBefore}
use Rattle.vt_key.specs.declared.order.Rank.{Rank}
use Rattle.vt_lp.specs.inside.Held.{HeldProcess}
use Rattle.vt_lp.specs.inside.Guards.{ready_rank}

-- the rank of the event that Execute would execute at a process
abbrev pub ready_of : {S P K : Type 0} → HeldProcess S P K → Option Rank
ready_of held = ready_rank held.pending held.past

-- the rank at this index is there, none is before it, and each at a lower index is after it
pub record IsLeast (ranks : List (Option Rank)) (index : ℕ) : Type 0 where
  pub rank : Rank
  pub there : slice_get ranks index ≡ Some (Some rank)
  pub least : (i : ℕ) (other : Rank) → slice_get ranks i ≡ Some (Some other) → RankBefore other rank → ⊥
  pub first : (i : ℕ) (other : Rank) → i < index → slice_get ranks i ≡ Some (Some other) → RankBefore rank other

-- a rank is there, and another one isn't or is after it
abbrev pub is_earlier : Option Rank → Option Rank → Bool
is_earlier None other = false
is_earlier (Some rank) None = true
is_earlier (Some rank) (Some other) = rank_before rank other
