-- The orders of keys, stamps and ranks: field by field from the left.
use Rattle.std.specs.Prelude.{◌≡◌, ◌<◌, ◌⊎◌}
use Rattle.vt_key.specs.declared.order.Stamp.{Stamp}
use Rattle.vt_key.specs.declared.order.Rank.{Rank}
use Rattle.vt_key.specs.promise.Order.{KeyBefore}

-- one stamp is before another
abbrev pub StampBefore : Stamp → Stamp → Type 0
StampBefore a b = (a.worker < b.worker) ⊎ ((a.worker ≡ b.worker) × (a.serial < b.serial))

-- one rank is before another
abbrev pub RankBefore : Rank → Rank → Type 0
RankBefore a b = KeyBefore a.key b.key ⊎ ((a.key ≡ b.key) × StampBefore a.stamp b.stamp)

-- an order that is strict and total
pub record IsStrictTotal {X : Type 0} (Before : X → X → Type 0) : Type 0 where
  pub irreflexive : (a : X) → Before a a → ⊥
  pub transitive : (a b c : X) → Before a b → Before b c → Before a c
  pub total : (a b : X) → Before a b ⊎ ((a ≡ b) ⊎ Before b a)
