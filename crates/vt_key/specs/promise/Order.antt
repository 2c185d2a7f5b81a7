-- The orders of keys, stamps and ranks: field by field from the left.
use Rattle.std.specs.Prelude.{◌≡◌, ◌<◌, ◌⊎◌, Bool, ◌||◌, ◌&&◌, nat_lt, nat_eq}
use Rattle.vt_key.specs.promise.Times.{TimeBefore, time_before}
use Rattle.vt_key.specs.promise.Keys.{Key}
use Rattle.vt_key.specs.declared.order.Stamp.{Stamp}
use Rattle.vt_key.specs.declared.order.Rank.{Rank}

-- one key is before another
abbrev pub KeyBefore : Key → Key → Type 0
KeyBefore a b = TimeBefore a.time b.time ⊎ ((a.time ≡ b.time) × ((a.source < b.source) ⊎ ((a.source ≡ b.source) × (a.number < b.number))))

-- the tests of these, and of sameness
unfoldable pub key_before : Key → Key → Bool
key_before a b = time_before a.time b.time || (nat_eq a.time b.time && (nat_lt a.source b.source || (nat_eq a.source b.source && nat_lt a.number b.number)))

unfoldable pub key_same : Key → Key → Bool
key_same a b = nat_eq a.time b.time && (nat_eq a.source b.source && nat_eq a.number b.number)

unfoldable pub stamp_before : Stamp → Stamp → Bool
stamp_before a b = nat_lt a.worker b.worker || (nat_eq a.worker b.worker && nat_lt a.serial b.serial)

unfoldable pub stamp_same : Stamp → Stamp → Bool
stamp_same a b = nat_eq a.worker b.worker && nat_eq a.serial b.serial

unfoldable pub rank_before : Rank → Rank → Bool
rank_before a b = key_before a.key b.key || (key_same a.key b.key && stamp_before a.stamp b.stamp)

unfoldable pub rank_same : Rank → Rank → Bool
rank_same a b = key_same a.key b.key && stamp_same a.stamp b.stamp
