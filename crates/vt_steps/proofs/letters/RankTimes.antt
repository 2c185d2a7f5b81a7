-- Ranks and times: what is earlier has a lesser rank, and what has a lesser rank is not later.
use Rattle.std.proofs.Common.{◌≡◌, inl, inr, true, false, not, ap, arith}
use Rattle.std.proofs.lemmas.Bool.{cases_lt}
use Rattle.std.proofs.lemmas.Bool.Decides.{nat_tests}
use Rattle.vt_key.specs.promise.Times.{TimeBefore, TimeAtMost}
use Rattle.vt_key.specs.promise.Order.{rank_before, key_before, key_same}
use Rattle.vt_key.specs.inside.Order.{RankBefore}
use Rattle.vt_key.specs.declared.order.Rank.{Rank}

-- a lesser rank is not later
pub rank-time : (a b : Rank) → rank_before a b ≡ true → TimeAtMost a.key.time b.key.time
unfolding rank_before key_before key_same
rank-time a b h = grind (arith, nat_tests)

-- what is earlier has a lesser rank
pub sooner-rank : (a b : Rank) → TimeBefore a.key.time b.key.time → rank_before a b ≡ true
unfolding rank_before key_before key_same
sooner-rank a b h = grind (arith, nat_tests)

-- what no lesser rank is before is not later
pub not-after-time : (a b : Rank) → not (rank_before a b) ≡ true → TimeAtMost b.key.time a.key.time
not-after-time a b h =
    elim (cases_lt a.key.time b.key.time) [
      | inl sooner ↦ absurd (let less = sooner-rank a b sooner in let k : false ≡ true = (let same : not (rank_before a b) ≡ false = ap not less in cc) in cc)
      | inr late ↦ late
    ]

-- of two ranks in order, the first is not later
pub rank-order-time : (a b : Rank) → RankBefore a b → TimeAtMost a.key.time b.key.time
rank-order-time a b h = grind arith
