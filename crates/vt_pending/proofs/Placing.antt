-- Of two ranks one alone is before the other.
use Rattle.std.proofs.Common.{true, false, ◌≡◌, refl, sym, ap, ◌∙◌, inl, inr, subst, arith}
use Rattle.std.specs.Prelude.{ℕ, ◌<◌, ◌≤◌, ◌/◌, ◌%◌, nat_eq, nat_lt}
use Rattle.std.proofs.lemmas.Bool.{eqb-false, ltb-true, ltb-false}
use Rattle.vt_key.specs.promise.Order.{rank_before, rank_same}
use Rattle.vt_key.specs.inside.Order.{RankBefore}
use Rattle.vt_key.specs.promise.Times.{ticks_of}
use Rattle.vt_key.specs.declared.order.Rank.{Rank}
use Rattle.vt_key.proofs.OrderLemmas.{rank-irreflexive, rank-transitive, rank-total, rank_before-true, before-rank_before, same-rank_same}
use Rattle.vt_pending.specs.inside.Buckets.{bucket_of}

pub not-back : (a b : Rank) → RankBefore a b → rank_before b a ≡ false
not-back a b h = elim (rank_before b a) as (λ t. rank_before b a ≡ t → t ≡ false) [
  | true ↦ λ is. absurd (rank-irreflexive a (rank-transitive a b a h (rank_before-true b a is)))
  | false ↦ λ is. refl
] refl

-- and where they differ, one is
pub follows : (a b : Rank) → rank_before a b ≡ false → rank_same a b ≡ false → RankBefore b a
follows a b late other = elim (rank-total a b) [
  | inl h ↦ absurd (let e : true ≡ false = sym (before-rank_before a b h) ∙ late in cc)
  | inr h ↦ elim h [
    | inl e ↦ absurd (let f : true ≡ false = sym (subst (λ (r : Rank). rank_same a r ≡ true) e (same-rank_same a)) ∙ other in cc)
    | inr k ↦ k
  ]
]

lower : (m n : ℕ) → m / 256 < n / 256 → m < n
lower m n less = omega (arith, less)

strict : (m n : ℕ) → n ≤ m → (m ≡ n → ⊥) → n < m
strict m n most differ = search (arith, most, differ)

-- the ranks of different lists have different ticks, which tell their order
pub by-ticks : (a b : Rank) → nat_eq (bucket_of a) (bucket_of b) ≡ false → nat_lt (ticks_of a.key.time) (ticks_of b.key.time) ≡ rank_before a b
by-ticks a b other =
    let m : ℕ = ticks_of a.key.time in let n : ℕ = ticks_of b.key.time in
    let differ : m ≡ n → ⊥ = λ e. eqb-false (bucket_of a) (bucket_of b) other (ap (λ t. t % 64) e) in
    elim (nat_lt m n) as (λ t. nat_lt m n ≡ t → t ≡ rank_before a b) [
      | true ↦ λ e. sym (before-rank_before a b (inl (inl (lower a.key.time b.key.time (ltb-true m n e)))))
      | false ↦ λ e. sym (not-back b a (inl (inl (lower b.key.time a.key.time (strict m n (ltb-false m n e) differ)))))
    ] refl
