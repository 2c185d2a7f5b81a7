-- The orders of keys, stamps and ranks are strict and total, and the tests decide them.
use Rattle.std.proofs.Common.{◌≡◌, subst, ap, ℕ, ◌<◌, ◌⊎◌, inl, inr, arith, Bool, true, false, ◌||◌, ◌&&◌, sym, ◌∙◌}
use Rattle.std.proofs.lemmas.Bool.Decides.{nat_tests}
use Rattle.std.proofs.lemmas.Bool.{cases_order, cases_Bool}
use Rattle.vt_key.specs.promise.Keys.{Key}
use Rattle.vt_key.specs.declared.order.Stamp.{Stamp}
use Rattle.vt_key.specs.declared.order.Rank.{Rank}
use Rattle.vt_key.specs.promise.Order.{KeyBefore, key_before, key_same, stamp_before, stamp_same, rank_before, rank_same}
use Rattle.vt_key.specs.inside.Order.{StampBefore, RankBefore, IsStrictTotal}

-- ---- keys

pub key-irreflexive : (a : Key) → KeyBefore a a → ⊥
key-irreflexive a h = grind arith

pub key-transitive : (a b c : Key) → KeyBefore a b → KeyBefore b c → KeyBefore a c
key-transitive a b c h k = grind arith

pub key-asymmetric : (a b : Key) → KeyBefore a b → KeyBefore b a → ⊥
key-asymmetric a b h k = grind arith

-- of two numbers one is less, or they are one
pub numbers-apart : (a b : ℕ) → (a < b) ⊎ ((a ≡ b) ⊎ (b < a))
numbers-apart a b = elim (cases_order a b) [ inl e ↦ inr (inl e) | inr h ↦ elim h [ inl l ↦ inl l | inr l ↦ inr (inr l) ] ]

-- by a first part, and where that is one by a second, one comes before, or both parts are one
parts-apart : {X L M P Q E : Type 0} {x y : X} → L ⊎ ((x ≡ y) ⊎ M) → P ⊎ (E ⊎ Q) → (L ⊎ ((x ≡ y) × P)) ⊎ (((x ≡ y) × E) ⊎ (M ⊎ ((y ≡ x) × Q)))
parts-apart first second = elim first [
  | inl l ↦ inl (inl l)
  | inr h ↦ elim h [
    | inr m ↦ inr (inr (inl m))
    | inl e ↦ elim second [ inl p ↦ inl (inr (e, p)) | inr k ↦ elim k [ inl f ↦ inr (inl (e, f)) | inr q ↦ inr (inr (inr (sym e, q))) ] ]
  ]
]

-- what is one by its parts is one
one-by : {L M E F : Type 0} → (E → F) → L ⊎ (E ⊎ M) → L ⊎ (F ⊎ M)
one-by f order = elim order [ inl l ↦ inl l | inr h ↦ elim h [ inl e ↦ inr (inl (f e)) | inr m ↦ inr (inr m) ] ]

same_fields : (a b : Key) → a.time ≡ b.time → a.source ≡ b.source → a.number ≡ b.number → a ≡ b
same_fields a b e f g = λ i. record { time = e i; source = f i; number = g i }

pub key-total : (a b : Key) → KeyBefore a b ⊎ ((a ≡ b) ⊎ KeyBefore b a)
key-total a b =
    one-by (λ e. same_fields a b e.0 e.1.0 e.1.1) (parts-apart (numbers-apart a.time b.time) (parts-apart (numbers-apart a.source b.source) (numbers-apart a.number b.number)))

pub key_before-true : (a b : Key) → key_before a b ≡ true → KeyBefore a b
unfolding key_before
key_before-true a b h = grind (arith, nat_tests)

pub before-key_before : (a b : Key) → KeyBefore a b → key_before a b ≡ true
unfolding key_before
before-key_before a b h = grind (arith, nat_tests)

pub key_same-true : (a b : Key) → key_same a b ≡ true → a ≡ b
unfolding key_same
key_same-true a b h =
    let e : a.time ≡ b.time = grind (arith, nat_tests) in
    let f : a.source ≡ b.source = grind (arith, nat_tests) in
    let g : a.number ≡ b.number = grind (arith, nat_tests) in
    same_fields a b e f g

pub same-key_same : (a : Key) → key_same a a ≡ true
unfolding key_same
same-key_same a = grind (arith, nat_tests)

-- ---- stamps

pub stamp-irreflexive : (a : Stamp) → StampBefore a a → ⊥
stamp-irreflexive a h = grind arith

pub stamp-transitive : (a b c : Stamp) → StampBefore a b → StampBefore b c → StampBefore a c
stamp-transitive a b c h k = grind arith

pub stamp-total : (a b : Stamp) → StampBefore a b ⊎ ((a ≡ b) ⊎ StampBefore b a)
stamp-total a b =
    one-by (λ e. (let w = e.0 in let s = e.1 in λ i. record { worker = w i; serial = s i })) (parts-apart (numbers-apart a.worker b.worker) (numbers-apart a.serial b.serial))

pub stamp_before-true : (a b : Stamp) → stamp_before a b ≡ true → StampBefore a b
unfolding stamp_before
stamp_before-true a b h = grind (arith, nat_tests)

pub before-stamp_before : (a b : Stamp) → StampBefore a b → stamp_before a b ≡ true
unfolding stamp_before
before-stamp_before a b h = grind (arith, nat_tests)

pub stamp_same-true : (a b : Stamp) → stamp_same a b ≡ true → a ≡ b
unfolding stamp_same
stamp_same-true a b h =
    let e : a.worker ≡ b.worker = grind (arith, nat_tests) in
    let f : a.serial ≡ b.serial = grind (arith, nat_tests) in
    λ i. record { worker = e i; serial = f i }

pub same-stamp_same : (a : Stamp) → stamp_same a a ≡ true
unfolding stamp_same
same-stamp_same a = grind (arith, nat_tests)

-- ---- ranks

pub rank-irreflexive : (a : Rank) → RankBefore a a → ⊥
rank-irreflexive a h = grind arith

pub rank-transitive : (a b c : Rank) → RankBefore a b → RankBefore b c → RankBefore a c
rank-transitive a b c h k = elim h [
  | inl l ↦ elim k [ inl m ↦ inl (key-transitive a.key b.key c.key l m) | inr m ↦ inl (rw (sym m.0) l) ]
  | inr l ↦ elim k [ inl m ↦ inl (rw l.0 m) | inr m ↦ inr (l.0 ∙ m.0, stamp-transitive a.stamp b.stamp c.stamp l.1 m.1) ]
]

pub rank-total : (a b : Rank) → RankBefore a b ⊎ ((a ≡ b) ⊎ RankBefore b a)
rank-total a b =
    one-by (λ e. (let k = e.0 in let s = e.1 in λ i. record { key = k i; stamp = s i })) (parts-apart (key-total a.key b.key) (stamp-total a.stamp b.stamp))

pub rank_before-true : (a b : Rank) → rank_before a b ≡ true → RankBefore a b
unfolding rank_before key_before key_same stamp_before
rank_before-true a b h = elim (cases_Bool (key_before a.key b.key)) [
  | inl y ↦ inl (key_before-true a.key b.key y)
  | inr y ↦
      let rest : (key_same a.key b.key && stamp_before a.stamp b.stamp) ≡ true = sym (ap (λ (t : Bool). t || (key_same a.key b.key && stamp_before a.stamp b.stamp)) y) ∙ h in
      elim (cases_Bool (key_same a.key b.key)) [
        | inl z ↦ inr (key_same-true a.key b.key z, stamp_before-true a.stamp b.stamp (sym (ap (λ (t : Bool). t && stamp_before a.stamp b.stamp) z) ∙ rest))
        | inr z ↦ absurd (let w : false ≡ true = sym (ap (λ (t : Bool). t && stamp_before a.stamp b.stamp) z) ∙ rest in cc)
      ]
]

pub before-rank_before : (a b : Rank) → RankBefore a b → rank_before a b ≡ true
unfolding rank_before
before-rank_before a b (inl h) = ap (λ (t : Bool). t || (key_same a.key b.key && stamp_before a.stamp b.stamp)) (before-key_before a.key b.key h)
before-rank_before a b (inr h) = elim (cases_Bool (key_before a.key b.key)) [
  | inl y ↦ ap (λ (t : Bool). t || (key_same a.key b.key && stamp_before a.stamp b.stamp)) y
  | inr y ↦
      let same : key_same a.key b.key ≡ true = subst (λ (k : Key). key_same a.key k ≡ true) h.0 (same-key_same a.key) in
      ap (λ (t : Bool). t || (key_same a.key b.key && stamp_before a.stamp b.stamp)) y ∙ ap (λ (t : Bool). t && stamp_before a.stamp b.stamp) same ∙ before-stamp_before a.stamp b.stamp h.1
]

pub rank_same-true : (a b : Rank) → rank_same a b ≡ true → a ≡ b
unfolding rank_same
rank_same-true a b h =
    let k : key_same a.key b.key ≡ true = grind (arith, h) in
    let s : stamp_same a.stamp b.stamp ≡ true = grind (arith, h) in
    let e : a.key ≡ b.key = key_same-true a.key b.key k in
    let f : a.stamp ≡ b.stamp = stamp_same-true a.stamp b.stamp s in
    λ i. record { key = e i; stamp = f i }

pub same-rank_same : (a : Rank) → rank_same a a ≡ true
unfolding rank_same
same-rank_same a = ap (λ (t : Bool). t && stamp_same a.stamp a.stamp) (same-key_same a.key) ∙ same-stamp_same a.stamp

-- ---- the three laws

pub keys : IsStrictTotal KeyBefore
keys = record { irreflexive = key-irreflexive; transitive = key-transitive; total = key-total }

pub stamps : IsStrictTotal StampBefore
stamps = record { irreflexive = stamp-irreflexive; transitive = stamp-transitive; total = stamp-total }

pub ranks : IsStrictTotal RankBefore
ranks = record { irreflexive = rank-irreflexive; transitive = rank-transitive; total = rank-total }
