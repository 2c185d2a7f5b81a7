-- The process with the least rank, by a walk over all of a worker.
use Rattle.std.proofs.Common.{◌≡◌, ◌⊎◌, ◌∙◌, inl, inr, ℕ, zero, suc, ◌+◌, ◌-◌, ◌*◌, ◌/◌, ◌%◌, ◌<◌, ◌≤◌, true, false, List, [], ◌∷◌, ◌++◌, map, length, refl, sym, ap, subst, arith, Option, Some, None, slice_get}
use Rattle.std.proofs.Math.Nat.{le-div_iff_mul-le, suc-mul}
use Rattle.std.proofs.lemmas.Nat.{mod-mul-add, div-mul-add}
use Rattle.vt_key.specs.declared.order.Rank.{Rank}
use Rattle.vt_key.specs.promise.Order.{rank_before}
use Rattle.vt_key.specs.inside.Order.{RankBefore}
use Rattle.vt_key.proofs.OrderLemmas.{before-rank_before, rank-irreflexive, rank-total, rank-transitive, rank_before-true}
use Rattle.vt_kernel.specs.inside.Choosing.{IsLeast, is_earlier, ready_of}
use Rattle.vt_kernel.specs.inside.Held.{HeldWorker}

-- ---- lists with one item more

module _ {X : Type 0} where
  pub get-last : (xs : List X) (y : X) → slice_get (xs ++ y ∷ []) (length xs) ≡ Some y
  get-last [] y = refl
  get-last (x ∷ xs) y = get-last xs y

  get-left : (xs : List X) (y : X) (i : ℕ) (x : X) → slice_get xs i ≡ Some x → slice_get (xs ++ y ∷ []) i ≡ Some x
  get-left [] y i x at = absurd (let h : None ≡ Some x = at in cc)
  get-left (z ∷ zs) y zero x at = at
  get-left (z ∷ zs) y (suc i) x at = get-left zs y i x at

  -- what is there was there before, or is the new one
  get-more : (xs : List X) (y : X) (i : ℕ) (x : X) → slice_get (xs ++ y ∷ []) i ≡ Some x → (slice_get xs i ≡ Some x) ⊎ ((i ≡ length xs) × (y ≡ x))
  get-more [] y zero x at = inr (refl, (let h : Some y ≡ Some x = at in cc))
  get-more [] y (suc i) x at = absurd (let h : None ≡ Some x = at in cc)
  get-more (z ∷ zs) y zero x at = inl at
  get-more (z ∷ zs) y (suc i) x at = elim (get-more zs y i x at) [
    | inl there ↦ inl there
    | inr new ↦ inr (ap suc new.0, new.1)
  ]

  get-below : (xs : List X) (i : ℕ) (x : X) → slice_get xs i ≡ Some x → i < length xs
  get-below [] i x at = absurd (let h : None ≡ Some x = at in cc)
  get-below (z ∷ zs) zero x at = omega arith
  get-below (z ∷ zs) (suc i) x at = (let more = get-below zs i x at in omega (arith, more))

-- ---- the least so far

-- none of these ranks is there, or the one at this index is the least
abbrev pub IsLeastSoFar : List (Option Rank) → Option Rank → ℕ → Type 0
IsLeastSoFar ranks None index = (i : ℕ) (rank : Rank) → slice_get ranks i ≡ Some (Some rank) → ⊥
IsLeastSoFar ranks (Some rank) index = (is : IsLeast ranks index) × (is.rank ≡ rank)

-- what isn't before a rank is after all that is before it
after-all : (a r other : Rank) → RankBefore a r → (RankBefore other r → ⊥) → RankBefore a other
after-all a r other before never = elim (rank-total a other) [
  | inl is ↦ is
  | inr more ↦ elim more [
    | inl same ↦ absurd (never (subst (λ (x : Rank). RankBefore x r) same before))
    | inr after ↦ absurd (never (rank-transitive other a r after before))
  ]
]

module _ (ranks : List (Option Rank)) where
  -- a rank that comes first is the least
  first-one : (a : Rank) → ((i : ℕ) (rank : Rank) → slice_get ranks i ≡ Some (Some rank) → ⊥) → IsLeast (ranks ++ Some a ∷ []) (length ranks)
  first-one a none = record {
    rank = a;
    there = get-last ranks (Some a);
    least = λ i other at before. elim (get-more ranks (Some a) i (Some other) at) [
      | inl there ↦ none i other there
      | inr new ↦ rank-irreflexive a (let same : a ≡ other = (let h : Some a ≡ Some other = new.1 in cc) in subst (λ (x : Rank). RankBefore x a) (sym same) before)
    ];
    first = λ i other below at. elim (get-more ranks (Some a) i (Some other) at) [
      | inl there ↦ absurd (none i other there)
      | inr new ↦ absurd (let same = new.0 in omega (arith, same, below))
    ];
  }

  -- one before the least is the least
  one-before : (a : Rank) (index : ℕ) (is : IsLeast ranks index) → RankBefore a is.rank → IsLeast (ranks ++ Some a ∷ []) (length ranks)
  one-before a index is earlier = record {
    rank = a;
    there = get-last ranks (Some a);
    least = λ i other at before. elim (get-more ranks (Some a) i (Some other) at) [
      | inl there ↦ is.least i other there (rank-transitive other a is.rank before earlier)
      | inr new ↦ rank-irreflexive a (let same : a ≡ other = (let h : Some a ≡ Some other = new.1 in cc) in subst (λ (x : Rank). RankBefore x a) (sym same) before)
    ];
    first = λ i other below at. elim (get-more ranks (Some a) i (Some other) at) [
      | inl there ↦ after-all a is.rank other earlier (is.least i other there)
      | inr new ↦ absurd (let same = new.0 in omega (arith, same, below))
    ];
  }

  -- one that isn't leaves it so
  one-behind : (o : Option Rank) (index : ℕ) (is : IsLeast ranks index) → ((a : Rank) → o ≡ Some a → RankBefore a is.rank → ⊥) → (IsLeast (ranks ++ o ∷ []) index)
  one-behind o index is never = record {
    rank = is.rank;
    there = get-left ranks o index (Some is.rank) is.there;
    least = λ i other at before. elim (get-more ranks o i (Some other) at) [
      | inl there ↦ is.least i other there before
      | inr new ↦ never other new.1 before
    ];
    first = λ i other below at. elim (get-more ranks o i (Some other) at) [
      | inl there ↦ is.first i other below there
      | inr new ↦ absurd (let same = new.0 in let within = get-below ranks index (Some is.rank) is.there in omega (arith, same, below, within))
    ];
  }

  pub taken : (o least : Option Rank) (index : ℕ) → IsLeastSoFar ranks least index → is_earlier o least ≡ true → IsLeastSoFar (ranks ++ o ∷ []) o (length ranks)
  unfolding first-one one-before
  taken None least index so earlier = absurd (let h : false ≡ true = earlier in cc)
  taken (Some a) None index so earlier = (first-one a so, refl)
  taken (Some a) (Some r) index so earlier =
      (one-before a index so.0 (subst (λ (x : Rank). RankBefore a x) (sym so.1) (rank_before-true a r earlier)), refl)

  pub left : (o least : Option Rank) (index : ℕ) → IsLeastSoFar ranks least index → is_earlier o least ≡ false → IsLeastSoFar (ranks ++ o ∷ []) least index
  unfolding one-behind
  left None None index so later = λ i rank at. elim (get-more ranks None i (Some rank) at) [
    | inl there ↦ so i rank there
    | inr new ↦ (let h : None ≡ Some rank = new.1 in cc)
  ]
  left (Some a) None index so later = absurd (let h : true ≡ false = later in cc)
  left None (Some r) index so later = (one-behind None index so.0 (λ a is. absurd (let h : None ≡ Some a = is in cc)), so.1)
  left (Some a) (Some r) index so later = (
    one-behind (Some a) index so.0 (λ b is before.
        (let same : a ≡ b = (let h : Some a ≡ Some b = is in cc) in
        let earlier : rank_before a r ≡ true = before-rank_before a r (subst (λ (x : Rank). RankBefore a x) so.1 (subst (λ (x : Rank). RankBefore x so.0.rank) (sym same) before)) in
        let h : false ≡ true = sym later ∙ earlier in cc)),
    so.1,
  )

-- ---- the process at an index

-- it is one of the run
pub process-known : (lps workers w index : ℕ) → w < workers → index < (lps + (workers - 1) - w) / workers → index * workers + w < lps
process-known lps workers w index known less =
    let fits : suc index * workers ≤ lps + (workers - 1) - w = (le-div_iff_mul-le {k = workers} {x = suc index} {y = lps + (workers - 1) - w} (omega arith)).0 less in
    let more : suc index * workers ≡ index * workers + workers = suc-mul index workers in
    omega arith

mapped-below : {X Y : Type 0} (f : X → Y) (xs : List X) (i : ℕ) (y : Y) → slice_get (map f xs) i ≡ Some y → i < length xs
mapped-below f [] i y at = absurd (let h : None ≡ Some y = at in cc)
mapped-below f (x ∷ xs) zero y at = omega arith
mapped-below f (x ∷ xs) (suc i) y at = (let more = mapped-below f xs i y at in omega (arith, more))

module _ {S P K : Type 0} where
  -- what is said of the process that is next
  abbrev pub NextIs : HeldWorker S P K → ℕ → Type 0
  NextIs held p = (p < held.config.lps) × (p % held.config.workers ≡ held.worker) × IsLeast (map ready_of held.processes) (p / held.config.workers)

  pub next-is : (held : HeldWorker S P K) (index : ℕ) → held.worker < held.config.workers → length held.processes ≡ (held.config.lps + (held.config.workers - 1) - held.worker) / held.config.workers
      → IsLeast (map ready_of held.processes) index → NextIs held (index * held.config.workers + held.worker)
  next-is held index known all is = (
    process-known held.config.lps held.config.workers held.worker index known (subst (λ n. index < n) all (mapped-below ready_of held.processes index (Some is.rank) is.there)),
    mod-mul-add index held.config.workers held.worker known,
    subst (λ k. IsLeast (map ready_of held.processes) k) (sym (div-mul-add index held.config.workers held.worker known)) is,
  )
