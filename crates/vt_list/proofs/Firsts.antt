-- Items found by a test or by an index, and where an item goes by its rank.
use Rattle.std.proofs.Common.{Bool, true, false, if◌then◌else◌, ◌≡◌, refl, sym, ap, ◌∙◌}
use Rattle.std.specs.Prelude.{ℕ, zero, suc, List, [], ◌∷◌, ◌++◌, take, drop, Option, Some, None, MatchOption, find, remove, slice_get}
use Rattle.std.specs.Option.{option_map}
use Rattle.vt_key.specs.promise.Order.{rank_before}
use Rattle.vt_key.specs.promise.Queues.{without_first, insert_ordered}
use Rattle.vt_key.specs.declared.order.Rank.{Rank}
use Rattle.vt_nodes.specs.inside.First.{before_first, from_first}

-- what taking the first item off a list tells, if the item that came is `o` seen by f, and the others are `rest`
abbrev pub TakesOff : {X Y : Type 0} → (Y → X) → List X → Option Y → List X → Type 0
TakesOff f all o rest = MatchOption o ((all ≡ []) × (rest ≡ [])) (λ n. all ≡ f n ∷ rest)

-- in equations
pub taken : {X Y : Type 0} (f : Y → X) (all rest : List X) (o : Option Y) → TakesOff f all o rest → (option_map f o ≡ slice_get all 0) × (rest ≡ drop 1 all)
taken f all rest None told = (sym (ap (λ xs. slice_get xs 0) told.0), told.1 ∙ sym (ap (drop 1) told.0))
taken f all rest (Some n) told = (sym (ap (λ xs. slice_get xs 0) told), sym (ap (drop 1) told))

module _ {X : Type 0} where
  -- ---- by a test

  module _ (test : X → Bool) where
    -- the first item from the first that passes on
    pub find-from : (xs : List X) → find test xs ≡ slice_get (from_first test xs) 0
    find-from [] = refl
    find-from (x ∷ xs) =
        elim (test x) as (λ b. (if b then Some x else find test xs) ≡ slice_get (if b then x ∷ xs else from_first test xs) 0) [ true ↦ refl | false ↦ find-from xs ]

    without-from : (xs : List X) → without_first test xs ≡ before_first test xs ++ drop 1 (from_first test xs)
    without-from [] = refl
    without-from (x ∷ xs) =
        elim (test x) as (λ b. (if b then xs else x ∷ without_first test xs) ≡ (if b then [] else x ∷ before_first test xs) ++ drop 1 (if b then x ∷ xs else from_first test xs)) [
          | true ↦ refl
          | false ↦ ap (λ l. x ∷ l) (without-from xs)
        ]

    -- what was parted before the first that passes, and taken off there
    pub taken-first : {Y : Type 0} (f : Y → X) (all before from rest : List X) (o : Option Y) → before ≡ before_first test all → from ≡ from_first test all → TakesOff f from o rest
        → (option_map f o ≡ find test all) × (before ++ rest ≡ without_first test all)
    taken-first f all before from rest o before_is from_is told =
        let off = taken f from rest o told in
        (off.0 ∙ ap (λ xs. slice_get xs 0) from_is ∙ sym (find-from all), (λ i. before_is i ++ (off.1 ∙ ap (drop 1) from_is) i) ∙ sym (without-from all))

  -- ---- by a rank

  module _ (rank_of : X → Rank) (x : X) where
    abbrev ranked_after : Rank → X → Bool
    ranked_after rank y = rank_before rank (rank_of y)

    abbrev by_rank : X → X → Bool
    by_rank a b = rank_before (rank_of a) (rank_of b)

    between : (ys : List X) → (before_first (ranked_after (rank_of x)) ys ++ x ∷ []) ++ from_first (ranked_after (rank_of x)) ys ≡ insert_ordered by_rank x ys
    between [] = refl
    between (y ∷ ys) = let later : X → Bool = ranked_after (rank_of x) in
        elim (later y) as (λ b. ((if b then [] else y ∷ before_first later ys) ++ x ∷ []) ++ (if b then y ∷ ys else from_first later ys) ≡ (if b then x ∷ y ∷ ys else y ∷ insert_ordered by_rank x ys)) [
          | true ↦ refl
          | false ↦ ap (λ l. y ∷ l) (between ys)
        ]

    -- between those before the first of greater rank and the others
    pub insert-between : (rank : Rank) (ys : List X) → rank ≡ rank_of x → (before_first (ranked_after rank) ys ++ x ∷ []) ++ from_first (ranked_after rank) ys ≡ insert_ordered by_rank x ys
    insert-between rank ys e = ap (λ r. (before_first (ranked_after r) ys ++ x ∷ []) ++ from_first (ranked_after r) ys) e ∙ between ys

  -- ---- by an index

  get-from : (index : ℕ) (xs : List X) → slice_get xs index ≡ slice_get (drop index xs) 0
  get-from zero xs = refl
  get-from (suc index) [] = refl
  get-from (suc index) (x ∷ xs) = get-from index xs

  drop-next : (index : ℕ) (xs : List X) → drop (suc index) xs ≡ drop 1 (drop index xs)
  drop-next zero xs = refl
  drop-next (suc index) [] = refl
  drop-next (suc index) (x ∷ xs) = drop-next index xs

  remove-from : (index : ℕ) (xs : List X) → remove xs index ≡ take index xs ++ drop 1 (drop index xs)
  remove-from index xs = ap (λ l. take index xs ++ l) (drop-next index xs)

  -- what was parted at an index, and taken off there
  pub taken-at : {Y : Type 0} (f : Y → X) (index : ℕ) (all before from rest : List X) (o : Option Y) → before ≡ take index all → from ≡ drop index all → TakesOff f from o rest
      → (option_map f o ≡ slice_get all index) × (before ++ rest ≡ remove all index)
  taken-at f index all before from rest o before_is from_is told =
      let off = taken f from rest o told in
      (off.0 ∙ ap (λ xs. slice_get xs 0) from_is ∙ sym (get-from index all), (λ i. before_is i ++ (off.1 ∙ ap (drop 1) from_is) i) ∙ sym (remove-from index all))
