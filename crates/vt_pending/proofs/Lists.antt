-- Lists in the order of their first letters: what list is where, one is taken out, and one is put where it belongs.
use Rattle.std.proofs.Common.{Bool, true, false, not, if◌then◌else◌, ◌≡◌, ◌↔◌, refl, sym, ap, ◌∙◌, subst, arith}
use Rattle.std.specs.Prelude.{ℕ, nat_eq, List, [], ◌∷◌, length, filter, slice_get}
use Rattle.std.proofs.lemmas.Bool.{eqb-true, eq-eqb, not-true}
use Rattle.vt_key.specs.promise.Order.{rank_before}
use Rattle.vt_key.specs.promise.Queues.{letter_rank, has_rank, insert_letter}
use Rattle.vt_key.specs.inside.Queues.{holds_rank, AllAfter, IsRising}
use Rattle.vt_key.specs.declared.order.Rank.{Rank}
use Rattle.vt_key.specs.declared.letter.Letter.{Letter}
use Rattle.vt_key.proofs.ListLemmas.{every-filter, rising-filter}
use Rattle.vt_key.proofs.OrderLemmas.{rank_before-true, before-rank_before}
use Rattle.vt_pending.specs.inside.Buckets.{bucket_of, in_bucket, not_in_bucket, some_in_bucket, list_at, without_list, insert_in, put_list, put_some, merged, letters_of, AreLists}
use Rattle.vt_pending.proofs.Placing.{not-back, follows}
use Rattle.vt_key.proofs.RisingLemmas.{first-false, second-false}
use Rattle.vt_pending.proofs.Holding.{holds-filter}
use Rattle.vt_pending.proofs.Filters.{filter-swap, filter-within, filter-insert, filter-insert-other, insert-first}

-- equal numbers
pub same-number : (a b : ℕ) → nat_eq a b ≡ true → a ≡ b
same-number a b e = eqb-true a b e

pub number-same : (a : ℕ) → nat_eq a a ≡ true
number-same a = eq-eqb a a refl

-- a test that isn't so fails
not-so : (t : Bool) → (t ≡ true → ⊥) → not t ≡ true
not-so true wrong = absurd (wrong refl)
not-so false wrong = refl

module _ {P : Type 0} where
  -- the number of a letter's list
  abbrev pub own : Letter P → ℕ
  own letter = bucket_of (letter_rank letter)

  pub in-own : (x : Letter P) → in_bucket (own x) x ≡ true
  in-own x = number-same (own x)

  -- what is in one list isn't in another
  in-neither : (b : ℕ) (x : Letter P) → in_bucket b x ≡ false → (y : Letter P) → in_bucket b y ≡ true → in_bucket (own x) y ≡ true → ⊥
  in-neither b x other y here there =
      let at : own y ≡ own x = same-number (own y) (own x) there in
      let wrong : true ≡ false = sym (ap (λ n. nat_eq n b) (sym at) ∙ here) ∙ other in
      cc

  pub apart : (b : ℕ) (x : Letter P) → in_bucket b x ≡ false → (y : Letter P) → in_bucket b y ≡ true → not_in_bucket (own x) y ≡ true
  apart b x other y here = not-so (in_bucket (own x) y) (in-neither b x other y here)

  apart-back : (b : ℕ) (x : Letter P) → in_bucket b x ≡ false → (y : Letter P) → in_bucket (own x) y ≡ true → not_in_bucket b y ≡ true
  apart-back b x other y there = not-so (in_bucket b y) (λ here. in-neither b x other y here there)

  -- ---- what is

  -- there is no list where there is no letter
  pub listed-empty : (lists : List (List (Letter P))) (letters : List (Letter P)) → AreLists lists letters → (lists ≡ []) ↔ (letters ≡ [])
  listed-empty [] [] listed = ((λ e. refl), (λ e. refl))
  listed-empty [] (x ∷ xs) listed = absurd listed
  listed-empty (list ∷ lists) [] listed = absurd listed
  listed-empty (list ∷ lists) (x ∷ xs) listed = ((λ e. absurd (omega (arith, ap length e))), (λ e. absurd (omega (arith, ap length e))))

  -- list b has the letters that belong there
  pub listed-list : (b : ℕ) (lists : List (List (Letter P))) (letters : List (Letter P)) → AreLists lists letters → list_at b lists ≡ filter (in_bucket b) letters
  listed-list b [] [] listed = refl
  listed-list b [] (x ∷ xs) listed = absurd listed
  listed-list b (list ∷ lists) [] listed = absurd listed
  listed-list b (list ∷ lists) (x ∷ xs) listed =
      ap (λ l. if some_in_bucket b (slice_get l 0) then l else list_at b lists) listed.0
      ∙ elim (in_bucket b x) as (λ c. in_bucket b x ≡ c → (if c then x ∷ filter (in_bucket (own x)) xs else list_at b lists) ≡ (if c then x ∷ filter (in_bucket b) xs else filter (in_bucket b) xs)) [
        | true ↦ λ e. ap (λ n. x ∷ filter (in_bucket n) xs) (same-number (own x) b e)
        | false ↦ λ e. listed-list b lists (filter (not_in_bucket (own x)) xs) listed.1 ∙ filter-within (in_bucket b) (not_in_bucket (own x)) (apart b x e) xs
      ] refl

  -- without list b there are the letters that belong elsewhere
  pub listed-without : (b : ℕ) (lists : List (List (Letter P))) (letters : List (Letter P)) → AreLists lists letters → AreLists (without_list b lists) (filter (not_in_bucket b) letters)
  listed-without b [] [] listed = tt
  listed-without b [] (x ∷ xs) listed = absurd listed
  listed-without b (list ∷ lists) [] listed = absurd listed
  listed-without b (list ∷ lists) (x ∷ xs) listed =
      subst (λ l. AreLists (if some_in_bucket b (slice_get l 0) then lists else l ∷ without_list b lists) (filter (not_in_bucket b) (x ∷ xs))) (sym listed.0)
      (elim (in_bucket b x) as (λ c. in_bucket b x ≡ c → AreLists (if c then lists else (x ∷ filter (in_bucket (own x)) xs) ∷ without_list b lists) (if not c then x ∷ filter (not_in_bucket b) xs else filter (not_in_bucket b) xs)) [
        | true ↦ λ e. subst (λ n. AreLists lists (filter (not_in_bucket n) xs)) (same-number (own x) b e) listed.1
        | false ↦ λ e. (
          ap (λ l. x ∷ l) (sym (filter-within (in_bucket (own x)) (not_in_bucket b) (apart-back b x e) xs)),
          subst (AreLists (without_list b lists)) (filter-swap (not_in_bucket b) (not_in_bucket (own x)) xs) (listed-without b lists (filter (not_in_bucket (own x)) xs) listed.1),
        )
      ] refl)

  -- ---- a list is put where it belongs

  -- behind the first list, where its first letter is before all of it
  put-behind : (x : Letter P) (xs list : List (Letter P)) (lists : List (List (Letter P))) → AllAfter (letter_rank x) list → put_some list ((x ∷ xs) ∷ lists) ≡ (x ∷ xs) ∷ put_some list lists
  put-behind x xs [] lists all = refl
  put-behind x xs (y ∷ ys) lists all =
      ap (λ b. if b then (x ∷ xs) ∷ put_list (y ∷ ys) lists else (y ∷ ys) ∷ (x ∷ xs) ∷ lists) (before-rank_before (letter_rank x) (letter_rank y) all.0)

  -- before all lists, where its first letter is before all of them
  put-before : (x : Letter P) (xs : List (Letter P)) (lists : List (List (Letter P))) (letters : List (Letter P)) → AreLists lists letters → AllAfter (letter_rank x) letters → put_list (x ∷ xs) lists ≡ (x ∷ xs) ∷ lists
  put-before x xs [] [] listed all = refl
  put-before x xs [] (y ∷ ys) listed all = absurd listed
  put-before x xs (list ∷ lists) [] listed all = absurd listed
  put-before x xs (list ∷ lists) (y ∷ ys) listed all =
      subst (λ l. put_list (x ∷ xs) (l ∷ lists) ≡ (x ∷ xs) ∷ l ∷ lists) (sym listed.0)
      (let rest : List (Letter P) = y ∷ filter (in_bucket (own y)) ys in
      ap (λ b. if b then rest ∷ put_list (x ∷ xs) lists else (x ∷ xs) ∷ rest ∷ lists) (not-back (letter_rank x) (letter_rank y) all.0))

  -- list b goes where it belongs among the others
  pub listed-put : (b : ℕ) (lists : List (List (Letter P))) (letters : List (Letter P)) → IsRising letters → AreLists lists (filter (not_in_bucket b) letters) → AreLists (put_some (filter (in_bucket b) letters) lists) letters
  listed-put b [] [] rises listed = tt
  listed-put b (list ∷ lists) [] rises listed = absurd listed
  listed-put b [] (x ∷ xs) rises listed =
      elim (in_bucket b x) as (λ c. in_bucket b x ≡ c → AreLists [] (if not c then x ∷ filter (not_in_bucket b) xs else filter (not_in_bucket b) xs)
      → AreLists (put_some (if c then x ∷ filter (in_bucket b) xs else filter (in_bucket b) xs) []) (x ∷ xs)) [
        | true ↦ λ e r. (
          ap (λ n. x ∷ filter (in_bucket n) xs) (sym (same-number (own x) b e)),
          subst (λ n. AreLists [] (filter (not_in_bucket n) xs)) (sym (same-number (own x) b e)) r,
        )
        | false ↦ λ e r. absurd r
      ] refl listed
  listed-put b (list ∷ lists) (x ∷ xs) rises listed =
      elim (in_bucket b x) as (λ c. in_bucket b x ≡ c → AreLists (list ∷ lists) (if not c then x ∷ filter (not_in_bucket b) xs else filter (not_in_bucket b) xs)
      → AreLists (put_some (if c then x ∷ filter (in_bucket b) xs else filter (in_bucket b) xs) (list ∷ lists)) (x ∷ xs)) [
        | true ↦ λ e r.
            let all : AllAfter (letter_rank x) (filter (not_in_bucket b) xs) = every-filter _ (not_in_bucket b) xs rises.0 in
            subst (λ ls. AreLists ls (x ∷ xs)) (sym (put-before x (filter (in_bucket b) xs) (list ∷ lists) (filter (not_in_bucket b) xs) r all)) (
              ap (λ n. x ∷ filter (in_bucket n) xs) (sym (same-number (own x) b e)),
              subst (λ n. AreLists (list ∷ lists) (filter (not_in_bucket n) xs)) (sym (same-number (own x) b e)) r,
            )
        | false ↦ λ e r.
            let ours : List (Letter P) = filter (in_bucket (own x)) (filter (not_in_bucket b) xs) in
            let others : List (Letter P) = filter (not_in_bucket (own x)) xs in
            let all : AllAfter (letter_rank x) (filter (in_bucket b) xs) = every-filter _ (in_bucket b) xs rises.0 in
            let put : put_some (filter (in_bucket b) xs) (list ∷ lists) ≡ (x ∷ ours) ∷ put_some (filter (in_bucket b) xs) lists =
            ap (λ l. put_some (filter (in_bucket b) xs) (l ∷ lists)) r.0 ∙ put-behind x ours (filter (in_bucket b) xs) lists all in
            let rest : AreLists lists (filter (not_in_bucket b) others) = subst (AreLists lists) (filter-swap (not_in_bucket (own x)) (not_in_bucket b) xs) r.1 in
            let more : AreLists (put_some (filter (in_bucket b) others) lists) others = listed-put b lists others (rising-filter _ (not_in_bucket (own x)) xs rises.1) rest in
            subst (λ ls. AreLists ls (x ∷ xs)) (sym put) (
              ap (λ l. x ∷ l) (filter-within (in_bucket (own x)) (not_in_bucket b) (apart-back b x e) xs),
              subst (λ l. AreLists (put_some l lists) others) (filter-within (in_bucket b) (not_in_bucket (own x)) (apart b x e) xs) more,
            )
      ] refl listed

  -- ---- a letter comes

  -- into the first list
  listed-into : (x y : Letter P) (ys : List (Letter P)) (lists : List (List (Letter P))) → in_bucket (own x) y ≡ true → IsRising (y ∷ ys) → AreLists lists (filter (not_in_bucket (own y)) ys)
      → AreLists (insert_letter x (y ∷ filter (in_bucket (own y)) ys) ∷ lists) (insert_letter x (y ∷ ys))
  listed-into x y ys lists e rises listed =
      let b : ℕ = own x in let mine : List (Letter P) = filter (in_bucket (own y)) ys in
      let same : own y ≡ b = same-number (own y) b e in
      let here : in_bucket (own y) x ≡ true = subst (λ n. in_bucket n x ≡ true) (sym same) (in-own x) in
      elim (rank_before (letter_rank x) (letter_rank y)) as (λ t. AreLists ((if t then x ∷ y ∷ mine else y ∷ insert_letter x mine) ∷ lists) (if t then x ∷ y ∷ ys else y ∷ insert_letter x ys)) [
        | true ↦ (
          ap (λ l. x ∷ l) (ap (λ n. y ∷ filter (in_bucket n) ys) same ∙ sym (ap (λ c. if c then y ∷ filter (in_bucket b) ys else filter (in_bucket b) ys) e)),
          subst (λ c. AreLists lists (if not c then y ∷ filter (not_in_bucket b) ys else filter (not_in_bucket b) ys)) (sym e) (subst (λ n. AreLists lists (filter (not_in_bucket n) ys)) same listed),
        )
        | false ↦ (
          ap (λ l. y ∷ l) (sym (filter-insert (in_bucket (own y)) x ys here rises.1)),
          subst (AreLists lists) (sym (filter-insert-other (not_in_bucket (own y)) x ys (ap not here))) listed,
        )
      ]

  -- into the lists
  pub listed-insert : (x : Letter P) (lists : List (List (Letter P))) (letters : List (Letter P)) → IsRising letters → holds_rank (letter_rank x) letters ≡ false → AreLists lists letters → AreLists (insert_in (own x) x lists) (insert_letter x letters)
  listed-insert x [] [] rises none listed = (refl, tt)
  listed-insert x [] (y ∷ ys) rises none listed = absurd listed
  listed-insert x (list ∷ lists) [] rises none listed = absurd listed
  listed-insert x (list ∷ lists) (y ∷ ys) rises none listed =
      let b : ℕ = own x in let r : Rank = letter_rank x in let s : Rank = letter_rank y in
      let mine : List (Letter P) = y ∷ filter (in_bucket (own y)) ys in let others : List (Letter P) = filter (not_in_bucket (own y)) ys in
      subst (λ l. AreLists (insert_in b x (l ∷ lists)) (insert_letter x (y ∷ ys))) (sym listed.0) (
      elim (in_bucket b y) as (λ c. in_bucket b y ≡ c → AreLists (if c then insert_letter x mine ∷ lists else if rank_before s r then mine ∷ insert_in b x lists else (x ∷ list_at b lists) ∷ mine ∷ without_list b lists) (insert_letter x (y ∷ ys))) [
        | true ↦ λ e. listed-into x y ys lists e rises listed.1
        | false ↦ λ e.
            elim (rank_before s r) as (λ t. rank_before s r ≡ t → AreLists (if t then mine ∷ insert_in b x lists else (x ∷ list_at b lists) ∷ mine ∷ without_list b lists) (insert_letter x (y ∷ ys))) [
              | true ↦ λ f.
                  let away : not_in_bucket (own y) x ≡ true = apart b y e x (in-own x) in
                  let put : insert_letter x (y ∷ ys) ≡ y ∷ insert_letter x ys = ap (λ t. if t then x ∷ y ∷ ys else y ∷ insert_letter x ys) (not-back s r (rank_before-true s r f)) in
                  let absent : holds_rank r others ≡ false = holds-filter r (not_in_bucket (own y)) ys (second-false (has_rank r y) (holds_rank r ys) none) in
                  subst (AreLists (mine ∷ insert_in b x lists)) (sym put) (
                    ap (λ l. y ∷ l) (sym (filter-insert-other (in_bucket (own y)) x ys (not-true (in_bucket (own y) x) away))),
                    subst (AreLists (insert_in b x lists)) (sym (filter-insert (not_in_bucket (own y)) x ys away rises.1)) (listed-insert x lists others (rising-filter _ (not_in_bucket (own y)) ys rises.1) absent listed.1),
                  )
              | false ↦ λ f.
                  let before : rank_before r s ≡ true = before-rank_before r s (follows s r f (first-false (has_rank r y) (holds_rank r ys) none)) in
                  let put : insert_letter x (y ∷ ys) ≡ x ∷ y ∷ ys = ap (λ t. if t then x ∷ y ∷ ys else y ∷ insert_letter x ys) before in
                  let ours : AreLists (mine ∷ lists) (y ∷ ys) = (refl, listed.1) in
                  subst (AreLists ((x ∷ list_at b lists) ∷ mine ∷ without_list b lists)) (sym put) (
                    ap (λ l. x ∷ l) (sym (ap (λ c. if c then mine else list_at b lists) e) ∙ listed-list b (mine ∷ lists) (y ∷ ys) ours),
                    subst (λ ls. AreLists ls (filter (not_in_bucket b) (y ∷ ys))) (ap (λ c. if c then lists else mine ∷ without_list b lists) e) (listed-without b (mine ∷ lists) (y ∷ ys) ours),
                  )
            ] refl
      ] refl)

  -- ---- the letters of the lists

  merged-first : (x : Letter P) (ys zs : List (Letter P)) → AllAfter (letter_rank x) ys → merged ys (x ∷ zs) ≡ x ∷ merged ys zs
  merged-first x [] zs all = refl
  merged-first x (y ∷ ys) zs all =
      ap (insert_letter y) (merged-first x ys zs all.1)
      ∙ ap (λ b. if b then y ∷ x ∷ merged ys zs else x ∷ insert_letter y (merged ys zs)) (not-back (letter_rank x) (letter_rank y) all.0)

  merged-parts : (b : ℕ) (xs : List (Letter P)) → IsRising xs → merged (filter (in_bucket b) xs) (filter (not_in_bucket b) xs) ≡ xs
  merged-parts b [] rises = refl
  merged-parts b (x ∷ xs) rises =
      let ours : List (Letter P) = filter (in_bucket b) xs in let others : List (Letter P) = filter (not_in_bucket b) xs in
      elim (in_bucket b x) as (λ c. merged (if c then x ∷ ours else ours) (if not c then x ∷ others else others) ≡ x ∷ xs) [
        | true ↦ ap (insert_letter x) (merged-parts b xs rises.1) ∙ insert-first x xs rises.0
        | false ↦ merged-first x ours others (every-filter _ (in_bucket b) xs rises.0) ∙ ap (λ l. x ∷ l) (merged-parts b xs rises.1)
      ]

  -- they are those that the lists were made of
  pub listed-letters : (lists : List (List (Letter P))) (letters : List (Letter P)) → IsRising letters → AreLists lists letters → letters_of lists ≡ letters
  listed-letters [] [] rises listed = refl
  listed-letters [] (x ∷ xs) rises listed = absurd listed
  listed-letters (list ∷ lists) [] rises listed = absurd listed
  listed-letters (list ∷ lists) (x ∷ xs) rises listed =
      let ours : List (Letter P) = filter (in_bucket (own x)) xs in let others : List (Letter P) = filter (not_in_bucket (own x)) xs in
      (λ i. merged (listed.0 i) (listed-letters lists others (rising-filter _ (not_in_bucket (own x)) xs rises.1) listed.1 i))
      ∙ ap (insert_letter x) (merged-parts (own x) xs rises.1) ∙ insert-first x xs rises.0
