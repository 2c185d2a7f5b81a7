-- A letter is put into the lists where a walk along them ends.
use Rattle.std.proofs.Common.{Bool, true, false, not, ◌||◌, if◌then◌else◌, ◌≡◌, refl, sym, ap, ◌∙◌, subst}
use Rattle.std.specs.Prelude.{ℕ, List, [], ◌∷◌, ◌++◌, filter, find, slice_get, Option, Some, None}
use Rattle.std.specs.Option.{unwrap_or}
use Rattle.vt_key.specs.promise.Order.{rank_before}
use Rattle.vt_key.specs.promise.Queues.{letter_rank, insert_letter}
use Rattle.vt_key.specs.inside.Queues.{holds_rank, IsRising}
use Rattle.vt_key.specs.declared.order.Rank.{Rank}
use Rattle.vt_key.specs.declared.letter.Letter.{Letter}
use Rattle.vt_key.proofs.ListLemmas.{every-filter, rising-filter}
use Rattle.vt_key.proofs.OrderLemmas.{rank_before-true, before-rank_before}
use Rattle.vt_nodes.specs.inside.First.{before_first, from_first}
use Rattle.vt_nodes.specs.inside.Lines.{begins_with}
use Rattle.vt_pending.specs.inside.Letters.{some_has_rank, is_reached}
use Rattle.vt_pending.specs.inside.Buckets.{bucket_of, in_bucket, not_in_bucket, list_at, without_list, own_or_not_before, first_holds, insert_here, insert_in, put_list, AreLists}
use Rattle.vt_pending.proofs.Placing.{not-back, follows}
use Rattle.vt_pending.proofs.Holding.{before-differs, none-holds, holds-first}
use Rattle.vt_pending.proofs.Filters.{filter-within}
use Rattle.vt_pending.proofs.Lists.{own, apart, same-number}
use Rattle.vt_pending.proofs.Kept.{holds-own}

module _ {P : Type 0} where
  -- a letter between those before its rank and the others, of which the first has another rank
  pub insert-reached : (x : Letter P) (ls : List (Letter P)) → some_has_rank (letter_rank x) (slice_get (from_first (is_reached (letter_rank x)) ls) 0) ≡ false
      → before_first (is_reached (letter_rank x)) ls ++ (x ∷ from_first (is_reached (letter_rank x)) ls) ≡ insert_letter x ls
  insert-reached x [] other = refl
  insert-reached x (y ∷ ys) other =
      let r : Rank = letter_rank x in let s : Rank = letter_rank y in
      let before : List (Letter P) = before_first (is_reached r) ys in let from : List (Letter P) = from_first (is_reached r) ys in
      elim (rank_before s r) as (λ t. rank_before s r ≡ t → some_has_rank r (slice_get (if not t then y ∷ ys else from) 0) ≡ false
      → (if not t then [] else y ∷ before) ++ (x ∷ (if not t then y ∷ ys else from)) ≡ (if rank_before r s then x ∷ y ∷ ys else y ∷ insert_letter x ys)) [
        | true ↦ λ e f. ap (λ l. y ∷ l) (insert-reached x ys f) ∙ sym (ap (λ t. if t then x ∷ y ∷ ys else y ∷ insert_letter x ys) (not-back s r (rank_before-true s r e)))
        | false ↦ λ e f. sym (ap (λ t. if t then x ∷ y ∷ ys else y ∷ insert_letter x ys) (before-rank_before r s (follows s r e f)))
      ] refl other

  -- a list between those whose first letters are before its first one and the others
  pub between-lists : (x : Letter P) (list : List (Letter P)) (lists : List (List (Letter P))) → slice_get list 0 ≡ Some x
      → before_first (begins_with (is_reached (letter_rank x))) lists ++ (list ∷ from_first (begins_with (is_reached (letter_rank x))) lists) ≡ put_list list lists
  between-lists x [] lists is = absurd (let h : None ≡ Some x = is in cc)
  between-lists x (z ∷ zs) [] is = refl
  between-lists x (z ∷ zs) ([] ∷ lists) is = refl
  between-lists x (z ∷ zs) ((y ∷ ys) ∷ lists) is =
      let test : List (Letter P) → Bool = begins_with (is_reached (letter_rank x)) in
      let rank_or : Option (Letter P) → Rank = λ o. letter_rank (unwrap_or o z) in
      elim (rank_before (letter_rank y) (letter_rank x)) as (λ t. (if not t then [] else (y ∷ ys) ∷ before_first test lists) ++ ((z ∷ zs) ∷ (if not t then (y ∷ ys) ∷ lists else from_first test lists))
      ≡ (if t then (y ∷ ys) ∷ put_list (z ∷ zs) lists else (z ∷ zs) ∷ (y ∷ ys) ∷ lists)) [
        | true ↦ ap (λ l. (y ∷ ys) ∷ l) (between-lists x (z ∷ zs) lists is)
        | false ↦ refl
      ]
      ∙ ap (λ (o : Option (Letter P)). if rank_before (letter_rank y) (rank_or o) then (y ∷ ys) ∷ put_list (z ∷ zs) lists else (z ∷ zs) ∷ (y ∷ ys) ∷ lists) (sym is)

  -- a letter in the lists from where it belongs on
  pub insert-parted : (x : Letter P) (lists : List (List (Letter P)))
      → before_first (begins_with (own_or_not_before (letter_rank x))) lists ++ insert_here (own x) x (from_first (begins_with (own_or_not_before (letter_rank x))) lists) ≡ insert_in (own x) x lists
  insert-parted x [] = refl
  insert-parted x ([] ∷ lists) = refl
  insert-parted x ((y ∷ ys) ∷ lists) =
      let b : ℕ = own x in let list : List (Letter P) = y ∷ ys in
      let test : List (Letter P) → Bool = begins_with (own_or_not_before (letter_rank x)) in
      let before : List (List (Letter P)) = before_first test lists in let from : List (List (Letter P)) = from_first test lists in
      let into : List (List (Letter P)) = insert_letter x list ∷ lists in let apart_from : List (List (Letter P)) = (x ∷ list_at b lists) ∷ list ∷ without_list b lists in
      let t : Bool = rank_before (letter_rank y) (letter_rank x) in
      elim (in_bucket b y) as (λ c. in_bucket b y ≡ c → (if c || not t then [] else list ∷ before) ++ insert_here b x (if c || not t then list ∷ lists else from)
      ≡ (if c then into else if t then list ∷ insert_in b x lists else apart_from)) [
        | true ↦ λ e. ap (λ c. if c then into else apart_from) e
        | false ↦ λ e.
            elim t as (λ u. (if not u then [] else list ∷ before) ++ insert_here b x (if not u then list ∷ lists else from) ≡ (if u then list ∷ insert_in b x lists else apart_from)) [
              | true ↦ ap (λ l. list ∷ l) (insert-parted x lists)
              | false ↦ ap (λ c. if c then into else apart_from) e
            ]
      ] refl

  module _ (r : Rank) where
    -- list b isn't passed
    pub list-ahead : (lists : List (List (Letter P))) → list_at (bucket_of r) (from_first (begins_with (own_or_not_before r)) lists) ≡ list_at (bucket_of r) lists
    list-ahead [] = refl
    list-ahead ([] ∷ lists) = refl
    list-ahead ((y ∷ ys) ∷ lists) =
        let b : ℕ = bucket_of r in let list : List (Letter P) = y ∷ ys in let t : Bool = rank_before (letter_rank y) r in
        let from : List (List (Letter P)) = from_first (begins_with (own_or_not_before r)) lists in
        elim (in_bucket b y) as (λ c. in_bucket b y ≡ c → list_at b (if c || not t then list ∷ lists else from) ≡ (if c then list else list_at b lists)) [
          | true ↦ λ e. ap (λ c. if c then list else list_at b lists) e
          | false ↦ λ e.
              elim t as (λ u. list_at b (if not u then list ∷ lists else from) ≡ list_at b lists) [
                | true ↦ list-ahead lists
                | false ↦ ap (λ c. if c then list else list_at b lists) e
              ]
        ] refl

    -- a letter of the rank is in the first list ahead, or there is none
    pub held-ahead : (lists : List (List (Letter P))) (letters : List (Letter P)) → IsRising letters → AreLists lists letters → first_holds (bucket_of r) r (from_first (begins_with (own_or_not_before r)) lists) ≡ holds_rank r letters
    held-ahead [] [] rises listed = refl
    held-ahead [] (x ∷ xs) rises listed = absurd listed
    held-ahead (list ∷ lists) [] rises listed = absurd listed
    held-ahead (list ∷ lists) (y ∷ ys) rises listed =
        let b : ℕ = bucket_of r in let s : Rank = letter_rank y in let t : Bool = rank_before s r in
        let mine : List (Letter P) = y ∷ filter (in_bucket (own y)) ys in let others : List (Letter P) = filter (not_in_bucket (own y)) ys in
        let from : List (List (Letter P)) = from_first (begins_with (own_or_not_before r)) lists in
        subst (λ l. first_holds b r (from_first (begins_with (own_or_not_before r)) (l ∷ lists)) ≡ holds_rank r (y ∷ ys)) (sym listed.0) (
        elim (in_bucket b y) as (λ c. in_bucket b y ≡ c → first_holds b r (if c || not t then mine ∷ lists else from) ≡ holds_rank r (y ∷ ys)) [
          | true ↦ λ e.
              let all : mine ≡ filter (in_bucket b) (y ∷ ys) = ap (λ n. y ∷ filter (in_bucket n) ys) (same-number (own y) b e) ∙ sym (ap (λ c. if c then y ∷ filter (in_bucket b) ys else filter (in_bucket b) ys) e) in
              ap (λ c. if c then some_has_rank r (find (is_reached r) mine) else false) e
              ∙ ap (λ l. some_has_rank r (find (is_reached r) l)) all
              ∙ holds-first r (filter (in_bucket b) (y ∷ ys)) (rising-filter _ (in_bucket b) (y ∷ ys) rises) ∙ holds-own r (y ∷ ys)
          | false ↦ λ e.
              elim t as (λ u. rank_before s r ≡ u → first_holds b r (if not u then mine ∷ lists else from) ≡ holds_rank r (y ∷ ys)) [
                | true ↦ λ f.
                    held-ahead lists others (rising-filter _ (not_in_bucket (own y)) ys rises.1) listed.1
                    ∙ sym (holds-own r others) ∙ ap (holds_rank r) (filter-within (in_bucket b) (not_in_bucket (own y)) (apart b y e) ys) ∙ holds-own r ys
                    ∙ ap (λ c. c || holds_rank r ys) (sym (before-differs s r (rank_before-true s r f)))
                | false ↦ λ f.
                    ap (λ c. if c then some_has_rank r (find (is_reached r) mine) else false) e
                    ∙ sym (none-holds r s (filter (in_bucket b) ys) f (every-filter _ (in_bucket b) ys rises.0))
                    ∙ ap (λ c. holds_rank r (if c then y ∷ filter (in_bucket b) ys else filter (in_bucket b) ys)) (sym e) ∙ holds-own r (y ∷ ys)
              ] refl
        ] refl)
