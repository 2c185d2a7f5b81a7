-- Whether a letter is held: what the answer says of each letter, and what noted serials say.
use Rattle.std.proofs.Common.{◌≡◌, ◌∙◌, ◌||◌, ℕ, ◌<◌, Bool, true, false, List, [], ◌∷◌, map, refl, sym, ap, inl, inr, if◌then◌else◌, Some, None, slice_get}
use Rattle.std.specs.List.{find, list_any, AllByRecursion}
use Rattle.std.proofs.lemmas.Bool.{cases_Bool}
use Rattle.vt_key.specs.promise.Order.{stamp_same}
use Rattle.vt_key.specs.promise.Queues.{letter_rank}
use Rattle.vt_key.specs.declared.order.Stamp.{Stamp}
use Rattle.vt_key.specs.declared.letter.Letter.{Letter}
use Rattle.vt_key.specs.declared.letter.Sign.{Sign}
use Rattle.vt_key.specs.declared.letter.Sign.TheVariants.{Plus, Minus}
use Rattle.vt_key.proofs.OrderLemmas.{stamp_same-true, same-stamp_same}
use Rattle.vt_key.proofs.RisingLemmas.{first-false, second-false}
use Rattle.vt_key.proofs.ListLemmas.{every-weaker, find-among, find-passes}
use Rattle.vt_lp.specs.inside.Guards.{holds_letter}
use Rattle.vt_pool.specs.inside.View.{Placed, Stock, letters_to, past_at}
use Rattle.vt_pool.specs.inside.Inside.{IsHeard, placed_rank}
use Rattle.vt_pool.specs.inside.Pool.{holds_stamp}
use Rattle.vt_pool.proofs.GuardLemmas.{any-among, new-message, new-anti_message}
use Rattle.vt_pool.proofs.KeptLemmas.{not-heard}

module _ {X : Type 0} (stamp_of : X → Stamp) (stamp : Stamp) where
  -- where the test finds none, none has the stamp
  pub none-stamped : (xs : List X) → list_any (λ x. stamp_same (stamp_of x) stamp) xs ≡ false → AllByRecursion (λ x. stamp ≡ stamp_of x → ⊥) xs
  none-stamped [] none = tt
  none-stamped (x ∷ xs) none = (
    λ same. absurd (let k : true ≡ false =
        sym (ap (stamp_same (stamp_of x)) same ∙ same-stamp_same (stamp_of x)) ∙ first-false (stamp_same (stamp_of x) stamp) (list_any (λ y. stamp_same (stamp_of y) stamp) xs) none in cc),
    none-stamped xs (second-false (stamp_same (stamp_of x) stamp) (list_any (λ y. stamp_same (stamp_of y) stamp) xs) none),
  )

  -- none has a stamp of a greater serial than was noted
  pub none-heard : (heard : List ℕ) (most : ℕ) → slice_get heard stamp.worker ≡ Some most → most < stamp.serial → (xs : List X) → AllByRecursion (λ x. IsHeard heard (stamp_of x)) xs
      → list_any (λ x. stamp_same (stamp_of x) stamp) xs ≡ false
  none-heard heard most at late [] all = refl
  none-heard heard most at late (x ∷ xs) all = elim (cases_Bool (stamp_same (stamp_of x) stamp)) [
    | inl is ↦ absurd (not-heard heard stamp (stamp_of x) most at late all.0 (sym (stamp_same-true (stamp_of x) stamp is)))
    | inr is ↦ ap (λ (b : Bool). b || list_any (λ y. stamp_same (stamp_of y) stamp) xs) is ∙ none-heard heard most at late xs all.1
  ]

pub any-map : {X Y : Type 0} (test : Y → Bool) (f : X → Y) (xs : List X) → list_any test (map f xs) ≡ list_any (λ x. test (f x)) xs
any-map test f [] = refl
any-map test f (x ∷ xs) = ap (λ (b : Bool). test (f x) || b) (any-map test f xs)

module _ {X : Type 0} (test : X → Bool) where
  -- one that is found
  pub any-found : (xs : List X) (x : X) → find test xs ≡ Some x → list_any test xs ≡ true
  any-found xs x found = any-among test xs x (find-among test xs x found) (find-passes test xs x found)

  -- none is
  pub any-none : (xs : List X) → find test xs ≡ None → list_any test xs ≡ false
  any-none [] none = refl
  any-none (x ∷ xs) none =
      elim (test x) as (λ b. (if b then Some x else find test xs) ≡ None → b || list_any test xs ≡ false) [
        | true ↦ λ e. absurd (let k : Some x ≡ None = e in cc)
        | false ↦ λ e. any-none xs e
      ] none

module _ {S P K : Type 0} (stock : Stock S P K) where
  -- a message whose stamp none that is held has
  module _ (stamp : Stamp) (new : holds_stamp Plus stamp stock ≡ false) where
    pub new-pending : AllByRecursion (λ (l : Letter P). stamp ≡ (letter_rank l).stamp → ⊥) stock.pending
    new-pending =
        none-stamped (λ (l : Letter P). (letter_rank l).stamp) stamp stock.pending
        (first-false (list_any (λ (l : Letter P). stamp_same (letter_rank l).stamp stamp) stock.pending) (list_any (λ (e : Placed P K). stamp_same (placed_rank e).stamp stamp) stock.past) new)

    pub new-past : AllByRecursion (λ (e : Placed P K). stamp ≡ (placed_rank e).stamp → ⊥) stock.past
    new-past =
        none-stamped (λ (e : Placed P K). (placed_rank e).stamp) stamp stock.past
        (second-false (list_any (λ (l : Letter P). stamp_same (letter_rank l).stamp stamp) stock.pending) (list_any (λ (e : Placed P K). stamp_same (placed_rank e).stamp stamp) stock.past) new)

  -- an anti-message whose stamp none that waits has
  pub new-waiting : (stamp : Stamp) → holds_stamp Minus stamp stock ≡ false → AllByRecursion (λ (l : Letter P). stamp ≡ (letter_rank l).stamp → ⊥) stock.waiting
  new-waiting stamp new = none-stamped (λ (l : Letter P). (letter_rank l).stamp) stamp stock.waiting new

  -- a message of a greater serial than was noted isn't held
  pub not-held : (stamp : Stamp) (heard : List ℕ) (most : ℕ) → slice_get heard stamp.worker ≡ Some most → most < stamp.serial → AllByRecursion (λ (l : Letter P). IsHeard heard (letter_rank l).stamp) stock.pending
      → AllByRecursion (λ (e : Placed P K). IsHeard heard (placed_rank e).stamp) stock.past → holds_stamp Plus stamp stock ≡ false
  not-held stamp heard most at late pending past = λ j.
      none-heard (λ (l : Letter P). (letter_rank l).stamp) stamp heard most at late stock.pending pending j
      || none-heard (λ (e : Placed P K). (placed_rank e).stamp) stamp heard most at late stock.past past j

  -- a letter whose stamp none of its sign that is held has isn't held by its process
  pub new-letter : (p i : ℕ) (letter : Letter P) → holds_stamp letter.sign (letter_rank letter).stamp stock ≡ false
      → holds_letter (letters_to p stock.pending) (letters_to p stock.waiting) (past_at i stock.past) letter.sign letter.event.rank ≡ false
  new-letter p i letter new = by letter.sign refl new
    where
      by : (sign : Sign) → letter.sign ≡ sign → holds_stamp sign (letter_rank letter).stamp stock ≡ false
          → holds_letter (letters_to p stock.pending) (letters_to p stock.waiting) (past_at i stock.past) letter.sign letter.event.rank ≡ false
      by Plus is none =
          new-message p i letter stock.pending stock.waiting stock.past is
          (every-weaker _ (λ (l : Letter P). (letter_rank l).stamp ≡ (letter_rank letter).stamp → ⊥) stock.pending (λ l differs same. differs (sym same)) (new-pending (letter_rank letter).stamp none))
          (every-weaker _ (λ (e : Placed P K). (placed_rank e).stamp ≡ (letter_rank letter).stamp → ⊥) stock.past (λ e differs same. differs (sym same)) (new-past (letter_rank letter).stamp none))
      by Minus is none =
          new-anti_message p i letter stock.pending stock.waiting stock.past is
          (every-weaker _ (λ (l : Letter P). (letter_rank l).stamp ≡ (letter_rank letter).stamp → ⊥) stock.waiting (λ l differs same. differs (sym same)) (new-waiting (letter_rank letter).stamp none))
