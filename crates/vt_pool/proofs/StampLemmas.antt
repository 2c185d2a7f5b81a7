-- Letters whose stamps differ: the letter of a rank is the one of its stamp.
use Rattle.std.proofs.Common.{◌≡◌, ◌∙◌, ◌⊎◌, ℕ, Bool, true, false, List, [], ◌∷◌, refl, sym, ap, inl, inr, if◌then◌else◌, Some}
use Rattle.std.specs.List.{find, AllByRecursion}
use Rattle.std.proofs.lemmas.Bool.{cases_Bool}
use Rattle.vt_key.specs.promise.Order.{key_same}
use Rattle.vt_key.specs.promise.Queues.{has_rank, has_stamp, letter_rank, without_first}
use Rattle.vt_key.specs.declared.order.Rank.{Rank}
use Rattle.vt_key.specs.declared.order.Stamp.{Stamp}
use Rattle.vt_key.specs.declared.letter.Letter.{Letter}
use Rattle.vt_key.specs.promise.Lists.{Among}
use Rattle.vt_key.proofs.ListLemmas.{every-all, find-among, find-passes, rising-filter, same-element}
use Rattle.vt_key.proofs.OrderLemmas.{rank_same-true, stamp_same-true, same-stamp_same, same-key_same}
use Rattle.vt_pending.proofs.Filters.{find-filter}
use Rattle.vt_steps.specs.promise.ProcessSteps.{are_opposite, can_annihilate}
use Rattle.vt_pool.specs.inside.View.{is_to, letters_to, HaveOwnStamps}
use Rattle.vt_pool.proofs.ViewLemmas.{to-own}

-- ---- tests that agree

module _ {X : Type 0} (f g : X → Bool) where
  find-same : (xs : List X) → AllByRecursion (λ x. f x ≡ g x) xs → find f xs ≡ find g xs
  find-same [] same = refl
  find-same (x ∷ xs) same = (λ j. if same.0 j then Some x else find f xs) ∙ ap (λ o. if g x then Some x else o) (find-same xs same.1)

  without-same : (xs : List X) → AllByRecursion (λ x. f x ≡ g x) xs → without_first f xs ≡ without_first g xs
  without-same [] same = refl
  without-same (x ∷ xs) same = (λ j. if same.0 j then xs else x ∷ without_first f xs) ∙ ap (λ ys. if g x then xs else x ∷ ys) (without-same xs same.1)

-- ---- the letter of a rank

module _ {P : Type 0} (rank : Rank) where
  -- it has that rank
  pub found-rank : (letters : List (Letter P)) (x : Letter P) → find (has_rank rank) letters ≡ Some x → letter_rank x ≡ rank
  found-rank letters x found = rank_same-true (letter_rank x) rank (find-passes (has_rank rank) letters x found)

  -- where it is there, no other letter has its stamp
  alone : (letters : List (Letter P)) (x : Letter P) → HaveOwnStamps letters → find (has_rank rank) letters ≡ Some x → AllByRecursion (λ y. has_rank rank y ≡ has_stamp rank.stamp y) letters
  alone letters x apart found = every-all (λ (y : Letter P). has_rank rank y ≡ has_stamp rank.stamp y) letters (λ y among. one y among (cases_Bool (has_stamp rank.stamp y)))
    where
      one : (y : Letter P) → Among y letters → (has_stamp rank.stamp y ≡ true) ⊎ (has_stamp rank.stamp y ≡ false) → has_rank rank y ≡ has_stamp rank.stamp y
      one y among (inl is) =
          let stamp_is : (letter_rank x).stamp ≡ rank.stamp = ap (λ (r : Rank). r.stamp) (found-rank letters x found) in
          let same : y ≡ x = same-element (λ (l : Letter P). (letter_rank l).stamp) letters apart y x among (find-among (has_rank rank) letters x found)
          (stamp_same-true (letter_rank y).stamp rank.stamp is ∙ sym stamp_is) in
          ap (has_rank rank) same ∙ find-passes (has_rank rank) letters x found ∙ sym is
      one y among (inr other) = elim (cases_Bool (has_rank rank y)) [
        | inl has ↦
            let stamp_is : rank.stamp ≡ (letter_rank y).stamp = ap (λ (r : Rank). r.stamp) (sym (rank_same-true (letter_rank y) rank has)) in
            absurd (let k : true ≡ false = sym (ap (λ (s : Stamp). has_stamp s y) stamp_is ∙ same-stamp_same (letter_rank y).stamp) ∙ other in cc)
        | inr none ↦ none ∙ sym other
      ]

  module _ (letters : List (Letter P)) (x : Letter P) (apart : HaveOwnStamps letters) (found : find (has_rank rank) letters ≡ Some x) where
    pub found-stamp : find (has_stamp rank.stamp) letters ≡ Some x
    found-stamp = sym (find-same (has_rank rank) (has_stamp rank.stamp) letters (alone letters x apart found)) ∙ found

    pub without-rank : without_first (has_rank rank) letters ≡ without_first (has_stamp rank.stamp) letters
    without-rank = without-same (has_rank rank) (has_stamp rank.stamp) letters (alone letters x apart found)

    -- it is so among the letters for its process
    pub found-to : (p : ℕ) → x.event.dest ≡ p → find (has_rank rank) (letters_to p letters) ≡ Some x
    found-to p dest = find-filter (has_rank rank) (is_to p) x letters found (to-own p x dest)

    pub apart-to : (p : ℕ) → HaveOwnStamps (letters_to p letters)
    apart-to p = rising-filter (λ (a b : Letter P). (letter_rank a).stamp ≡ (letter_rank b).stamp → ⊥) (is_to p) letters apart

  -- a pending and a waiting letter of one rank annihilate each other
  pub annihilate : (pending waiting : List (Letter P)) (x y : Letter P) → HaveOwnStamps pending → HaveOwnStamps waiting → find (has_rank rank) pending ≡ Some x → find (has_rank rank) waiting ≡ Some y
      → can_annihilate rank.stamp pending waiting ≡ true
  annihilate pending waiting x y apart apart_waiting found found_waiting =
      let minus = found-stamp waiting y apart_waiting found_waiting in
      let plus = found-stamp pending x apart found in
      let same : (letter_rank x).key ≡ (letter_rank y).key = ap (λ (r : Rank). r.key) (found-rank pending x found ∙ sym (found-rank waiting y found_waiting)) in
      (λ j. are_opposite (minus j) (plus j)) ∙ ap (key_same y.event.rank.key) same ∙ same-key_same y.event.rank.key
