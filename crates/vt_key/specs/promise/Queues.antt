-- Lists in some order, letters by their ranks and stamps, and what is put into such a list or taken out of it.
-- They stand below lists and steps, so that no lemma joins the words of code with those of definitions.
use Rattle.std.specs.Prelude.{Bool, List, [], ◌∷◌, if◌then◌else◌}
use Rattle.vt_key.specs.promise.Order.{rank_before, rank_same, stamp_same}
use Rattle.vt_key.specs.declared.order.Rank.{Rank}
use Rattle.vt_key.specs.declared.order.Stamp.{Stamp}
use Rattle.vt_key.specs.declared.letter.Letter.{Letter}

module _ {X : Type 0} (is_before : X → X → Bool) where
  -- the list with x in front of the first element that it is before, or at the end where there is none
  abbrev pub insert_ordered : X → List X → List X
  insert_ordered x [] = x ∷ []
  insert_ordered x (y ∷ ys) = if is_before x y then x ∷ y ∷ ys else y ∷ insert_ordered x ys

module _ {X : Type 0} (test : X → Bool) where
  -- the list without its first element that passes the test, or all of it where none does
  abbrev pub without_first : List X → List X
  without_first [] = []
  without_first (x ∷ xs) = if test x then xs else x ∷ without_first xs

module _ {P : Type 0} where
  -- the rank of a letter is that of its event
  abbrev pub letter_rank : Letter P → Rank
  letter_rank letter = letter.event.rank

  -- the letter has this rank
  abbrev pub has_rank : Rank → Letter P → Bool
  has_rank rank letter = rank_same (letter_rank letter) rank

  -- the letter has this stamp
  abbrev pub has_stamp : Stamp → Letter P → Bool
  has_stamp stamp letter = stamp_same (letter_rank letter).stamp stamp

  -- the letters, with one more in its place by rank
  abbrev pub insert_letter : Letter P → List (Letter P) → List (Letter P)
  insert_letter = insert_ordered (λ a b. rank_before (letter_rank a) (letter_rank b))
