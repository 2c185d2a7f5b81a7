-- The earlier of two times, and the least time of letters.
use Rattle.std.proofs.Common.{◌≡◌, ◌∙◌, List, [], ◌∷◌, ◌++◌, sym, ap, arith}
use Rattle.vt_key.specs.promise.Times.{Time, TimeBefore, TimeAtMost, earlier}
use Rattle.vt_key.specs.declared.letter.Letter.{Letter}
use Rattle.vt_steps.specs.promise.Letters.{letter_time, least_time}

pub earlier_assoc : (a b c : Time) → earlier (earlier a b) c ≡ earlier a (earlier b c)
earlier_assoc a b c = omega arith

pub earlier_comm : (a b : Time) → earlier a b ≡ earlier b a
earlier_comm a b = omega arith

pub earlier_first : (a b : Time) → TimeAtMost a b → earlier a b ≡ a
earlier_first a b low = omega arith

pub earlier_low : (a b c : Time) → TimeAtMost a c → TimeAtMost (earlier a b) c
earlier_low a b c low = omega arith

pub earlier_low_right : (a b c : Time) → TimeAtMost b c → TimeAtMost (earlier a b) c
earlier_low_right a b c low = omega arith

pub at_most_both : (t a b : Time) → TimeAtMost t a → TimeAtMost t b → TimeAtMost t (earlier a b)
at_most_both t a b low also = omega arith

pub same_times : (a b : Time) → TimeAtMost a b → TimeAtMost b a → a ≡ b
same_times a b low high = omega arith

pub not_before : (a b : Time) → (TimeBefore a b → ⊥) → TimeAtMost b a
not_before a b never = omega arith

pub at_most_chain : (a b c : Time) → TimeAtMost a b → TimeAtMost b c → TimeAtMost a c
at_most_chain a b c low more = omega arith

pub same_low : (a : Time) → TimeAtMost a a
same_low a = omega arith

module _ {P : Type 0} (end : Time) where
  pub least_time-low : (letters : List (Letter P)) → TimeAtMost (least_time end letters) end
  least_time-low [] = same_low end
  least_time-low (x ∷ xs) = let low : TimeAtMost (least_time end xs) end = least_time-low xs in omega arith

  pub earlier-end : (letters : List (Letter P)) → earlier end (least_time end letters) ≡ least_time end letters
  earlier-end letters = earlier_comm end (least_time end letters) ∙ earlier_first (least_time end letters) end (least_time-low letters)

  pub least_time-append : (xs ys : List (Letter P)) → least_time end (xs ++ ys) ≡ earlier (least_time end xs) (least_time end ys)
  least_time-append [] ys = sym (earlier-end ys)
  least_time-append (x ∷ xs) ys =
      ap (earlier (letter_time x)) (least_time-append xs ys) ∙ sym (earlier_assoc (letter_time x) (least_time end xs) (least_time end ys))
