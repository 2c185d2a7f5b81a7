-- Rows in rising order lie between two times where the first and the last do.
use Rattle.std.proofs.Common.{◌≡◌, ◌-◌, ◌≤◌, suc, Bool, true, false, ◌&&◌, List, [], ◌∷◌, length, refl, sym, ap, ◌∙◌, arith, Some, None, slice_get}
use Rattle.std.specs.Cmp.{both_ways}
use Rattle.std.specs.List.{list_all}
use Rattle.std.proofs.lemmas.Bool.{and_parts, and_from}
use Rattle.std.proofs.lemmas.Bool.Decides.{nat_tests}
use Rattle.vt_key.specs.promise.Times.{Time, time_before, time_at_most}
use Rattle.vt_model.specs.declared.rows.Row.{Row}
use Rattle.vt_book.specs.inside.Books.{is_within}
use Rattle.vt_book.specs.inside.Runs.{AreRising}
use Rattle.vt_steps.specs.inside.Rows.{AreSameRows}
use Rattle.vt_book.proofs.RowLists.{same-list_all}
use Rattle.vt_book.proofs.WaitingLemmas.{not-earlier}

-- the last of rows, one of which is in front of others
abbrev last-of : Row → List Row → Row
last-of x [] = x
last-of x (y ∷ ys) = last-of y ys

at-last : (x : Row) (xs : List Row) → slice_get (x ∷ xs) (length (x ∷ xs) - 1) ≡ Some (last-of x xs)
at-last x [] = ap (slice_get (x ∷ [])) (let none : length (x ∷ []) - 1 ≡ 0 = omega arith in none)
at-last x (y ∷ ys) = ap (slice_get (x ∷ y ∷ ys)) (let more : length (x ∷ y ∷ ys) - 1 ≡ suc (length (y ∷ ys) - 1) = omega arith in more) ∙ at-last y ys

-- it isn't earlier than the first
last-late : (x : Row) (xs : List Row) → AreRising (x ∷ xs) → x.key.time ≤ (last-of x xs).key.time
last-late x [] h = omega arith
last-late x (y ∷ ys) h = let a = not-earlier x y h.0.0 in let b = last-late y ys h.1 in omega arith

module _ (from to : Time) where
  -- what the first and the last have
  abbrev are_ends_within : Row → Row → Bool
  are_ends_within first last = time_at_most from first.key.time && time_before last.key.time to

  all-from-ends : (x : Row) (xs : List Row) → AreRising (x ∷ xs) → are_ends_within x (last-of x xs) ≡ true → list_all (is_within from to) (x ∷ xs) ≡ true
  all-from-ends x [] h e = and_from (is_within from to x) true e refl
  all-from-ends x (y ∷ ys) h e =
      let both = and_parts (time_at_most from x.key.time) (time_before (last-of y ys).key.time to) e in
      let low = both.0 in
      let high = both.1 in
      let after = not-earlier x y h.0.0 in
      let late = last-late y ys h.1 in
      let before : time_before x.key.time to ≡ true = grind (arith, nat_tests) in
      let next : time_at_most from y.key.time ≡ true = grind (arith, nat_tests) in
      and_from (is_within from to x) (list_all (is_within from to) (y ∷ ys)) (and_from (time_at_most from x.key.time) (time_before x.key.time to) both.0 before)
      (all-from-ends y ys h.1 (and_from (time_at_most from y.key.time) (time_before (last-of y ys).key.time to) next both.1))

  ends-from-all : (x : Row) (xs : List Row) → list_all (is_within from to) (x ∷ xs) ≡ true → are_ends_within x (last-of x xs) ≡ true
  ends-from-all x xs h =
      let first = and_parts (time_at_most from x.key.time) (time_before x.key.time to) (and_parts (is_within from to x) (list_all (is_within from to) xs) h).0 in
      and_from (time_at_most from x.key.time) (time_before (last-of x xs).key.time to) first.0 (last x xs h)
    where
      last : (y : Row) (ys : List Row) → list_all (is_within from to) (y ∷ ys) ≡ true → time_before (last-of y ys).key.time to ≡ true
      last y [] h = (and_parts (time_at_most from y.key.time) (time_before y.key.time to) (and_parts (is_within from to y) true h).0).1
      last y (z ∷ zs) h = last z zs (and_parts (is_within from to y) (list_all (is_within from to) (z ∷ zs)) h).1

  pub within-none : (rows : List Row) → None ≡ slice_get rows 0 → list_all (is_within from to) rows ≡ true
  within-none [] h = refl
  within-none (x ∷ xs) h = absurd (let no : None ≡ Some x = h in cc)

  pub within-ends : (rows : List Row) (first last : Row) → AreRising rows → Some first ≡ slice_get rows 0 → Some last ≡ slice_get rows (length rows - 1) → list_all (is_within from to) rows ≡ (time_at_most from first.key.time && time_before last.key.time to)
  within-ends [] first last h at end = absurd (let no : Some first ≡ None = at in cc)
  within-ends (x ∷ xs) first last h at end =
      let first-is : first ≡ x = (let one : Some first ≡ Some x = at in cc) in
      let last-is : last ≡ last-of x xs = (let one : Some last ≡ Some (last-of x xs) = end ∙ at-last x xs in cc) in
      both_ways (list_all (is_within from to) (x ∷ xs)) (are_ends_within x (last-of x xs)) (ends-from-all x xs) (all-from-ends x xs h) ∙ (λ i. are_ends_within (sym first-is i) (sym last-is i))

  -- the same rows lie between the times
  pub within-same : (told held seen : List Row) → AreSameRows told held → told ≡ seen → list_all (is_within from to) seen ≡ list_all (is_within from to) held
  within-same told held seen h is = ap (list_all (is_within from to)) (sym is) ∙ same-list_all (is_within from to) told held h
