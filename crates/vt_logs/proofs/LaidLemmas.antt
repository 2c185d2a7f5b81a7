-- Ranges that lie one after the other, and what slots hold where lists grow and shrink at their ends.
use Rattle.std.proofs.Common.{◌≡◌, ℕ, zero, suc, ◌+◌, ◌≤◌, cond, List, [], ◌∷◌, ◌++◌, map, length, take, drop, Some, None, slice_get, slice_set, refl, sym, ◌∙◌, ap, subst, arith, length-drop}
use Rattle.std.specs.List.{AllByRecursion}
use Rattle.std.proofs.lemmas.List.{take-append-le, drop-append-le, drop_at, take_all}
use Rattle.vt_model.specs.declared.rows.Record.{Record}
use Rattle.vt_model.specs.declared.sending.Sent.{Sent}
use Rattle.vt_logs.specs.declared.slot.Slot.{Slot}
use Rattle.vt_logs.specs.inside.Sheets.{AreLaid, range_of, noted, noted_event}

module _ {X : Type 0} (first count : X → ℕ) where
  pub laid-push : (from to : ℕ) (xs : List X) (x : X) → AreLaid first count from xs to → first x ≡ to → AreLaid first count from (xs ++ x ∷ []) (to + count x)
  laid-push from to [] x h e = (e ∙ sym h, ap (λ n. n + count x) h)
  laid-push from to (y ∷ ys) x h e = (h.0, laid-push (from + count y) to ys x h.1 e)

  pub laid-pop : (from to : ℕ) (xs : List X) (x : X) → AreLaid first count from (xs ++ x ∷ []) to → AreLaid first count from xs (first x)
  laid-pop from to [] x h = sym h.0
  laid-pop from to (y ∷ ys) x h = (h.0, laid-pop (from + count y) to ys x h.1)

  pub laid-rises : (from to : ℕ) (xs : List X) → AreLaid first count from xs to → from ≤ to
  laid-rises from to [] h = omega (arith, h)
  laid-rises from to (y ∷ ys) h = omega (arith, laid-rises (from + count y) to ys h.1)

  pub laid-fits : (from to : ℕ) (xs : List X) → AreLaid first count from xs to → AllByRecursion (λ x. first x + count x ≤ to) xs
  laid-fits from to [] h = tt
  laid-fits from to (y ∷ ys) h = (let r = laid-rises (from + count y) to ys h.1 in omega (arith, h.0, r), laid-fits (from + count y) to ys h.1)

  -- the last one begins within
  pub laid-last : (from to : ℕ) (xs : List X) (x : X) → AreLaid first count from (xs ++ x ∷ []) to → first x ≤ to
  laid-last from to [] x h = let e = h.0 in let k = h.1 in omega (arith, e, k)
  laid-last from to (y ∷ ys) x h = laid-last (from + count y) to ys x h.1

  -- one is written over by one of the same range
  pub laid-set : (from to : ℕ) (xs : List X) (i : ℕ) (x y : X) → slice_get xs i ≡ Some x → first y ≡ first x → count y ≡ count x → AreLaid first count from xs to → AreLaid first count from (slice_set xs i y) to
  laid-set from to [] i x y g e k h = h
  laid-set from to (z ∷ zs) zero x y g e k h =
      let same : z ≡ x = cc in
      let f : first y ≡ from = e ∙ sym (ap first same) ∙ h.0 in
      let c : count z ≡ count y = ap count same ∙ sym k in
      (f, subst (λ n. AreLaid first count (from + n) zs to) c h.1)
  laid-set from to (z ∷ zs) (suc i) x y g e k h = (h.0, laid-set (from + count z) to zs i x y g e k h.1)

pub range-grow : {X : Type 0} (first count : ℕ) (xs ys : List X) → first + count ≤ length xs → range_of first count (xs ++ ys) ≡ range_of first count xs
range-grow first count xs ys h =
    let within : first ≤ length xs = omega arith in
    let short : count ≤ length (drop first xs) = omega (arith, length-drop first xs) in
    ap (take count) (drop-append-le first xs ys within) ∙ take-append-le count (drop first xs) ys short

pub range-new : {X : Type 0} (xs ys : List X) → range_of (length xs) (length ys) (xs ++ ys) ≡ ys
range-new xs ys = ap (take (length ys)) (drop_at xs ys (length xs) refl) ∙ take_all (length ys) ys (omega arith)

module _ {P K : Type 0} where
  -- what slots hold stays as lists grow behind it
  pub noted-grow : (sends more_sends : List (Sent P)) (records more_records : List Record) (slots : List (Slot P K))
      → AllByRecursion (λ s. s.first_send + s.send_count ≤ length sends) slots
      → AllByRecursion (λ s. s.first_record + s.record_count ≤ length records) slots
      → map (noted (sends ++ more_sends) (records ++ more_records)) slots ≡ map (noted sends records) slots
  noted-grow sends ms records rs [] h k = refl
  noted-grow sends ms records rs (s ∷ ss) h k = λ i.
      cond s.is_gone None (Some (noted_event s.process s.before s.entry (range-grow s.first_send s.send_count sends ms h.0 i) (range-grow s.first_record s.record_count records rs k.0 i)))
      ∷ noted-grow sends ms records rs ss h.1 k.1 i
