-- Lines of final values, one after the other.
use Rattle.std.proofs.Common.{◌≡◌, ◌∙◌, ◌++◌, ◌+◌, ◌<◌, ◌≤◌, ℕ, suc, List, [], ◌∷◌, length, take, drop, get_or, Option, refl, ap, sym, subst, append-nil, append_assoc, take-append-drop, length-take, arith}
use Rattle.std.proofs.lemmas.List.{take_more}
use Rattle.vt_text.specs.promise.Writing.{AppendsBeginning}
use Rattle.vt_text.specs.inside.Writing.{AppendsAllButHeld}
use Rattle.vt_text.proofs.TextLemmas.{made_room, pushed, flush_fails, of_longer}
use Rattle.vt_tasks.specs.promise.Printed.{final_lines, final_text}

-- the lines of values, and then those of more values
lines-append : (lp : ℕ) (values more : List ℕ) → final_lines lp (values ++ more) ≡ final_lines lp values ++ final_lines (lp + length values) more
lines-append lp [] more = let same : lp ≡ lp + length {A = ℕ} [] = omega arith in ap (λ n. final_lines n more) same
lines-append lp (value ∷ values) more =
    let same : suc lp + length values ≡ lp + length (value ∷ values) = omega arith in
    ap (λ l. final_text lp value ++ l) (lines-append (suc lp) values more ∙ ap (λ n. final_lines (suc lp) values ++ final_lines n more) same)
    ∙ sym (append_assoc (final_text lp value) (final_lines (suc lp) values) (final_lines (lp + length (value ∷ values)) more))

module _ (values : List ℕ) (i : ℕ) where
  split : final_lines 0 values ≡ final_lines 0 (take i values) ++ final_lines (0 + length (take i values)) (drop i values)
  split = ap (final_lines 0) (sym (take-append-drop i values)) ∙ lines-append 0 (take i values) (drop i values)

  one_more : (d : ℕ) → i < length values → final_lines 0 (take i values) ++ final_text i (get_or values i d) ≡ final_lines 0 (take (i + 1) values)
  one_more d h =
      let value = get_or values i d in
      let count : i ≡ 0 + length (take i values) = omega (arith, h, length-take i values) in
      ap (λ l. final_lines 0 (take i values) ++ l) (sym (append-nil (final_text i value)) ∙ ap (λ n. final_lines n (value ∷ [])) count)
      ∙ sym (ap (final_lines 0) (take_more values i d h) ∙ lines-append 0 (take i values) (value ∷ []))

  module _ (front : List ℕ) (old now new : Option (List ℕ)) (held : List ℕ) (g : AppendsAllButHeld old now held (front ++ final_lines 0 (take i values))) where
    -- the line of one more value is held
    pub final_put : (d : ℕ) (held' : List ℕ) → i < length values → AppendsAllButHeld now new held' held
        → AppendsAllButHeld old new (held' ++ final_text i (get_or values i d)) (front ++ final_lines 0 (take (i + 1) values))
    final_put d held' within h =
        let line = final_text i (get_or values i d) in
        let lines = final_lines 0 (take i values) in
        subst (λ (l : List ℕ). AppendsAllButHeld old new (held' ++ line) l)
        (append_assoc front lines line ∙ ap (λ l. front ++ l) (one_more d within))
        (pushed old new held' (front ++ lines) line (made_room old now new held held' (front ++ lines) g h))

    -- the lines stop after some of them
    pub finals_stop : AppendsBeginning now new held → AppendsBeginning old new (front ++ final_lines 0 values)
    finals_stop h =
        let first = final_lines 0 (take i values) in
        let rest = final_lines (0 + length (take i values)) (drop i values) in
        subst (λ (l : List ℕ). AppendsBeginning old new l) (append_assoc front first rest ∙ ap (λ l. front ++ l) (sym split))
        (of_longer old new (front ++ first) rest (flush_fails old now new held (front ++ first) g h))
