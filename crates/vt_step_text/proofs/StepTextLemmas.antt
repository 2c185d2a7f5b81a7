-- The steps of a text, line by line.
use Rattle.std.proofs.Common.{◌≡◌, ℕ, ◌+◌, ◌<◌, ◌==◌, true, false, List, [], ◌∷◌, ◌++◌, length, Option, Some, None, Result, Ok, Err, ap, sym, ◌∙◌, refl, arith, append-nil, append_assoc}
use Rattle.std.proofs.lemmas.List.Splits.{length-slice_split}
use Rattle.vt_steps.specs.declared.step.Step.{Step}
use Rattle.vt_step_text.specs.declared.reading.NumberedStep.{NumberedStep}
use Rattle.vt_step_text.specs.promise.Words.{words_of, step_said}
use Rattle.vt_step_text.specs.promise.StepText.{text_lines, is_passed_over, numbered, with_step, steps_from}

-- steps that were read before the later lines
abbrev pub with_front : List NumberedStep → Result (List NumberedStep) ℕ → Result (List NumberedStep) ℕ
with_front front (Ok later) = Ok (front ++ later)
with_front front (Err bad) = Err bad

pub nothing_yet : (said : Result (List NumberedStep) ℕ) → with_front [] said ≡ said
nothing_yet (Ok later) = refl
nothing_yet (Err bad) = refl

some_line : (text : List ℕ) → 0 < length (text_lines text)
some_line text = omega (arith, length-slice_split (λ (byte : ℕ). byte == 10) text)

module _ (lps workers : ℕ) where
  passed_line : (line : ℕ) (first : List ℕ) (more : List (List ℕ)) → 0 < length more → is_passed_over first ≡ true → steps_from lps workers line (first ∷ more) ≡ steps_from lps workers (line + 1) more
  unfolding steps_from
  passed_line line first [] some e = absurd (omega arith)
  passed_line line first (second ∷ rest) some e = rw e refl

  said_line : (line : ℕ) (first : List ℕ) (more : List (List ℕ)) → 0 < length more → is_passed_over first ≡ false
      → steps_from lps workers line (first ∷ more) ≡ with_step line (step_said lps workers (words_of first)) (steps_from lps workers (line + 1) more)
  unfolding steps_from
  said_line line first [] some e = absurd (omega arith)
  said_line line first (second ∷ rest) some e = rw e refl

  -- a line that is passed over
  pub passed : (front : List NumberedStep) (line : ℕ) (text first after : List ℕ) → text_lines text ≡ first ∷ text_lines after → is_passed_over first ≡ true
      → with_front front (steps_from lps workers (line + 1) (text_lines after)) ≡ with_front front (steps_from lps workers line (text_lines text))
  passed front line text first after e p =
      ap (with_front front) (sym (ap (steps_from lps workers line) e ∙ passed_line line first (text_lines after) (some_line after) p))

  one_more : (front : List NumberedStep) (line : ℕ) (step : Step) (later : Result (List NumberedStep) ℕ) → with_front (front ++ numbered line step ∷ []) later ≡ with_front front (with_step line (Some step) later)
  one_more front line step (Ok steps) = ap Ok (append_assoc front (numbered line step ∷ []) steps)
  one_more front line step (Err bad) = refl

  -- a line that says a step
  pub read : (front : List NumberedStep) (line : ℕ) (text first after : List ℕ) (step : Step) → text_lines text ≡ first ∷ text_lines after → is_passed_over first ≡ false → Some step ≡ step_said lps workers (words_of first)
      → with_front (front ++ numbered line step ∷ []) (steps_from lps workers (line + 1) (text_lines after)) ≡ with_front front (steps_from lps workers line (text_lines text))
  read front line text first after step e p s =
      let later = steps_from lps workers (line + 1) (text_lines after) in
      one_more front line step later
      ∙ ap (with_front front) (ap (λ (o : Option Step). with_step line o later) s ∙ sym (ap (steps_from lps workers line) e ∙ said_line line first (text_lines after) (some_line after) p))

  -- a line that says none
  pub bad : (front : List NumberedStep) (line : ℕ) (text first after : List ℕ) → text_lines text ≡ first ∷ text_lines after → is_passed_over first ≡ false → None ≡ step_said lps workers (words_of first)
      → with_front front (steps_from lps workers line (text_lines text)) ≡ Err line
  bad front line text first after e p s =
      let later = steps_from lps workers (line + 1) (text_lines after) in
      ap (with_front front) (ap (steps_from lps workers line) e ∙ said_line line first (text_lines after) (some_line after) p ∙ ap (λ (o : Option Step). with_step line o later) (sym s))

  pub at_end : (line : ℕ) → steps_from lps workers line ([] ∷ []) ≡ Ok []
  unfolding steps_from
  at_end line = refl

  not_ended : (line byte : ℕ) (bytes : List ℕ) → steps_from lps workers line ((byte ∷ bytes) ∷ []) ≡ Err line
  unfolding steps_from
  not_ended line byte bytes = refl

  -- nothing stands behind the last newline
  pub ended : (front : List NumberedStep) (line : ℕ) (text : List ℕ) → text_lines text ≡ text ∷ [] → length text ≡ 0 → with_front front (steps_from lps workers line (text_lines text)) ≡ Ok front
  ended front line [] e none = ap (with_front front) (ap (steps_from lps workers line) e ∙ at_end line) ∙ ap Ok (append-nil front)
  ended front line (byte ∷ bytes) e none = absurd (omega arith)

  -- something does
  pub unended : (front : List NumberedStep) (line : ℕ) (text : List ℕ) → text_lines text ≡ text ∷ [] → 0 < length text → with_front front (steps_from lps workers line (text_lines text)) ≡ Err line
  unended front line [] e some = absurd (omega arith)
  unended front line (byte ∷ bytes) e some = ap (with_front front) (ap (steps_from lps workers line) e ∙ not_ended line byte bytes)
