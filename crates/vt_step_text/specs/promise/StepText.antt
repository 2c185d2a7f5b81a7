-- A step text: its lines, and the steps that they say.
use Rattle.std.specs.Prelude.{ℕ, ◌+◌, ◌==◌, Bool, true, List, [], ◌∷◌, Option, Some, None, Result, Ok, Err, if◌then◌else◌}
use Rattle.std.specs.List.{slice_split}
use Rattle.vt_steps.specs.declared.step.Step.{Step}
use Rattle.vt_step_text.specs.declared.reading.NumberedStep.{NumberedStep}
use Rattle.vt_step_text.specs.promise.Words.{words_of, step_said}

-- the lines of a text, each of which a newline (10) ends, and last what stands behind the last newline
abbrev pub text_lines : List ℕ → List (List ℕ)
text_lines text = slice_split (λ byte. byte == 10) text

-- a line that is passed over: an empty one, or one that begins with `#` (35)
abbrev pub is_passed_over : List ℕ → Bool
is_passed_over [] = true
is_passed_over (byte ∷ bytes) = byte == 35

-- a step with the number of its line
abbrev pub numbered : ℕ → Step → NumberedStep
numbered line step = record { line = line; step = step }

-- the step of a line before those of the later lines. Where the line says none it is the first bad one, whatever follows;
-- else the first bad one of the later lines is
abbrev pub with_step : ℕ → Option Step → Result (List NumberedStep) ℕ → Result (List NumberedStep) ℕ
with_step line None later = Err line
with_step line (Some step) (Ok steps) = Ok (numbered line step ∷ steps)
with_step line (Some step) (Err bad) = Err bad

module _ (lps workers : ℕ) where
  -- the steps of lines, of which the first has this number, or the number of the first bad line. Behind the last newline
  -- nothing may stand; a line that is passed over has a number too
  unfoldable pub steps_from : ℕ → List (List ℕ) → Result (List NumberedStep) ℕ
  steps_from line [] = Ok []
  steps_from line ([] ∷ []) = Ok []
  steps_from line ((byte ∷ bytes) ∷ []) = Err line
  steps_from line (first ∷ second ∷ rest) =
      if is_passed_over first then steps_from (line + 1) (second ∷ rest)
      else with_step line (step_said lps workers (words_of first)) (steps_from (line + 1) (second ∷ rest))

  -- the steps of a text, or the number of its first bad line. Lines are counted from 1
  abbrev pub steps_of : List ℕ → Result (List NumberedStep) ℕ
  steps_of text = steps_from 1 (text_lines text)
