-- Steps as text.
use Rattle.std.specs.Prelude.{⊤, ℕ, ◌+◌, ◌^◌, ◌<◌, List, [], ◌∷◌, ◌++◌, codes}
use Rattle.std.specs.List.{flat_map}
use Rattle.std.specs.Fmt.{decimal}
use Rattle.vt_steps.specs.declared.step.Step.{Step}
use Rattle.vt_steps.specs.declared.step.Step.TheVariants.{Execute, Undo, Cancel, Home, Send, Fetch, Accept, Cut, Report, Commit, Close}
use Rattle.vt_step_text.specs.declared.reading.NumberedStep.{NumberedStep}
use Rattle.vt_step_text.specs.promise.StepText.{numbered}

-- the text of a step: its word and its arguments as decimal numbers, with single spaces (32)
abbrev pub step_text : Step → List ℕ
step_text (Execute p) = codes "execute " ++ decimal p
step_text (Undo p) = codes "undo " ++ decimal p
step_text (Cancel p stamp) = codes "cancel " ++ (decimal p ++ 32 ∷ (decimal stamp.worker ++ 32 ∷ decimal stamp.serial))
step_text (Home w) = codes "home " ++ decimal w
step_text (Send w v) = codes "send " ++ (decimal w ++ 32 ∷ decimal v)
step_text (Fetch w) = codes "fetch " ++ decimal w
step_text (Accept w i) = codes "accept " ++ (decimal w ++ 32 ∷ decimal i)
step_text (Cut w) = codes "cut " ++ decimal w
step_text (Report w) = codes "report " ++ decimal w
step_text (Commit w) = codes "commit " ++ decimal w
step_text Close = codes "close"

-- a line for each step, in order
abbrev pub text_of_steps : List Step → List ℕ
text_of_steps steps = flat_map (λ step. step_text step ++ 10 ∷ []) steps

-- the steps with the numbers of their lines, of which the first is this one
abbrev pub numbered_from : ℕ → List Step → List NumberedStep
numbered_from line [] = []
numbered_from line (step ∷ steps) = numbered line step ∷ numbered_from (line + 1) steps

-- a step of so many logical processes and workers, with numbers of 64 bits
abbrev pub IsOf : ℕ → ℕ → Step → Type 0
IsOf lps workers (Execute p) = p < lps
IsOf lps workers (Undo p) = p < lps
IsOf lps workers (Cancel p stamp) = (p < lps) × (stamp.worker < workers) × (stamp.serial < 2 ^ 64)
IsOf lps workers (Home w) = w < workers
IsOf lps workers (Send w v) = (w < workers) × (v < workers)
IsOf lps workers (Fetch w) = w < workers
IsOf lps workers (Accept w i) = (w < workers) × (i < 2 ^ 64)
IsOf lps workers (Cut w) = w < workers
IsOf lps workers (Report w) = w < workers
IsOf lps workers (Commit w) = w < workers
IsOf lps workers Close = ⊤
