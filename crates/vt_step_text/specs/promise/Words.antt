-- A line of a step text: its words, and the step that they say.
use Rattle.std.specs.Prelude.{ℕ, ◌==◌, List, [], ◌∷◌, Option, Some, None, option_map, option_and_then, nat_lt, if◌then◌else◌, codes}
use Rattle.std.specs.List.{slice_split}
use Rattle.std.specs.Str.{bytes_eq}
use Rattle.vt_key.specs.declared.order.Stamp.{Stamp}
use Rattle.vt_steps.specs.declared.step.Step.{Step}
use Rattle.vt_steps.specs.declared.step.Step.TheVariants.{Execute, Undo, Cancel, Home, Send, Fetch, Accept, Cut, Report, Commit, Close}
use Rattle.vt_text.specs.promise.Numbers.{number_said}

-- the words of a line: the parts between its spaces (32). So two spaces in a row, a first one and a last one make an empty
-- word, which says nothing
abbrev pub words_of : List ℕ → List (List ℕ)
words_of line = slice_split (λ byte. byte == 32) line

-- a number, where it is below a limit
abbrev pub if_below : ℕ → ℕ → Option ℕ
if_below limit n = if nat_lt n limit then Some n else None

-- the number that a word is, where it is one and below a limit
abbrev pub number_below : ℕ → List ℕ → Option ℕ
number_below limit word = option_and_then (if_below limit) (number_said word)

-- what is made of two values, where both are there
abbrev pub of_both : {A B C : Type 0} → (A → B → C) → Option A → Option B → Option C
of_both make (Some a) (Some b) = Some (make a b)
of_both make _ _ = None

-- the stamp of a worker and a serial
abbrev pub stamp_of : ℕ → ℕ → Stamp
stamp_of worker serial = record { worker = worker; serial = serial }

-- the step that a word alone says
unfoldable pub step_of_name : List ℕ → Option Step
step_of_name name = if bytes_eq name (codes "close") then Some Close else None

-- the step that a word and one argument say: a process below lps, or a worker below workers
unfoldable pub step_with_one : ℕ → ℕ → List ℕ → List ℕ → Option Step
step_with_one lps workers name a =
    if bytes_eq name (codes "execute") then option_map Execute (number_below lps a)
    else if bytes_eq name (codes "undo") then option_map Undo (number_below lps a)
    else if bytes_eq name (codes "home") then option_map Home (number_below workers a)
    else if bytes_eq name (codes "fetch") then option_map Fetch (number_below workers a)
    else if bytes_eq name (codes "cut") then option_map Cut (number_below workers a)
    else if bytes_eq name (codes "report") then option_map Report (number_below workers a)
    else if bytes_eq name (codes "commit") then option_map Commit (number_below workers a)
    else None

-- the step that a word and two arguments say: two workers, or a worker and an index in its mail
unfoldable pub step_with_two : ℕ → List ℕ → List ℕ → List ℕ → Option Step
step_with_two workers name a b =
    if bytes_eq name (codes "send") then of_both Send (number_below workers a) (number_below workers b)
    else if bytes_eq name (codes "accept") then of_both Accept (number_below workers a) (number_said b)
    else None

-- the step that a word and three arguments say: a process, and a stamp by its worker and its serial
unfoldable pub step_with_three : ℕ → ℕ → List ℕ → List ℕ → List ℕ → List ℕ → Option Step
step_with_three lps workers name a b c =
    if bytes_eq name (codes "cancel")
    then of_both Cancel (number_below lps a) (of_both stamp_of (number_below workers b) (number_said c))
    else None

-- the step that words say, of a run with so many logical processes and workers
unfoldable pub step_said : ℕ → ℕ → List (List ℕ) → Option Step
step_said lps workers (name ∷ []) = step_of_name name
step_said lps workers (name ∷ a ∷ []) = step_with_one lps workers name a
step_said lps workers (name ∷ a ∷ b ∷ []) = step_with_two workers name a b
step_said lps workers (name ∷ a ∷ b ∷ c ∷ []) = step_with_three lps workers name a b c
step_said lps workers _ = None
