-- Steps that are written are read again.
use Rattle.std.proofs.Common.{◌≡◌, ℕ, ◌+◌, ◌^◌, ◌<◌, ◌≤◌, ◌==◌, Bool, true, false, cond, List, [], ◌∷◌, ◌++◌, Option, Some, None, option_map, Ok, ap, ap₂, sym, ◌∙◌, refl, arith, append_assoc, not}
use Rattle.std.specs.Prelude.{option_and_then}
use Rattle.std.specs.List.{slice_split, list_all, AllByRecursion}
use Rattle.std.specs.Char.{is_ascii_digit}
use Rattle.std.specs.Fmt.{decimal}
use Rattle.std.proofs.lemmas.Bool.{lt-ltb, not-true}
use Rattle.std.proofs.lemmas.Fmt.{digits_decimal}
use Rattle.vt_text.proofs.NumberLemmas.{decimal_model, number_said-decimal}
use Rattle.vt_steps.specs.declared.step.Step.{Step}
use Rattle.vt_steps.specs.declared.step.Step.TheVariants.{Execute, Undo, Cancel, Home, Send, Fetch, Accept, Cut, Report, Commit, Close}
use Rattle.vt_key.specs.declared.limits.TheConstants.{MAX_PROCESSES, MAX_WORKERS}
use Rattle.vt_step_text.specs.promise.StepText.{text_lines, is_passed_over, numbered, steps_from}
use Rattle.vt_step_text.specs.inside.StepLines.{step_text, text_of_steps, numbered_from, IsOf}
use Rattle.vt_step_text.proofs.StepTextLemmas.{with_front, nothing_yet, read, at_end}
use Rattle.std.proofs.Common.{lit<}
use Rattle.std.proofs.lemmas.Bool.{and_parts}
use Rattle.std.proofs.lemmas.Bool.Decides.{nat_tests}
use Rattle.std.proofs.lemmas.List.Folds.{list_all-append}
use Rattle.vt_step_text.specs.promise.Words.{words_of, if_below, number_below, of_both, stamp_of, step_of_name, step_with_one, step_with_two, step_with_three, step_said}

digits : (n : ℕ) → n < 2 ^ 64 → list_all is_ascii_digit (decimal n) ≡ true
digits n h = digits_decimal decimal_model n h

digit_differs : (x c : ℕ) → c < 48 → is_ascii_digit x ≡ true → (x == c) ≡ false
digit_differs x c low h = grind (arith, nat_tests)

digit_is : (x c : ℕ) (xs : List ℕ) → c < 48 → list_all is_ascii_digit (x ∷ xs) ≡ true → ((x == c) ≡ false) × (list_all is_ascii_digit xs ≡ true)
digit_is x c xs low h = let parts = and_parts (is_ascii_digit x) (list_all is_ascii_digit xs) h in (digit_differs x c low parts.0, parts.1)

same : (c : ℕ) → (c == c) ≡ true
same c = grind (arith, nat_tests)

-- digits hold no separator: they are a part
digits_alone : (c : ℕ) (xs : List ℕ) → c < 48 → list_all is_ascii_digit xs ≡ true → slice_split (λ b. b == c) xs ≡ xs ∷ []
digits_alone c [] low h = refl
digits_alone c (x ∷ xs) low h = let d = digit_is x c xs low h in rw (d.0, digits_alone c xs low d.1) refl

-- and they are one before a separator
digits_then : (c : ℕ) (xs rest : List ℕ) → c < 48 → list_all is_ascii_digit xs ≡ true → slice_split (λ b. b == c) (xs ++ c ∷ rest) ≡ xs ∷ slice_split (λ b. b == c) rest
digits_then c [] rest low h = rw (same c) refl
digits_then c (x ∷ xs) rest low h = let d = digit_is x c xs low h in rw (d.0, digits_then c xs rest low d.1) refl

-- a number among the words of a line
last_word : (n : ℕ) → n < 2 ^ 64 → words_of (decimal n) ≡ decimal n ∷ []
last_word n h = digits_alone 32 (decimal n) (lit< tt) (digits n h)

next_word : (n : ℕ) (rest : List ℕ) → n < 2 ^ 64 → words_of (decimal n ++ 32 ∷ rest) ≡ decimal n ∷ words_of rest
next_word n rest h = digits_then 32 (decimal n) rest (lit< tt) (digits n h)

-- no newline
abbrev is_line : List ℕ → Bool
is_line text = list_all (λ byte. not (byte == 10)) text

digits_line : (xs : List ℕ) → list_all is_ascii_digit xs ≡ true → is_line xs ≡ true
digits_line [] h = refl
digits_line (x ∷ xs) h = let d = digit_is x 10 xs (lit< tt) h in rw (d.0, digits_line xs d.1) refl

number_line : (n : ℕ) → n < 2 ^ 64 → is_line (decimal n) ≡ true
number_line n h = digits_line (decimal n) (digits n h)

and_more : (n : ℕ) (rest : List ℕ) → n < 2 ^ 64 → is_line rest ≡ true → is_line (decimal n ++ 32 ∷ rest) ≡ true
and_more n rest h e = rw (list_all-append (λ (byte : ℕ). not (byte == 10)) (decimal n) (32 ∷ rest), number_line n h, e) refl

-- a line before a newline
pub line_cut : (text rest : List ℕ) → is_line text ≡ true → text_lines (text ++ 10 ∷ rest) ≡ text ∷ text_lines rest
line_cut [] rest h = refl
line_cut (x ∷ xs) rest h =
    let parts = and_parts (not (x == 10)) (is_line xs) h in
    let differs : (x == 10) ≡ false = not-true (x == 10) parts.0 in rw (differs, line_cut xs rest parts.1) refl

below : (limit n : ℕ) → limit ≤ 2 ^ 64 → n < limit → number_below limit (decimal n) ≡ Some n
below limit n few h = ap (option_and_then (if_below limit)) (number_said-decimal n (omega arith)) ∙ ap (λ b. cond b (Some n) None) (lt-ltb n limit h)

module _ (lps workers : ℕ) (few : lps ≤ MAX_PROCESSES) (small : workers ≤ MAX_WORKERS) where
  process : (p : ℕ) → p < lps → number_below lps (decimal p) ≡ Some p
  process p h = below lps p (omega arith) h

  worker : (w : ℕ) → w < workers → number_below workers (decimal w) ≡ Some w
  worker w h = below workers w (omega arith) h

  one : (make : ℕ → Step) (o : Option ℕ) (n : ℕ) → o ≡ Some n → option_map make o ≡ Some (make n)
  one make o n e = ap (option_map make) e

  two : {A B C : Type 0} (make : A → B → C) (o : Option A) (q : Option B) (a : A) (b : B) → o ≡ Some a → q ≡ Some b → of_both make o q ≡ Some (make a b)
  two make o q a b e f = ap₂ (of_both make) e f

  -- the words of a step's text say the step
  words_say : (step : Step) → IsOf lps workers step → step_said lps workers (words_of (step_text step)) ≡ Some step
  unfolding step_said step_of_name step_with_one step_with_two step_with_three
  words_say (Execute p) h = rw (last_word p (omega arith)) (one Execute _ p (process p h))
  words_say (Undo p) h = rw (last_word p (omega arith)) (one Undo _ p (process p h))
  words_say (Cancel p stamp) h =
      rw (next_word p (decimal stamp.worker ++ 32 ∷ decimal stamp.serial) (omega arith), next_word stamp.worker (decimal stamp.serial) (omega arith), last_word stamp.serial h.2)
      (two Cancel _ _ p stamp (process p h.0) (two stamp_of _ _ stamp.worker stamp.serial (worker stamp.worker h.1) (number_said-decimal stamp.serial h.2)))
  words_say (Home w) h = rw (last_word w (omega arith)) (one Home _ w (worker w h))
  words_say (Send w v) h = rw (next_word w (decimal v) (omega arith), last_word v (omega arith)) (two Send _ _ w v (worker w h.0) (worker v h.1))
  words_say (Fetch w) h = rw (last_word w (omega arith)) (one Fetch _ w (worker w h))
  words_say (Accept w i) h = rw (next_word w (decimal i) (omega arith), last_word i h.1) (two Accept _ _ w i (worker w h.0) (number_said-decimal i h.1))
  words_say (Cut w) h = rw (last_word w (omega arith)) (one Cut _ w (worker w h))
  words_say (Report w) h = rw (last_word w (omega arith)) (one Report _ w (worker w h))
  words_say (Commit w) h = rw (last_word w (omega arith)) (one Commit _ w (worker w h))
  words_say Close h = refl

  one_line : (step : Step) → IsOf lps workers step → is_line (step_text step) ≡ true
  one_line (Execute p) h = number_line p (omega arith)
  one_line (Undo p) h = number_line p (omega arith)
  one_line (Cancel p stamp) h = and_more p _ (omega arith) (and_more stamp.worker _ (omega arith) (number_line stamp.serial h.2))
  one_line (Home w) h = number_line w (omega arith)
  one_line (Send w v) h = and_more w _ (omega arith) (number_line v (omega arith))
  one_line (Fetch w) h = number_line w (omega arith)
  one_line (Accept w i) h = and_more w _ (omega arith) (number_line i h.1)
  one_line (Cut w) h = number_line w (omega arith)
  one_line (Report w) h = number_line w (omega arith)
  one_line (Commit w) h = number_line w (omega arith)
  one_line Close h = refl

  not_passed : (step : Step) → is_passed_over (step_text step) ≡ false
  not_passed (Execute p) = refl
  not_passed (Undo p) = refl
  not_passed (Cancel p stamp) = refl
  not_passed (Home w) = refl
  not_passed (Send w v) = refl
  not_passed (Fetch w) = refl
  not_passed (Accept w i) = refl
  not_passed (Cut w) = refl
  not_passed (Report w) = refl
  not_passed (Commit w) = refl
  not_passed Close = refl

  read_from : (line : ℕ) (steps : List Step) → AllByRecursion (IsOf lps workers) steps → steps_from lps workers line (text_lines (text_of_steps steps)) ≡ Ok (numbered_from line steps)
  read_from line [] h = at_end lps workers line
  read_from line (step ∷ steps) h =
      let text = text_of_steps (step ∷ steps) in
      let rest = text_of_steps steps in
      let cut : text_lines text ≡ step_text step ∷ text_lines rest = ap text_lines (append_assoc (step_text step) (10 ∷ []) rest) ∙ line_cut (step_text step) rest (one_line step h.0) in
      let more = read_from (line + 1) steps h.1 in
      sym (nothing_yet (steps_from lps workers line (text_lines text)))
      ∙ sym (read lps workers [] line text (step_text step) rest step cut (not_passed step) (sym (words_say step h.0)))
      ∙ ap (with_front (numbered line step ∷ [])) more

  pub steps_again : (steps : List Step) → AllByRecursion (IsOf lps workers) steps → steps_from lps workers 1 (text_lines (text_of_steps steps)) ≡ Ok (numbered_from 1 steps)
  steps_again steps h = read_from 1 steps h
