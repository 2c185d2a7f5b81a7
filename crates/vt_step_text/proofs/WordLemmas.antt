-- The step that a line says, by its words.
use Rattle.std.proofs.Common.{◌≡◌, ℕ, ◌==◌, ◌<◌, List, [], ◌∷◌, length, None, ap, sym, ◌∙◌, refl, arith}
use Rattle.std.proofs.lemmas.List.Splits.{length-slice_split}
use Rattle.vt_step_text.specs.promise.Words.{words_of, step_of_name, step_with_one, step_with_two, step_with_three, step_said}

pub one_word : (lps workers : ℕ) (line : List ℕ) → words_of line ≡ line ∷ [] → step_of_name line ≡ step_said lps workers (words_of line)
unfolding step_said
one_word lps workers line e = ap (step_said lps workers) (sym e)

pub two_words : (lps workers : ℕ) (line name a : List ℕ) → words_of line ≡ name ∷ words_of a → words_of a ≡ a ∷ [] → step_with_one lps workers name a ≡ step_said lps workers (words_of line)
unfolding step_said
two_words lps workers line name a e f = ap (step_said lps workers) (sym (e ∙ ap (λ (l : List (List ℕ)). name ∷ l) f))

pub three_words : (lps workers : ℕ) (line name rest a b : List ℕ) → words_of line ≡ name ∷ words_of rest → words_of rest ≡ a ∷ words_of b → words_of b ≡ b ∷ []
    → step_with_two workers name a b ≡ step_said lps workers (words_of line)
unfolding step_said
three_words lps workers line name rest a b e f g =
    ap (step_said lps workers) (sym (e ∙ ap (λ (l : List (List ℕ)). name ∷ l) (f ∙ ap (λ (l : List (List ℕ)). a ∷ l) g)))

four : (line name rest a rest' b c : List ℕ) → words_of line ≡ name ∷ words_of rest → words_of rest ≡ a ∷ words_of rest' → words_of rest' ≡ b ∷ words_of c
    → words_of line ≡ name ∷ a ∷ b ∷ words_of c
four line name rest a rest' b c e f g = e ∙ ap (λ (l : List (List ℕ)). name ∷ l) (f ∙ ap (λ (l : List (List ℕ)). a ∷ l) g)

pub four_words : (lps workers : ℕ) (line name rest a rest' b c : List ℕ) → words_of line ≡ name ∷ words_of rest → words_of rest ≡ a ∷ words_of rest' → words_of rest' ≡ b ∷ words_of c → words_of c ≡ c ∷ []
    → step_with_three lps workers name a b c ≡ step_said lps workers (words_of line)
unfolding step_said
four_words lps workers line name rest a rest' b c e f g h =
    ap (step_said lps workers) (sym (four line name rest a rest' b c e f g ∙ ap (λ (l : List (List ℕ)). name ∷ a ∷ b ∷ l) h))

too_many : (lps workers : ℕ) (name a b c : List ℕ) (more : List (List ℕ)) → 0 < length more → None ≡ step_said lps workers (name ∷ a ∷ b ∷ c ∷ more)
unfolding step_said
too_many lps workers name a b c [] h = absurd (omega arith)
too_many lps workers name a b c (d ∷ more) h = refl

-- a line of more than four words says no step
pub five_words : (lps workers : ℕ) (line name rest a rest' b rest'' c more : List ℕ) → words_of line ≡ name ∷ words_of rest → words_of rest ≡ a ∷ words_of rest' → words_of rest' ≡ b ∷ words_of rest'' → words_of rest'' ≡ c ∷ words_of more
    → None ≡ step_said lps workers (words_of line)
five_words lps workers line name rest a rest' b rest'' c more e f g h =
    too_many lps workers name a b c (words_of more) (omega (arith, length-slice_split (λ (byte : ℕ). byte == 32) more))
    ∙ ap (step_said lps workers) (sym (four line name rest a rest' b rest'' e f g ∙ ap (λ (l : List (List ℕ)). name ∷ a ∷ b ∷ l) h))
