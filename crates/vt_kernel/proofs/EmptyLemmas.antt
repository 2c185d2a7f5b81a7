-- Whether nothing is in a list, by its length.
use Rattle.std.proofs.Common.{◌≡◌, ℕ, ◌∙◌, Bool, true, false, eqb, List, [], ◌∷◌, length, refl, sym, ap, arith}
use Rattle.std.proofs.lemmas.Bool.Decides.{nat_tests}
use Rattle.vt_steps.specs.promise.Letters.{is_empty}

pub is_empty-length : {X : Type 0} (xs : List X) → is_empty xs ≡ eqb (length xs) 0
is_empty-length [] = refl
is_empty-length (x ∷ xs) = grind (arith, nat_tests)

-- what `is_empty` of a vector answers
pub is_empty-answer : {X : Type 0} (xs : List X) (n : ℕ) (answer : Bool) → length xs ≡ n → answer ≡ eqb n 0 → is_empty xs ≡ answer
is_empty-answer xs n answer len said = is_empty-length xs ∙ ap (λ (m : ℕ). eqb m 0) len ∙ sym said

pub is_empty-nothing : {X : Type 0} (xs : List X) → is_empty xs ≡ true → xs ≡ []
is_empty-nothing [] none = refl
is_empty-nothing (x ∷ xs) none = absurd (let wrong : false ≡ true = none in cc)
