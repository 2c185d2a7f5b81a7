-- Facts over plain variables that answers cite, since a search among all that is known at a place is slow.
use Rattle.std.proofs.Common.{◌≡◌, ℕ, suc, ◌+◌, ◌<◌, ◌≤◌, ◌↔◌, ◌∙◌, Bool, true, false, IsTrue, List, [], ◌∷◌, length, refl, sym, arith, Vec, Global, vec_len}

pub at_least : {a b : ℕ} → a ≡ b → b ≤ a
at_least e = omega (arith, e)

pub none_plus : (n : ℕ) → 0 + n ≡ n
none_plus n = omega arith

pub one_plus : (k n : ℕ) → suc (k + n) ≡ suc k + n
one_plus k n = omega arith

pub below_none : {A : Type 0} {n : ℕ} → n < 0 → A
below_none l = absurd (omega (arith, l))

pub both_ways : {a b : ℕ} → b ≤ a → a ≤ b → a ≡ b
both_ways h k = omega (arith, h, k)

pub true_false : {A : Type 0} → true ≡ false → A
true_false e = absurd (cc)

-- a vector's items are as many as its length says
pub items_count : {X : Type 0} (v : Vec X Global) {n : ℕ} → vec_len v ≡ n → length v.items ≡ n
items_count v e = sym v.ok.0 ∙ e

-- an answer that tells whether there is an item
pub none_told : {X : Type 0} (xs : List X) → xs ≡ [] → IsTrue false ↔ (0 < length xs)
none_told [] e = ((λ h. absurd (cc)), λ l. absurd (omega (arith, l)))
none_told (x ∷ xs) e = absurd (cc)

pub some_told : {X : Type 0} (xs : List X) → 0 < length xs → IsTrue true ↔ (0 < length xs)
some_told xs l = ((λ h. l), λ k. refl)

pub told_none : {X : Type 0} (xs : List X) (more : Bool) → more ≡ false → IsTrue more ↔ (0 < length xs) → xs ≡ []
told_none [] more e told = refl
told_none (x ∷ xs) more e told = let some : 0 < length (x ∷ xs) = omega arith in true_false (sym (told.1 some) ∙ e)
