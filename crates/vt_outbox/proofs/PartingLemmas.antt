-- A list that is parted by a test.
use Rattle.std.proofs.Common.{◌≡◌, Bool, true, false, cond, List, ◌∷◌, ap}
use Rattle.std.specs.List.{filter}

module _ {X : Type 0} (test : X → Bool) (x : X) (xs : List X) where
  pub passes : test x ≡ true → filter test (x ∷ xs) ≡ x ∷ filter test xs
  passes e = ap (λ (b : Bool). cond b (x ∷ filter test xs) (filter test xs)) e

  pub fails : test x ≡ false → filter test (x ∷ xs) ≡ filter test xs
  fails e = ap (λ (b : Bool). cond b (x ∷ filter test xs) (filter test xs)) e
