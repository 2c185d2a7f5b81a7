-- What stands in a list, and lists in rising order.
use Rattle.std.specs.Prelude.{◌≡◌, ◌⊎◌, List, [], ◌∷◌}
use Rattle.std.specs.List.{AllByRecursion}

-- x stands in the list
abbrev pub Among : {X : Type 0} → X → List X → Type 0
Among x [] = ⊥
Among x (y ∷ ys) = (x ≡ y) ⊎ Among x ys

-- each element is before all that follow it
abbrev pub IsRisingBy : {X : Type 0} → (X → X → Type 0) → List X → Type 0
IsRisingBy Before [] = Unit {0}
IsRisingBy Before (x ∷ xs) = AllByRecursion (Before x) xs × IsRisingBy Before xs
