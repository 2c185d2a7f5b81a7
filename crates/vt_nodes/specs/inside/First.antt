-- The first item that passes a test: what stands before it, and from it on.
use Rattle.std.specs.Prelude.{Bool, false, not, Option, Some, None, List, [], ◌∷◌, if◌then◌else◌}

module _ {X : Type 0} (test : X → Bool) where
  -- the items before the first that passes, or all where none does
  abbrev pub before_first : List X → List X
  before_first [] = []
  before_first (x ∷ xs) = if test x then [] else x ∷ before_first xs

  -- the items from the first that passes on, or none where none does
  abbrev pub from_first : List X → List X
  from_first [] = []
  from_first (x ∷ xs) = if test x then x ∷ xs else from_first xs

  -- whether there is an item, and it fails
  abbrev pub item_fails : Option X → Bool
  item_fails None = false
  item_fails (Some x) = not (test x)
