-- How entries know where the one before them of their process lies.
use Rattle.std.specs.Prelude.{◌≡◌, ℕ, ◌<◌, List, [], ◌∷◌, ◌++◌, Bool, length, map, drop, slice_index_or}
use Rattle.std.specs.List.{filter}
use Rattle.vt_logs.specs.declared.slot.Position.{Position}
use Rattle.vt_logs.specs.inside.Events.{is_of}
use Rattle.vt_logs.specs.inside.Sheets.{Noted}

-- any position
abbrev pub anywhere : Position
anywhere = record { sheet = 0; index = 0 }

module _ {P K : Type 0} where
  -- whether an event is one of a process
  abbrev pub is_placed_of : ℕ → Position × Noted P K → Bool
  is_placed_of p x = is_of p x.1.event

  -- the first of these lies anywhere; the position of each is what the next one knows, and that of the last one is this
  abbrev pub IsChain : Position → List (Position × Noted P K) → Type 0
  IsChain last xs = drop 1 (map (λ x. x.1.before) xs ++ last ∷ []) ≡ map (λ x. x.0) xs

  -- each process has the position of its last event, from which its others are found
  abbrev pub AreChained : List Position → List (Position × Noted P K) → Type 0
  AreChained lasts placed = (p : ℕ) → p < length lasts → IsChain (slice_index_or lasts p anywhere) (filter (is_placed_of p) placed)
