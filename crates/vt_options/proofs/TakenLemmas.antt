-- Names among others, one after the other.
use Rattle.std.proofs.Common.{◌≡◌, ◌<◌, ◌+◌, ◌∙◌, ℕ, List, [], ◌∷◌, ap, ap₂, length, take, get_or, map, true, false, arith}
use Rattle.std.specs.Prelude.{◌||◌}
use Rattle.std.specs.Str.{bytes_eq}
use Rattle.std.proofs.lemmas.List.{take_more, length-map, map-append, get_or-map}
use Rattle.std.proofs.lemmas.List.Folds.{list_any_at, list_any-append}
use Rattle.clap.specs.Words.{Text}
use Rattle.vt_options.specs.inside.Taken.{is_among}

module _ {X : Type 0} (name_of : X → Text) (name : Text) (xs : List X) (i : ℕ) (d : X) (h : i < length xs) where
  -- one of them is the name
  pub among_here : bytes_eq (name_of (get_or xs i d)) name ≡ true → is_among (map name_of xs) name ≡ true
  among_here is =
      let short : i < length (map name_of xs) = omega (arith, h, length-map xs name_of) in
      list_any_at (λ other. bytes_eq other name) (map name_of xs) i (name_of d) short (ap (λ other. bytes_eq other name) (get_or-map name_of xs i d (name_of d) h) ∙ is)

  -- none is so far, nor the next
  pub among_later : bytes_eq (name_of (get_or xs i d)) name ≡ false → is_among (map name_of (take i xs)) name ≡ false → is_among (map name_of (take (i + 1) xs)) name ≡ false
  among_later is none =
      ap (λ l. is_among (map name_of l) name) (take_more xs i d h)
      ∙ ap (λ names. is_among names name) (map-append name_of (take i xs) (get_or xs i d ∷ []))
      ∙ list_any-append (λ other. bytes_eq other name) (map name_of (take i xs)) (name_of (get_or xs i d) ∷ [])
      ∙ ap₂ (λ a b. a || (b || false)) none is
