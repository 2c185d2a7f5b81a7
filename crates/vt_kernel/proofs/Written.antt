-- Lists of which one item was written.
use Rattle.std.proofs.Common.{◌≡◌, ◌∙◌, ℕ, List, Some, sym, ap, subst, slice_get, slice_set}
use Rattle.std.specs.List.{All}
use Rattle.std.proofs.lemmas.List.{set-get_or}
use Rattle.std.proofs.lemmas.Option.{slice_get_within, get_or_from_slice_get}

module _ {X : Type 0} where
  -- what is written where it stands already changes nothing
  pub put-there : (xs : List X) (i : ℕ) (x : X) → slice_get xs i ≡ Some x → slice_set xs i x ≡ xs
  put-there xs i x there = ap (slice_set xs i) (sym (get_or_from_slice_get xs i x x there)) ∙ set-get_or xs i x

  -- what all have, the one at an index has
  pub get-all : (Q : X → Type 0) (xs : List X) (i : ℕ) (x : X) → All Q xs → slice_get xs i ≡ Some x → Q x
  get-all Q xs i x all at = subst Q (get_or_from_slice_get xs i x x at) (all i x (slice_get_within xs i x at))
