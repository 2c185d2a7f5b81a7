-- What a writer was given of a text.
use Rattle.std.specs.Prelude.{◌≡◌, ◌+◌, ◌<◌, ℕ, List, ◌++◌, length, Option}
use Rattle.std.specs.Io.KnownBytes.{Appends}

-- a beginning of the text was written, and the rest of it, which isn't empty, was not
pub record AppendsBeginning (old new : Option (List ℕ)) (text : List ℕ) : Type 0 where
  pub sent : List ℕ
  pub unsent : List ℕ
  pub whole : text ≡ sent ++ unsent
  pub short : 0 < length unsent
  pub appends : Appends old new sent
