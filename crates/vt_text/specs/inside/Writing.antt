-- What a writer was given of a text.
use Rattle.std.specs.Prelude.{◌≡◌, ◌+◌, ◌<◌, ℕ, List, ◌++◌, length, Option}
use Rattle.std.specs.Io.KnownBytes.{Appends}

-- the text was written, but for its end, which is held
pub record AppendsAllButHeld (old new : Option (List ℕ)) (held text : List ℕ) : Type 0 where
  pub sent : List ℕ
  pub whole : text ≡ sent ++ held
  pub appends : Appends old new sent

-- a beginning of the text was written, and the rest of it, which isn't empty, was not. What is held is a part of the text, in
-- which that beginning ends
pub record AppendsIntoHeld (old new : Option (List ℕ)) (held text : List ℕ) : Type 0 where
  pub before : List ℕ
  pub begun : List ℕ
  pub unsent : List ℕ
  pub behind : List ℕ
  pub holds : held ≡ begun ++ unsent
  pub whole : text ≡ before ++ (held ++ behind)
  pub short : 0 < length unsent + length behind
  pub appends : Appends old new (before ++ begun)
