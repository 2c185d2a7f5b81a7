-- What is known of the bytes of files.
use Rattle.std.specs.Prelude.{◌≡◌, ◌<◌, ◌≤◌, ℕ, List, length, Option, IfSome}
use Rattle.clap.specs.Words.{Text}

-- which bytes a file has, by its name, where they are known
abbrev pub Told : Type 0
Told = List ℕ → Option (List ℕ)

-- a file may have these bytes: those that are known, if any are, and no more than are read
pub record MayHave (told : Told) (name : Text) (most : ℕ) (bytes : List ℕ) : Type 0 where
  pub known : IfSome (told name) (λ known. bytes ≡ known)
  pub within : length bytes ≤ most

-- a file may be refused: its bytes aren't known, or there are more than are read
abbrev pub MayFail : Told → Text → ℕ → Type 0
MayFail told name most = IfSome (told name) (λ known. most < length known)
