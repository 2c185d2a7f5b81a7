-- The options of a program, whose file takes the place of a model.
use Rattle.std.specs.Prelude.{◌≡◌, ℕ, List, slice_get, Some, None}
use Rattle.clap.specs.Words.{Text}
use Rattle.vt_options.specs.promise.Programs.{assignment_said}

-- ---- numbers that are set

-- this word is among the texts, and sets nothing
pub record SetsNothing (texts : List Text) (word : Text) : Type 0 where
  pub index : ℕ
  pub given : slice_get texts index ≡ Some word
  pub none : assignment_said word ≡ None
