-- What a machine is.
use Rattle.std.specs.Prelude.{ℕ, List}

-- a machine with a state of `N` bytes: the address of its next instruction, its registers, its state and its stack
pub record Machine (N : ℕ) : Type 0 where
  pub pc : ℕ
  pub registers : List ℕ
  pub state : List ℕ
  pub stack : List ℕ
