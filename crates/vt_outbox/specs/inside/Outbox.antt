-- What contracts see of an outbox, and what it keeps in memory.
use Rattle.std.specs.Prelude.{◌≡◌, ℕ, ◌%◌, ◌^◌, List, length, Some, slice_get}
use Rattle.std.specs.List.{filter}
use Rattle.vt_steps.specs.promise.PartSteps.{is_for}
use Rattle.vt_key.specs.declared.letter.Letter.{Letter}
use Rattle.vt_model.specs.declared.settings.Config.{Config}

-- what a contract sees of a worker's outbox: its letters in the order in which they came, and the config by whose workers they are
-- sorted
pub record HeldOutbox (P : Type 0) : Type 0 where
  pub config : Config
  pub letters : List (Letter P)

-- these lists have the letters for the processes of each worker, in their order, and there are so many letters in all, modulo 2^64
pub record IsSorted {P : Type 0} (config : Config) (lists : List (List (Letter P))) (count : ℕ) (letters : List (Letter P)) : Type 0 where
  pub all_there : length lists ≡ config.workers
  pub sorted : (v : ℕ) (list : List (Letter P)) → slice_get lists v ≡ Some list → list ≡ filter (is_for config.workers v) letters
  pub counted : count ≡ length letters % 2 ^ 64
