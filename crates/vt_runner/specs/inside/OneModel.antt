-- A program of one model: what its words ask for, and what it writes.
use Rattle.std.specs.Prelude.{◌≡◌, ◌⊎◌, ℕ, List, Option, Some, codes}
use Rattle.std.specs.Io.KnownBytes.{Keeps}
use Rattle.clap.specs.Words.{Text}
use Rattle.vt_key.specs.declared.fault.Fault.{Fault}
use Rattle.vt_key.specs.declared.fault.Fault.TheVariants.{Memory}
use Rattle.vt_key.specs.promise.Faults.{option_named}

-- a program has refused so before it knew what its words ask for: memory was refused, they aren't text, or the
-- name of an option is taken. Nothing was read, and nothing was written
pub record IsRefusedUnasked (taken_name : Option Text) (fault : Fault) (remaining left old new : Option (List ℕ)) : Type 0 where
  pub why : (fault ≡ Memory) ⊎ (option_named fault ≡ Some (codes "command-line")) ⊎ ((taken : Text) × (taken_name ≡ Some taken) × (option_named fault ≡ Some taken))
  pub unread : Keeps remaining left
  pub kept : Keeps old new
