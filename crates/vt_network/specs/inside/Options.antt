-- Which options the model may have.
use Rattle.std.specs.Prelude.{ℕ, List, Option, Some, None, if◌then◌else◌, codes}
use Rattle.vt_key.specs.declared.limits.TheConstants.{MAX_PROCESSES}
use Rattle.vt_model.specs.promise.Settings.{is_between}
use Rattle.vt_network.specs.declared.network.TheConstants.{MAX_TICKS}

-- the name of the first option that is out of its range
abbrev pub first_bad_option : ℕ → ℕ → ℕ → ℕ → Option (List ℕ)
first_bad_option columns gap service link =
    if is_between 1 MAX_PROCESSES columns then
    (if is_between 1 MAX_TICKS gap then
    (if is_between 1 MAX_TICKS service then
    (if is_between 1 MAX_TICKS link then None
    else Some (codes "link"))
    else Some (codes "service"))
    else Some (codes "gap"))
    else Some (codes "columns")
