-- Which options the model may have.
use Rattle.std.specs.Prelude.{ℕ, List, Option, Some, None, if◌then◌else◌, codes}
use Rattle.vt_key.specs.declared.limits.TheConstants.{MAX_PROCESSES}
use Rattle.vt_model.specs.promise.Settings.{is_between}
use Rattle.vt_traffic.specs.declared.grid.TheConstants.{MAX_CARS, MAX_GREEN, MAX_TRAVEL, MAX_TURNING}

-- the name of the first option that is out of its range
abbrev pub first_bad_option : ℕ → ℕ → ℕ → ℕ → ℕ → Option (List ℕ)
first_bad_option columns cars green travel turning =
    if is_between 1 MAX_PROCESSES columns then
    (if is_between 0 MAX_CARS cars then
    (if is_between 1 MAX_GREEN green then
    (if is_between 1 MAX_TRAVEL travel then
    (if is_between 0 MAX_TURNING turning then None
    else Some (codes "turning"))
    else Some (codes "travel"))
    else Some (codes "green"))
    else Some (codes "cars"))
    else Some (codes "columns")
