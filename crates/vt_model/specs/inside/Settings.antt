-- Which settings a run may have.
use Rattle.std.specs.Prelude.{ℕ, List, Option, Some, None, if◌then◌else◌, codes}
use Rattle.vt_key.specs.declared.limits.TheConstants.{MAX_PROCESSES, MAX_WORKERS, MAX_END}
use Rattle.vt_model.specs.promise.Settings.{is_between}

-- the name of the first setting that is out of its range
abbrev pub first_bad_setting : ℕ → ℕ → ℕ → Option (List ℕ)
first_bad_setting lps workers end =
    if is_between 1 MAX_PROCESSES lps then
    (if is_between 1 MAX_WORKERS workers then
    (if is_between 1 MAX_END end then None
    else Some (codes "end"))
    else Some (codes "workers"))
    else Some (codes "lps")
