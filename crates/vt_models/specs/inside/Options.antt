-- Which options the models may have.
use Rattle.std.specs.Prelude.{ℕ, List, Option, Some, None, if◌then◌else◌, codes}
use Rattle.vt_model.specs.promise.Settings.{is_between}
use Rattle.vt_models.specs.declared.hop.TheConstants.{MAX_HOPS, MAX_STRIDE, MAX_DELAY, MAX_RISE}
use Rattle.vt_models.specs.declared.phold.TheConstants.{MAX_POPULATION, MAX_REMOTE, MAX_LOOKAHEAD, MAX_SPAN}
use Rattle.vt_models.specs.declared.stations.TheConstants.{MAX_JOBS, MAX_SERVICE, MAX_TRAVEL}

-- the name of the first option of `Hop` that is out of its range
abbrev pub first_bad_hop_option : ℕ → ℕ → ℕ → ℕ → Option (List ℕ)
first_bad_hop_option hops stride delay rise =
    if is_between 0 MAX_HOPS hops then
    (if is_between 0 MAX_STRIDE stride then
    (if is_between 1 MAX_DELAY delay then
    (if is_between 0 MAX_RISE rise then None
    else Some (codes "rise"))
    else Some (codes "delay"))
    else Some (codes "stride"))
    else Some (codes "hops")

-- the name of the first option of `Phold` that is out of its range
abbrev pub first_bad_phold_option : ℕ → ℕ → ℕ → ℕ → Option (List ℕ)
first_bad_phold_option population remote lookahead span =
    if is_between 0 MAX_POPULATION population then
    (if is_between 0 MAX_REMOTE remote then
    (if is_between 1 MAX_LOOKAHEAD lookahead then
    (if is_between 1 MAX_SPAN span then None
    else Some (codes "span"))
    else Some (codes "lookahead"))
    else Some (codes "remote"))
    else Some (codes "population")

-- the name of the first option of `Stations` that is out of its range
abbrev pub first_bad_stations_option : ℕ → ℕ → ℕ → Option (List ℕ)
first_bad_stations_option jobs service travel =
    if is_between 0 MAX_JOBS jobs then
    (if is_between 1 MAX_SERVICE service then
    (if is_between 1 MAX_TRAVEL travel then None
    else Some (codes "travel"))
    else Some (codes "service"))
    else Some (codes "jobs")
