-- The work of a crew of workers.
use Rattle.std.specs.Prelude.{◌≡◌, ◌⊎◌, ◌<◌, List, []}
use Rattle.vt_key.specs.declared.fault.Fault.{Fault}
use Rattle.vt_key.specs.declared.fault.Fault.TheVariants.{Busy, TurnsSpent}
use Rattle.vt_model.specs.declared.settings.Config.{Config}
use Rattle.vt_model.specs.declared.rows.Record.{Record}
use Rattle.vt_station.specs.promise.Turns.{IsLasting}

-- why a run stops before its end: memory was refused, a count would pass its limit, or all turns were made; or another worker's
-- place had claimed the book when its records were asked for, and there are none
abbrev pub IsStop : Config → Fault → List Record → Type 0
IsStop config fault records = IsLasting fault ⊎ (fault ≡ TurnsSpent) ⊎ ((fault ≡ Busy) × (1 < config.workers) × (records ≡ []))
