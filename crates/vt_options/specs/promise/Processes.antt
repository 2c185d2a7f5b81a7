-- The number of processes that a model fixes.
use Rattle.std.specs.Prelude.{◌≡◌, ◌==◌, ℕ, Bool, true, false, Option, Some, None}
use Rattle.vt_key.specs.declared.limits.TheConstants.{MAX_PROCESSES}
use Rattle.vt_model.specs.declared.settings.Config.{Config}
use Rattle.vt_model.specs.promise.Settings.{is_between}
use Rattle.vt_options.specs.declared.processes.Unsettled.{Unsettled}
use Rattle.vt_options.specs.declared.processes.Unsettled.TheVariants.{Count, Lps}

-- a number may be one of processes
abbrev pub is_count : ℕ → Bool
is_count n = is_between 1 MAX_PROCESSES n

-- the number that is fixed is that which the words give, if they give one
abbrev pub agrees : ℕ → Option ℕ → Bool
agrees n None = true
agrees n (Some given) = given == n

-- the config but for its number of processes
pub record HasProcesses (n : ℕ) (config settled : Config) : Type 0 where
  pub lps : settled.lps ≡ n
  pub workers : settled.workers ≡ config.workers
  pub end : settled.end ≡ config.end
  pub seed : settled.seed ≡ config.seed

-- the config with which a model is run that fixes this number, or none
abbrev pub Settles : Option ℕ → Option ℕ → Config → Config → Type 0
Settles None given config settled = settled ≡ config
Settles (Some n) given config settled = (is_count n ≡ true) × (agrees n given ≡ true) × HasProcesses n config settled

-- why there is none: the number can't be one of processes, or the words give another one
abbrev pub IsUnsettled : Option ℕ → Option ℕ → Unsettled → Type 0
IsUnsettled (Some n) given Count = is_count n ≡ false
IsUnsettled (Some n) given (Lps fixed) = (fixed ≡ n) × (is_count n ≡ true) × (agrees n given ≡ false)
IsUnsettled _ given _ = ⊥
