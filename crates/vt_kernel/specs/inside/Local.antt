-- Undo and Cancel at one process of a part.
use Rattle.std.specs.Prelude.{◌≡◌, ℕ, ◌⊎◌, Bool, true, false, List, length, None}
use Rattle.std.specs.List.{filter, AllByRecursion}
use Rattle.vt_key.specs.declared.order.Stamp.{Stamp}
use Rattle.vt_model.specs.promise.Simulation.{Simulation}
use Rattle.vt_steps.specs.declared.step.Step.{Step}
use Rattle.vt_steps.specs.declared.step.Step.TheVariants.{Undo, Cancel}
use Rattle.vt_steps.specs.promise.World.{Part}
use Rattle.vt_steps.specs.inside.Cells.{local_step}

module _ {S P : Type 0} (sim : Simulation S P) (w : ℕ) where
  -- at process p there is nothing to undo and nothing to cancel
  pub record IsSettled (p : ℕ) (part : Part P) : Type 0 where
    pub no_undo : local_step sim w (Undo p) part ≡ None
    pub no_cancel : (stamp : Stamp) → local_step sim w (Cancel p stamp) part ≡ None

-- the steps undo and cancel at process p alone
abbrev pub AreSettling : ℕ → List Step → Type 0
AreSettling p = AllByRecursion (λ step. (step ≡ Undo p) ⊎ ((stamp : Stamp) × (step ≡ Cancel p stamp)))

abbrev pub is_undo : Step → Bool
is_undo (Undo p) = true
is_undo _ = false

-- how many of these steps are Undo
abbrev pub count_undos : List Step → ℕ
count_undos steps = length (filter is_undo steps)
