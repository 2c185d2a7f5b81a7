-- What the calls of a world answer, by the steps of the definitions.
use Rattle.std.specs.Prelude.{◌≡◌, ℕ, ◌⊎◌, List, [], ◌∷◌, Result, Ok, Err, OnOk}
use Rattle.std.specs.List.{count_by}
use Rattle.std.specs.Result.{is_err}
use Rattle.vt_key.specs.declared.fault.Fault.{Fault}
use Rattle.vt_model.specs.declared.settings.Config.{Config}
use Rattle.vt_model.specs.promise.Simulation.{Simulation}
use Rattle.vt_steps.specs.declared.step.Step.{Step}
use Rattle.vt_steps.specs.declared.step.Step.TheVariants.{Commit, Close}
use Rattle.vt_steps.specs.declared.step.Reply.{Reply}
use Rattle.vt_steps.specs.promise.World.{World}
use Rattle.vt_steps.specs.promise.Next.{next, replied}
use Rattle.vt_kernel.specs.promise.Refusals.{PassesLimit, IsStepRefusal}

-- what a contract sees of a world: its model and config, and the world of the definitions
pub record RunWorld (M P : Type 0) : Type 0 where
  pub model : M
  pub config : Config
  pub world : World P

-- a commit or a close
abbrev pub IsOfBook : Step → Type 0
IsOfBook step = (step ≡ Close) ⊎ ((w : ℕ) × (step ≡ Commit w))

-- how many of these answers are refusals
abbrev pub refusals : List (Result Reply Fault) → ℕ
refusals answers = count_by is_err answers

module _ {S P : Type 0} (sim : Simulation S P) where
  -- what a call that does a step answers and leaves: where it is done, it was lawful and answered so, the world is the one after
  -- it, and no counter that it raises is past its limit; where it is refused, the world is as it was, and this is why
  abbrev pub IsStepOf : Step → World P → World P → Result Reply Fault → Type 0
  IsStepOf step old new (Ok reply) = (next sim old step ≡ replied new reply) × (PassesLimit sim step new → ⊥)
  IsStepOf step old new (Err fault) = (new ≡ old) × IsStepRefusal sim step old fault

  -- of these steps none that is done raises a counter past its limit
  abbrev pub AreWithinLimits : World P → List Step → Type 0
  AreWithinLimits world [] = Unit {0}
  AreWithinLimits world (step ∷ steps) =
      OnOk (next sim world step).answer (PassesLimit sim step (next sim world step).world → ⊥) × AreWithinLimits (next sim world step).world steps
