-- What the calls of a world answer, by the steps of the definitions.
use Rattle.std.specs.Prelude.{◌≡◌, ℕ, ◌≤◌, [], ◌∷◌}
use Rattle.vt_model.specs.promise.Simulation.{Simulation}
use Rattle.vt_steps.specs.declared.step.Step.{Step}
use Rattle.vt_steps.specs.promise.World.{World}
use Rattle.vt_steps.specs.promise.Next.{next}
use Rattle.vt_world.specs.promise.Calls.{refusals, AreWithinLimits}

module _ {S P : Type 0} (sim : Simulation S P) where
  -- a world goes on by a step, lawful or not, within its limits, and its answer is so many refusals: none or one
  pub record IsAnsweredBy (step : Step) (old new : World P) (more : ℕ) : Type 0 where
    pub goes : new ≡ (next sim old step).world
    pub within : AreWithinLimits sim old (step ∷ [])
    pub counted : more ≡ refusals ((next sim old step).answer ∷ [])
    pub one : more ≤ 1
