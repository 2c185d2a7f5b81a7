-- The theorem on histories: in each reached world the copies are right, the ranks rise, and the histories are right.
use Rattle.std.proofs.Common.{ℕ, List}
use Rattle.vt_model.specs.promise.Histories.{IsLawful}
use Rattle.vt_model.specs.promise.Simulation.{Simulation}
use Rattle.vt_steps.specs.declared.step.Step.{Step}
use Rattle.vt_steps.specs.inside.Claims.{Histories}
use Rattle.vt_steps.specs.promise.Next.{reached}
use Rattle.vt_steps.proofs.letters.Stamps.{copies_are_right}
use Rattle.vt_steps.proofs.history.QuietHistories.{histories_are_right, reached-sound}
use Rattle.vt_steps.proofs.letters.Ranks.{ranks_rise, reached-ranks}

module _ {S P : Type 0} (sim : Simulation S P) (lawful : IsLawful sim) (serial : ℕ) where
  -- all three of a reached world
  pub histories : (steps : List Step) → Histories sim serial (reached sim serial steps)
  histories steps = record {
    copies = λ stamp. copies_are_right sim serial stamp steps;
    ranks = ranks_rise sim lawful serial steps;
    histories = histories_are_right sim lawful serial (reached sim serial steps) (reached-sound sim serial steps) (reached-ranks sim lawful serial steps);
  }
