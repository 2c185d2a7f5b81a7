-- The guards that never fail, and the whole sentence.
use Rattle.std.proofs.Common.{ℕ, List}
use Rattle.vt_model.specs.promise.Histories.{IsLawful}
use Rattle.vt_model.specs.promise.Simulation.{Simulation}
use Rattle.vt_steps.specs.declared.step.Step.{Step}
use Rattle.vt_steps.specs.promise.Claims.{IsTimeWarpRight}
use Rattle.vt_steps.specs.inside.Claims.{DoGuardsPass}
use Rattle.vt_steps.specs.promise.Next.{reached}
use Rattle.vt_steps.proofs.time.Floors.{reached-times}
use Rattle.vt_steps.proofs.steps.LetterGuards.{accepts-done, homes-done}
use Rattle.vt_steps.proofs.book.ReachedBooks.{closed-takes_nothing, closed-whole, reached-accounted, reached-falls}
use Rattle.vt_steps.proofs.book.Records.{floors-right, records-right}
use Rattle.vt_steps.proofs.steps.TimeGuards.{commit-done, report-taken}

module _ {S P : Type 0} (sim : Simulation S P) (lawful : IsLawful sim) where
  -- the guards that never fail
  pub guards-pass : (serial : ℕ) (steps : List Step) → DoGuardsPass sim (reached sim serial steps)
  guards-pass serial steps = record {
    homes = λ w part letter at found. homes-done sim lawful serial steps w part at letter found;
    accepts = λ w i part mail at there. accepts-done sim lawful serial steps w part at i mail there;
    reports = report-taken sim (reached sim serial steps) (reached-times sim lawful serial steps);
    commits = commit-done sim (reached sim serial steps) (reached-times sim lawful serial steps);
  }

  -- the headline
  pub headline : IsTimeWarpRight sim
  headline serial steps =
      let world = reached sim serial steps in
      let known = reached-accounted sim lawful serial steps in
      record {
        floors = floors-right sim lawful world known;
        records = records-right sim lawful world known;
        later = reached-falls sim lawful serial steps;
        closed = closed-whole sim lawful serial steps;
        stays = λ more shut. closed-takes_nothing sim world more shut;
      }
