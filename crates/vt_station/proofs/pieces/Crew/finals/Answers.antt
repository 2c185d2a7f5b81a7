use Rattle.std.proofs.Common.{◌≡◌, List, subst, sym}
use Rattle.std.specs.Prelude.{IfOk}
use Rattle.vt_model.specs.promise.Simulation.{simulation_of}
use Rattle.vt_station.specs.inside.Crew.{AtCrew, AtJob, AllAt, AreInOrder, wanted_finals}
use Rattle.vt_station.proofs.pieces.Crew.finals.Goals as goal

pub finals_of-requires-clause-told : goal.finals_of-requires-clause-told
finals_of-requires-clause-told g c κs within = subst (AllAt c.self.inside.model.now c.self.inside.config) (sym c.as_slice-jobs.ensures.value) c.self.invariant.told

pub finals_of-requires-clause-order : goal.finals_of-requires-clause-order
finals_of-requires-clause-order g c κs within = subst (λ (jobs : List (AtJob g.row.M.Denot)). AreInOrder jobs) (sym c.as_slice-jobs.ensures.value) c.self.invariant.order

pub returns-clause-values : goal.returns-clause-values
returns-clause-values g c =
    subst (λ (crew : AtCrew g.row.M.Denot). IfOk c.finals_of.result (λ v. v.items ≡ wanted_finals crew.wanted (simulation_of (g.M.Model.handlers crew.model) crew.config))) c.self.view_is c.finals_of.ensures.finals
