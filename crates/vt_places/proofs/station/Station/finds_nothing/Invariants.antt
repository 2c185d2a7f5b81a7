use Rattle.std.proofs.Common.{◌≡◌, []}
use Rattle.vt_steps.specs.declared.step.Step.TheVariants.{Fetch}
use Rattle.vt_steps.specs.declared.step.Reply.TheVariants.{Done}
use Rattle.vt_places.specs.inside.Calls.{Visited}
use Rattle.vt_places.proofs.Keeps.{Looked}
use Rattle.vt_places.proofs.station.Station.finds_nothing.Given as goal

abbrev pub ghosts-load : goal.ghosts-load
ghosts-load g a =
    let key = a.self.now.table.shared.key in
    let k = a._told.now in
    let m = a.seat.now.me in
    record { after = λ n m'. Looked m (λ after. (after.1 ≡ []) × Visited (g.M.Model.handlers key.model.value) key.config m.0 k (Fetch a.cell) Done k m.0.seen after.0) n m' }
