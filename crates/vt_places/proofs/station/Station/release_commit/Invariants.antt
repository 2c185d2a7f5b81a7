use Rattle.std.proofs.Common.{◌≡◌, []}
use Rattle.vt_places.specs.inside.Commits.{Commits}
use Rattle.vt_places.proofs.station.Station.release_commit.Given as goal

abbrev pub ghosts-store : goal.ghosts-store
ghosts-store g a =
    let key = a.self.now.table.shared.key in
    let lent = a._told.now in
    record { after = λ n m. (m.1 ≡ []) × Commits (g.M.Model.handlers key.model.value) key.config a.seat.now.me.0 lent.worker lent.kernel.value lent.seen m.0 }
