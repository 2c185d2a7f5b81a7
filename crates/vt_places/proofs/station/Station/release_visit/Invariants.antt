use Rattle.std.proofs.Common.{MatchResult}
use Rattle.vt_places.specs.inside.Calls.{Visited, Unvisited}
use Rattle.vt_places.proofs.Releases.{GaveBack}
use Rattle.vt_places.proofs.station.Station.release_visit.Given as goal

abbrev pub ghosts-store : goal.ghosts-store
ghosts-store g a =
    let key = a.self.now.table.shared.key in
    let v = a._told.now in
    let m = a.seat.now.me in
    record { after = λ n after. GaveBack m after × MatchResult v.answer (λ reply. Visited (g.M.Model.handlers key.model.value) key.config m.0 v.before.value v.step reply v.left.value m.0.seen after.0) (λ _. Unvisited m.0 m.0.seen after.0) }
