use Rattle.std.specs.Option.{unwrap_or}
use Rattle.vt_places.specs.inside.Calls.{Unvisited}
use Rattle.vt_places.proofs.Releases.{GaveBack}
use Rattle.vt_places.proofs.station.Station.release_unchanged.Given as goal

abbrev pub ghosts-store : goal.ghosts-store
ghosts-store g a = record { after = λ n m. GaveBack a.seat.now.me m × Unvisited a.seat.now.me.0 (unwrap_or a._told.now a.seat.now.me.0.seen) m.0 }
