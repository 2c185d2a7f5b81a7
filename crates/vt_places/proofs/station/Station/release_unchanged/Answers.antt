use Rattle.vt_places.specs.inside.Slots.{home_word}
use Rattle.vt_places.proofs.Releases.{home-not_claimed, home-not_empty, leaves-unvisited}
use Rattle.vt_places.proofs.station.Station.release_unchanged.Goals as goal

pub store-requires-clause-allowed : goal.store-requires-clause-allowed
store-requires-clause-allowed g c κs within lawful near =
    let key = c.args.self.now.table.shared.key in
    let h = c.requires.held in
    leaves-unvisited (g.M.Model.handlers key.model.value) key.config lawful c.args.self.now.table.shared.table_id.slots c.args.seat.now.id c.args.cell home_word c.args.seat.now.me c.args.seen h.0 near home-not_claimed (λ e. home-not_empty e) h.1 h.2
