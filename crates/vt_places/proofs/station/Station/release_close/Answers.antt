use Rattle.vt_places.proofs.Releases.{leaves-closed}
use Rattle.vt_places.proofs.station.Station.release_close.Goals as goal

pub store-requires-clause-allowed : goal.store-requires-clause-allowed
store-requires-clause-allowed g c κs within lawful near =
    let key = c.args.self.now.table.shared.key in
    let h = c.requires.held in
    leaves-closed (g.M.Model.handlers key.model.value) key.config lawful c.args.self.now.table.shared.table_id.slots c.args.seat.now.id c.args.cell c.args.seat.now.me c.args.seen h.0 h.1 near c.requires.book h.2 h.3 h.4
