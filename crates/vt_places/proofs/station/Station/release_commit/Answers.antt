use Rattle.vt_places.proofs.CommitRelease.{leaves-committed}
use Rattle.vt_places.proofs.station.Station.release_commit.Goals as goal

pub store-requires-clause-allowed : goal.store-requires-clause-allowed
store-requires-clause-allowed g c κs within lawful near =
    let key = c.args.self.now.table.shared.key in
    let h = c.requires.held in
    let lent = c.args.lent.now in
    leaves-committed (g.M.Model.handlers key.model.value) key.config lawful c.args.self.now.table.shared.table_id.slots c.args.seat.now.id c.args.cell c.args.seat.now.me lent.worker lent.seen h.0 h.1 lent.kernel.value near c.requires.worker c.requires.book h.2 h.3 h.4 c.requires.kernel
