use Rattle.vt_places.proofs.Releases.{leaves-tried}
use Rattle.vt_places.proofs.ReachLemmas.{reaches-tried}
use Rattle.vt_places.proofs.station.Station.release_visit.Goals as goal

pub store-requires-clause-allowed : goal.store-requires-clause-allowed
store-requires-clause-allowed g c κs within lawful near =
    let key = c.args.self.now.table.shared.key in
    let h = c.requires.held in
    let v = c.args.visit.now in
    leaves-tried (g.M.Model.handlers key.model.value) key.config lawful c.args.self.now.table.shared.table_id.slots c.args.seat.now.id c.args.cell c.args.word c.args.seat.now.me h.0 h.1 v.before.value v.left.value v.step v.answer near c.requires.free h.3 c.requires.marks.0 c.requires.marks.1 h.2 h.4 c.requires.kernel

pub returns-clause-ready : goal.returns-clause-ready
returns-clause-ready g c =
    let key = c.args.self.now.table.shared.key in
    let v = c.args.visit.now in
    reaches-tried (g.M.Model.handlers key.model.value) key.config c.args.seat.now.me.0 c.store.new.seat.me.0 v.before.value c.requires.kernel v.left.value v.step v.answer _ c.store.ensures.told.2.1 c.requires.held.4.unchanged
