use Rattle.std.proofs.Common.{arith, sym, subst, ◌∙◌}
use Rattle.vt_model.specs.promise.Simulation.{simulation_of}
use Rattle.vt_places.specs.inside.Making.{Opens}
use Rattle.vt_places.proofs.Seating.{splits}
use Rattle.vt_places.proofs.Opening.{some-left, maker-after, opens-next}
use Rattle.vt_places.proofs.station.Station.seat_next.Goals as goal

pub split_seat-requires : goal.split_seat-requires
split_seat-requires g c =
    let key = c.args.self.now.table.shared.key in
    let sim = simulation_of (g.M.Model.handlers key.model.value) key.config in
    let t = c.requires.maker in
    let words = c.args.self.now.words in (
      c.requires.table,
      omega arith,
      splits sim key.config c.args.maker.now.id c.args.maker.now.me.0 (some-left sim t.0 c.args.maker.now.me t.1 t.2),
    )

pub returns-clause-made : goal.returns-clause-made
returns-clause-made g c =
    let key = c.args.self.now.table.shared.key in
    let sim = simulation_of (g.M.Model.handlers key.model.value) key.config in
    let t = c.requires.maker in
    let e = c.split_seat.ensures in (
      t.0,
      t.2,
      e.2 ∙ maker-after sim t.0 c.args.maker.now.me t.2,
      subst (Opens sim t.0) (sym e.4) (opens-next sim t.0 c.args.maker.now.me t.1 t.2),
    )
