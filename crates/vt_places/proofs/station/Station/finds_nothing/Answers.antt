use Rattle.std.proofs.Common.{◌<◌, arith, sym}
use Rattle.vt_steps.specs.declared.step.Step.TheVariants.{Fetch}
use Rattle.vt_steps.specs.declared.step.Reply.TheVariants.{Done}
use Rattle.vt_places.proofs.Cells.{inbox-name}
use Rattle.vt_places.proofs.ActLemmas.{fetches-nothing, nothing-passes}
use Rattle.vt_places.proofs.Releases.{leaves-looked}
use Rattle.vt_places.proofs.station.Station.finds_nothing.Goals as goal

pub load-requires-clause-allowed : goal.load-requires-clause-allowed
load-requires-clause-allowed g c κs within lawful =
    let key = c.args.self.now.table.shared.key in
    let H = g.M.Model.handlers key.model.value in
    let m = c.args.seat.now.me in
    let w = c.args.worker in
    let k = c.args.kernel.now in
    let counted = c.args.self.now.counted in
    let near : w < key.config.workers = (let n = c.requires.known in omega arith) in
    leaves-looked H key.config lawful c.args.self.now.table.shared.table_id.slots c.args.seat.now.id w m k k (Fetch w) Done near c.requires.rests (sym c.requires.worker) (sym (inbox-name key.config.workers w near)) (fetches-nothing H key.config w k c.requires.accepted) (nothing-passes H key.config w k c.requires.counted) c.requires.kernel
