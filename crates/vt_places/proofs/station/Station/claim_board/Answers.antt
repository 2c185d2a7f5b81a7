use Rattle.std.proofs.Common.{sym}
use Rattle.vt_model.proofs.LawLemmas.{lawful_of}
use Rattle.vt_places.proofs.CallLemmas.{took-board}
use Rattle.vt_places.proofs.station.Station.claim_board.Goals as goal

pub returns-clause-claimed : goal.returns-clause-claimed
returns-clause-claimed g c = λ is.
    (let key = c.args.self.now.table.shared.key in
    let m = key.model.value in
    took-board (c.claim.ensures.claimed is) c.requires.rests (lawful_of (g.M.Model.handlers m) key.config (g.met.M.Model.start_within m) (g.met.M.Model.forward_within m)) (sym c.args.self.now.counted))
