use Rattle.std.proofs.Common.{◌<◌, sym, subst}
use Rattle.vt_logs.proofs.ShelfLemmas.{current-known}
use Rattle.vt_logs.proofs.shelf.Shelf.make_room.Goals as goal

pub index-requires : goal.index-requires
index-requires g c =
    let i = c.self.inside in
    subst (λ n. i.current < n) (sym i.sheets.ok.0) (current-known i.sheets.items i.full.items i.current i.spare.items i.needs c.self.invariant)
