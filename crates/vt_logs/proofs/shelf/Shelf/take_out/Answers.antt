use Rattle.std.proofs.Common.{◌+◌, sym, ap}
use Rattle.vt_logs.proofs.PresentLemmas.{none-filter}
use Rattle.vt_logs.proofs.shelf.Shelf.take_out.Goals as goal

pub drop_at-requires : goal.drop_at-requires
drop_at-requires g c =
    let x = c.in-Some.ensures in
    (x.0, x.1, ap (λ n. 1 + n) x.2.sent)

pub returns-in_default : goal.returns-in_default
returns-in_default g c = sym (none-filter _ _ c.in_default.ensures)
