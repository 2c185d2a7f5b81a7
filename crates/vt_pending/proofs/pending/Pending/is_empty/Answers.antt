use Rattle.std.proofs.Common.{sym, ◌∙◌}
use Rattle.vt_pending.proofs.Lists.{listed-empty}
use Rattle.vt_pending.proofs.pending.Pending.is_empty.Goals as goal

pub returns : goal.returns
returns g c =
    let same = listed-empty c.self.inside.lists _ c.self.invariant.0.listed in
    ((λ e. sym c.self.view_is ∙ same.0 (c.is_empty.ensures.0 e)), (λ e. c.is_empty.ensures.1 (same.1 (c.self.view_is ∙ e))))
