use Rattle.std.proofs.Common.{find, None, ap, ◌∙◌}
use Rattle.vt_pending.specs.inside.Buckets.{least_from}
use Rattle.vt_pending.proofs.Searching.{listed-find}
use Rattle.vt_pending.proofs.pending.Pending.find.Goals as goal

pub returns : goal.returns
returns g c =
    let test = g.T.Predicate.passes c.args.test.now in let kept = c.self.invariant.0 in
    c.find_least.ensures ∙ ap (least_from test None) c.iter.ensures ∙ listed-find test None c.self.inside.lists _ kept.rising kept.listed ∙ ap (find test) c.self.view_is
