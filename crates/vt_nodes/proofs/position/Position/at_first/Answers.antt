use Rattle.std.proofs.Common.{rules, sym, ◌∙◌, subst}
use Rattle.vt_nodes.specs.inside.Linked.{items}
use Rattle.vt_nodes.proofs.Further.{IsReached, further, parted}
use Rattle.vt_nodes.proofs.position.Position.at_first.Goals as goal

pub loop-position-preserved : goal.loop-position-preserved
loop-position-preserved g c =
    let test = g.P.Predicate.passes c.args.test.now in let all = items c.args.nodes.owned in
    let at = c.loop-position.position in let inv = c.loop-position.invariant in
    let on = further test all (at.0, at.1) (search rules) inv.0 in
    (subst (IsReached test all) (sym c.advance-position.ensures.items) on.0, c.advance-position.ensures.nodes ∙ inv.1)

pub returns-clause-before : goal.returns-clause-before
returns-clause-before g c =
    let at = c.loop-position.position in
    (parted (g.P.Predicate.passes c.args.test.now) (items c.args.nodes.owned) (at.0, at.1) (search rules) c.loop-position.invariant.0).0

pub returns-clause-from : goal.returns-clause-from
returns-clause-from g c =
    let at = c.loop-position.position in
    (parted (g.P.Predicate.passes c.args.test.now) (items c.args.nodes.owned) (at.0, at.1) (search rules) c.loop-position.invariant.0).1
