use Rattle.std.proofs.Common.{rules, ◌∙◌, sym, subst, length, ◌<◌}
use Rattle.vt_nodes.specs.inside.Lines.{begins_with}
use Rattle.vt_nodes.proofs.Further.{IsReached, further, parted, first-fails}
use Rattle.vt_nodes.proofs.passing.pass_trails.Goals as goal

pub loop-path-preserved : goal.loop-path-preserved
loop-path-preserved g c =
    let passes = g.P.Predicate.passes c.args.test.now in let test = begins_with passes in let at = c.loop-path.path in
    let on = further test c.args.trails at (sym (first-fails passes at.1) ∙ search rules) c.loop-path.invariant in
    subst (IsReached test c.args.trails) (sym c.advance-path.ensures) on.0

pub loop-path-smaller : goal.loop-path-smaller
loop-path-smaller g c =
    let passes = g.P.Predicate.passes c.args.test.now in let at = c.loop-path.path in
    let on = further (begins_with passes) c.args.trails at (sym (first-fails passes at.1) ∙ search rules) c.loop-path.invariant in
    subst (λ p. length p.1 < length at.1) (sym c.advance-path.ensures) on.1

pub returns-clause-before : goal.returns-clause-before
returns-clause-before g c =
    let passes = g.P.Predicate.passes c.args.test.now in let at = c.loop-path.path in
    c.part.ensures.0 ∙ (parted (begins_with passes) c.args.trails at (sym (first-fails passes at.1) ∙ search rules) c.loop-path.invariant).0

pub returns-clause-from : goal.returns-clause-from
returns-clause-from g c =
    let passes = g.P.Predicate.passes c.args.test.now in let at = c.loop-path.path in
    c.part.ensures.1 ∙ (parted (begins_with passes) c.args.trails at (sym (first-fails passes at.1) ∙ search rules) c.loop-path.invariant).1
