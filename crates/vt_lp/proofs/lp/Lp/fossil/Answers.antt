use Rattle.std.proofs.Common.{sym, subst}
use Rattle.vt_lp.specs.inside.Held.{HeldProcess, StandsFor}
use Rattle.vt_lp.proofs.RipeLemmas.{inside-committed, commits}
use Rattle.vt_lp.proofs.ProcessView.{process_view}
use Rattle.vt_lp.proofs.lp.Lp.fossil.Goals as goal

pub invariant_of-self : goal.invariant_of-self
invariant_of-self g c =
    let inside = c.self.inside in
    inside-committed c.args.floor inside.config inside.lp inside.process.number inside.process.stream inside.past c.drop_ripe.new.past inside.pending inside.waiting c.drop_ripe.ensures
    c.self.invariant

pub returns-clause-committed : goal.returns-clause-committed
returns-clause-committed g c handlers h s =
    let inside = c.self.inside in
    let held = process_view inside.lp inside.config inside.process.state inside.process.number inside.process.stream inside.past inside.pending inside.waiting in
    let stands = subst (λ (v : HeldProcess _ _ _). StandsFor handlers v h) (sym c.self.view_is) s in
    commits handlers c.args.floor held h c.drop_ripe.new.past c.drop_ripe.ensures stands
