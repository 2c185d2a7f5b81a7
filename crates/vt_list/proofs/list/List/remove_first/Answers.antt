use Rattle.std.proofs.Common.{◌≡◌, find, ap, sym, ◌∙◌}
use Rattle.std.specs.Option.{option_map}
use Rattle.vt_key.specs.promise.Queues.{without_first}
use Rattle.vt_list.proofs.Firsts.{taken-first}
use Rattle.vt_list.proofs.list.List.remove_first.Given.{Over}
use Rattle.vt_list.proofs.list.List.remove_first.Goals.{After-put}
use Rattle.vt_list.proofs.list.List.remove_first.Goals as goal

-- the item that was found, and the others
removed : (g : Over) (c : After-put g)
    → (option_map (λ n. n.value.item) c.take_first-found.result.0 ≡ find (g.P.Predicate.passes c.args.test.now) c.args.self.now) × (c.put.new.self ≡ without_first (g.P.Predicate.passes c.args.test.now) c.args.self.now)
removed g c =
    let test = g.P.Predicate.passes c.args.test.now in let parts = c.split_at_first-before in let off = c.take_first-found in let all = c.take.ensures.0 ∙ c.self.view_is in
    let found = taken-first test (λ n. n.value.item) c.take.result parts.result.0 parts.result.1 off.result.1 off.result.0 parts.ensures.before parts.ensures.from off.ensures in
    (found.0 ∙ ap (find test) all, c.put.ensures ∙ c.join.ensures ∙ found.1 ∙ ap (without_first test) all)

pub returns-in_err-node-clause-item : goal.returns-in_err-node-clause-item
returns-in_err-node-clause-item g c =
    c.from_residual.ensures ∙ ap (option_map (λ n. n.value.item)) (sym c.in_err-node.was) ∙ (removed g (goal.at.returns-in_err-node-clause-item g c).After-put).0

pub returns-in_err-node-clause-others : goal.returns-in_err-node-clause-others
returns-in_err-node-clause-others g c = (removed g (goal.at.returns-in_err-node-clause-others g c).After-put).1

pub returns-clause-item : goal.returns-clause-item
returns-clause-item g c = ap (option_map (λ n. n.value.item)) (sym c.in_ok-node.was) ∙ (removed g (goal.at.returns-clause-item g c).After-put).0

pub returns-clause-others : goal.returns-clause-others
returns-clause-others g c = (removed g (goal.at.returns-clause-others g c).After-put).1
