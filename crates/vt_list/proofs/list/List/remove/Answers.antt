use Rattle.std.proofs.Common.{remove, slice_get, ap, sym, ◌∙◌}
use Rattle.std.specs.Option.{option_map}
use Rattle.vt_list.proofs.Firsts.{taken-at}
use Rattle.vt_list.proofs.list.List.remove.Goals as goal

pub returns-in_err-node-clause-item : goal.returns-in_err-node-clause-item
returns-in_err-node-clause-item g c =
    let index = c.args.index in let parts = c.split_at-before in let off = c.take_first-found in
    let found = taken-at (λ n. n.value.item) index c.take.result parts.result.0 parts.result.1 off.result.1 off.result.0 parts.ensures.parts.0 parts.ensures.parts.1 off.ensures in
    c.from_residual.ensures ∙ ap (option_map (λ n. n.value.item)) (sym c.in_err-node.was) ∙ found.0 ∙ ap (λ xs. slice_get xs index) (c.take.ensures.0 ∙ c.self.view_is)

pub returns-clause-item : goal.returns-clause-item
returns-clause-item g c =
    let index = c.args.index in let parts = c.split_at-before in let off = c.take_first-found in
    let found = taken-at (λ n. n.value.item) index c.take.result parts.result.0 parts.result.1 off.result.1 off.result.0 parts.ensures.parts.0 parts.ensures.parts.1 off.ensures in
    ap (option_map (λ n. n.value.item)) (sym c.in_ok-node.was) ∙ found.0 ∙ ap (λ xs. slice_get xs index) (c.take.ensures.0 ∙ c.self.view_is)

pub returns-clause-others : goal.returns-clause-others
returns-clause-others g c =
    let index = c.args.index in let parts = c.split_at-before in let off = c.take_first-found in
    let found = taken-at (λ n. n.value.item) index c.take.result parts.result.0 parts.result.1 off.result.1 off.result.0 parts.ensures.parts.0 parts.ensures.parts.1 off.ensures in
    c.put.ensures ∙ c.join.ensures ∙ found.1 ∙ ap (λ xs. remove xs index) (c.take.ensures.0 ∙ c.self.view_is)
