use Rattle.std.proofs.Common.{◌++◌, [], ◌∷◌, ap, ◌∙◌}
use Rattle.vt_key.specs.promise.Queues.{insert_ordered}
use Rattle.vt_key.specs.promise.Order.{rank_before}
use Rattle.vt_list.proofs.Firsts.{insert-between}
use Rattle.vt_list.proofs.list.List.insert_ordered.Goals as goal

pub returns : goal.returns
returns g c =
    let parts = c.split_at_first-before in
    c.put.ensures ∙ c.join-2.ensures
    ∙ (λ i. (c.join.ensures ∙ (λ j. parts.ensures.before j ++ (c.of.ensures ∙ ap (λ x. x ∷ []) c.into_node.ensures) j)) i ++ parts.ensures.from i)
    ∙ insert-between g.T.Ranked.rank_of c.args.parcel c.rank.result c.take.result (c.rank.ensures ∙ ap g.T.Ranked.rank_of c.get.ensures)
    ∙ ap (insert_ordered (λ a b. rank_before (g.T.Ranked.rank_of a) (g.T.Ranked.rank_of b)) c.args.parcel) (c.take.ensures.0 ∙ c.self.view_is)
