use Rattle.std.proofs.Common.{◌≡◌, ◌∙◌, List, IfOk, ap, subst}
use Rattle.vt_model.specs.declared.rows.Row.{Row}
use Rattle.vt_pool.specs.inside.Forgotten.{rows_of_placed}
use Rattle.vt_pool.specs.inside.Share.{HeldPool}
use Rattle.vt_pool.proofs.CommitLemmas.{rows-placed}
use Rattle.vt_pool.proofs.pool.Pool.rows.Goals as goal

pub returns-clause-rows : goal.returns-clause-rows
returns-clause-rows g c =
    let i = c.self.inside in
    subst (λ (rs : List Row). IfOk c.rows.result (λ v. v.items ≡ rs))
    (rows-placed i.worker c.args.floor i.log.events ∙ ap (λ (v : HeldPool _ _ _). rows_of_placed c.args.floor v.stock.past) c.self.view_is) c.rows.ensures.rows
