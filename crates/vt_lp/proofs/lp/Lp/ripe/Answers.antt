use Rattle.std.proofs.Common.{◌≡◌, ◌++◌, ◌∙◌, List, ap, sym, subst}
use Rattle.std.specs.Prelude.{IfOk}
use Rattle.vt_model.specs.declared.rows.Row.{Row}
use Rattle.vt_lp.specs.inside.Held.{HeldProcess}
use Rattle.vt_lp.specs.inside.Ripe.{rows_of_ripe}
use Rattle.vt_lp.proofs.RipeLemmas.{rows-ripe}
use Rattle.vt_lp.proofs.lp.Lp.ripe.Goals as goal

pub returns-else-is_err-clause-rows : goal.returns-else-is_err-clause-rows
returns-else-is_err-clause-rows g c handlers h s =
    let held = c.args.self.now in
    let rows = ap (rows_of_ripe c.args.floor) c.events.ensures ∙ ap (λ (v : HeldProcess _ _ _). rows_of_ripe c.args.floor v.past) c.self.view_is ∙ sym (rows-ripe handlers c.args.floor held h s) in
    subst (λ (all : List Row). IfOk c.append_ripe-appended.result (λ done. c.append_ripe-appended.new.rows.items ≡ c.args.rows.now.items ++ all)) rows c.append_ripe-appended.ensures.rows
