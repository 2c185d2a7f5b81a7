use Rattle.std.proofs.Common.{◌∙◌, sym, ap, subst}
use Rattle.std.specs.List.{sum_by}
use Rattle.vt_steps.specs.inside.Rows.{AreSameRows}
use Rattle.vt_kernel.specs.inside.Held.{HeldWorker, AreProcesses}
use Rattle.vt_pool.specs.inside.Forgotten.{rows_of_held}
use Rattle.vt_pool.proofs.ForgetLemmas.{rows-same}
use Rattle.vt_pool.proofs.ViewLemmas.{are-from}
use Rattle.vt_share.proofs.share.Share.batch_seen.Goals as goal

pub in_any_order-requires : goal.in_any_order-requires
in_any_order-requires g c =
    let i = c.self.inside in
    let pool = i.pool in
    let rows = c.in_ok-rows.ensures.rows in
    let same : AreSameRows (rows_of_held c.args.self.now.floor c.args.self.now.processes) c.in_ok-rows.rows.items =
    subst (λ (v : HeldWorker _ _ _). AreSameRows (rows_of_held v.floor v.processes) c.in_ok-rows.rows.items) c.self.view_is
    (λ f. rows-same i.floor pool.config pool.worker pool.stock c.fits.ensures.known c.fits.ensures.inside f ∙ ap (sum_by f) (sym rows)) in
    λ f. ap (sum_by f) c.requires.1.1.1.1.1 ∙ same f

pub returns-in_err-rows-clause-own : goal.returns-in_err-rows-clause-own
returns-in_err-rows-clause-own g c =
    let pool = c.self.inside.pool in
    subst (λ (v : HeldWorker _ _ _). AreProcesses v.config v.worker 0 v.processes) c.self.view_is (are-from pool.config pool.worker 0 pool.stock.triples pool.stock)

pub returns-clause-own : goal.returns-clause-own
returns-clause-own g c =
    let pool = c.self.inside.pool in
    subst (λ (v : HeldWorker _ _ _). AreProcesses v.config v.worker 0 v.processes) c.self.view_is (are-from pool.config pool.worker 0 pool.stock.triples pool.stock)
