use Rattle.std.proofs.Common.{◌∙◌}
use Rattle.std.proofs.lemmas.Result.{IfOk-weaker}
use Rattle.vt_pool.proofs.ForgetLemmas.{rows-commit}
use Rattle.vt_share.proofs.share.Share.batch.Goals as goal

pub returns-clause-rows : goal.returns-clause-rows
returns-clause-rows g c handlers part s =
    IfOk-weaker c.batch_seen.result _ _ (λ batch told. told ∙ rows-commit handlers c.args.self.now c.batch_seen.ensures.own part s) c.batch_seen.ensures.rows
