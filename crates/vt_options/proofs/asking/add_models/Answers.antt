use Rattle.vt_options.proofs.ModelLemmas.{added_more}
use Rattle.vt_options.proofs.asking.add_models.Goals as goal

pub loop-model-preserved : goal.loop-model-preserved
loop-model-preserved c =
    let l = c.loop-model in
    added_more c.args.models.now l.model-index _ c.loop-model-test.true _ _ _ l.invariant c.in_ok-add_own.ensures.options
