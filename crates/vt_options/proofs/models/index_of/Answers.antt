use Rattle.std.proofs.Common.{◌∙◌, sym}
use Rattle.vt_options.proofs.ModelLemmas.{index_here, index_later}
use Rattle.vt_options.proofs.models.index_of.Goals as goal

pub returns-then-eq : goal.returns-then-eq
returns-then-eq c = sym (index_here c.args.name.now c.args.models.now c.loop-index.index _ c.loop-index-test.true c.loop-index.invariant (sym c.eq.ensures ∙ c.if-eq.true))

pub loop-index-preserved : goal.loop-index-preserved
loop-index-preserved c = index_later c.args.name.now c.args.models.now c.loop-index.index _ c.loop-index-test.true c.loop-index.invariant (sym c.eq.ensures ∙ c.if-eq.false)
