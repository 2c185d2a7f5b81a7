use Rattle.std.proofs.Common.{◌∙◌, sym}
use Rattle.vt_options.proofs.TakenLemmas.{among_here, among_later}
use Rattle.vt_options.proofs.taken.has_file.Goals as goal

pub returns-then-eq : goal.returns-then-eq
returns-then-eq c = sym (among_here (λ o. o.name.now) c.args.name.now c.args.files.now c.loop-option.option-index _ c.loop-option-test.true (sym c.eq.ensures ∙ c.if-eq.true))

pub loop-option-preserved : goal.loop-option-preserved
loop-option-preserved c = among_later (λ o. o.name.now) c.args.name.now c.args.files.now c.loop-option.option-index _ c.loop-option-test.true (sym c.eq.ensures ∙ c.if-eq.false) c.loop-option.invariant
