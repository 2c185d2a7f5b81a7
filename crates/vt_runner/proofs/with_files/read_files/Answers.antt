use Rattle.std.proofs.Common.{◌+◌, subst, sym, take}
use Rattle.std.proofs.lemmas.List.{take_all}
use Rattle.vt_runner.specs.inside.WithFiles.{MayHaveAll}
use Rattle.vt_runner.proofs.WithFilesLemmas.{one_more, unread_here}
use Rattle.vt_runner.proofs.with_files.read_files.Goals as goal

pub loop-choice-preserved : goal.loop-choice-preserved
loop-choice-preserved g c =
    let told = g.D.Files.told c.args.opened.now in
    let choices = c.args.choices.now in
    let l = c.loop-choice in
    subst (λ items. MayHaveAll told (take (l.choice-index + 1) choices) items) (sym c.in-Ok-push.ensures.items)
    (one_more told choices l.choice-index _ c.loop-choice-test.true l.files.items c.in-Ok.bytes c.in-Ok.ensures.ok l.invariant)

pub returns-in-Err-clause-err : goal.returns-in-Err-clause-err
returns-in-Err-clause-err g c =
    unread_here (g.D.Files.told c.args.opened.now) c.args.choices.now c.loop-choice.choice-index _ c.loop-choice-test.true c.in-Err.refused c.in-Err.ensures.err

pub returns-clause-ok : goal.returns-clause-ok
returns-clause-ok g c = subst (λ l. MayHaveAll (g.D.Files.told c.args.opened.now) l c.loop-choice.files.items) (take_all c.loop-choice.choice-index c.args.choices.now c.loop-choice-test.false) c.loop-choice.invariant
