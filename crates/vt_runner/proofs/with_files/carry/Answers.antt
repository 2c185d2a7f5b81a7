use Rattle.std.proofs.Common.{Result, Ok, Err, subst, sym}
use Rattle.std.specs.Prelude.{⊤}
use Rattle.vt_model.specs.declared.settings.Config.{Config}
use Rattle.vt_tasks.specs.inside.Tasks.{BeginsWithinLimit}
use Rattle.vt_tasks.proofs.TaskLemmas.{carried_out, counted_with}
use Rattle.vt_runner.specs.inside.WithFiles.{AnswersAt, CarriesWithFiles, IsRefusedWith, MakesWithFiles, meaning_with}
use Rattle.vt_runner.specs.declared.with_files.Refused.{Refused}
use Rattle.vt_runner.proofs.WithFilesLemmas.{plain_carries, refused_carries}
use Rattle.vt_runner.proofs.with_files.carry.Goals as goal

pub carry_out-requires-clause-counted : goal.carry_out-requires-clause-counted
carry_out-requires-clause-counted g c κs within =
    subst BeginsWithinLimit (sym c.with_config.ensures) (counted_with c.in-Ok.made.1 c.args.task.now c.requires.counted)

pub returns : goal.returns
returns g c =
    let told = g.D.Files.told c.args.opened.now in
    let made = subst (λ (k : Config). MakesWithFiles told (λ values files answer. AnswersAt g.F.Fn c.args.make.now values files answer) c.args.chosen.now k (Ok (c.in-Ok.made.0, c.in-Ok.made.1))) c.config.ensures c.in-Ok.ensures.ok in
    subst (λ (answer : Result ⊤ Refused). CarriesWithFiles g.M.Model.handlers told (λ values files answer. AnswersAt g.F.Fn c.args.make.now values files answer) c.args.chosen.now c.args.task.now
    (g.R.Read.remaining c.args.input.now) (g.R.Read.remaining c.carry_out.new.reader) (g.O.Write.contents c.args.output.now) (g.O.Write.contents c.carry_out.new.out) answer) (sym c.plain.ensures)
    (plain_carries g.M.Model.handlers told (λ values files answer. AnswersAt g.F.Fn c.args.make.now values files answer) c.args.chosen.now c.args.task.now _ _ _ _ c.carry_out.result
    (carried_out (meaning_with g.M.Model.handlers) (MakesWithFiles told (λ values files answer. AnswersAt g.F.Fn c.args.make.now values files answer)) c.args.chosen.now c.args.task.now c.in-Ok.made.0 c.in-Ok.made.1 c.with_config.result _ _ _ _ c.carry_out.result c.with_config.ensures made c.carry_out.ensures.ok c.carry_out.ensures.err c.carry_out.ensures.unread))

pub returns-in-Err : goal.returns-in-Err
returns-in-Err g c =
    let told = g.D.Files.told c.args.opened.now in
    refused_carries g.M.Model.handlers told (λ values files answer. AnswersAt g.F.Fn c.args.make.now values files answer) c.args.chosen.now c.args.task.now
    (g.R.Read.remaining c.args.input.now) (g.R.Read.remaining c.args.input.now) (g.O.Write.contents c.args.output.now) (g.O.Write.contents c.args.output.now) c.in-Err.refused
    (subst (λ (k : Config). IsRefusedWith told (λ values files answer. AnswersAt g.F.Fn c.args.make.now values files answer) c.args.chosen.now k c.in-Err.refused) c.config.ensures c.in-Err.ensures.err)
