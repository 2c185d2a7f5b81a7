use Rattle.std.proofs.Common.{map}
use Rattle.vt_runner.specs.inside.WithFiles.{AnswersAt, RefusesTask}
use Rattle.vt_runner.proofs.WithFilesLemmas.{bad_kept, bad_undone, read_so, refused_kept, refused_undone, tells_some, told_so}
use Rattle.vt_runner.proofs.with_files.model_program_with_files.Goals as goal

pub returns-in-Ok-clause-untouched : goal.returns-in-Ok-clause-untouched
returns-in-Ok-clause-untouched g c = λ bad refused no_help. absurd (refused_undone g.M.Model.handlers (g.D.Files.told c.args.opened.now) (λ values files answer. AnswersAt g.F.Fn c.args.make values files answer) c.args.texts.now.name.now c.args.own.now c.args.files.now (map g.S.AsStr.text c.args.words.now) (g.R.Read.remaining c.args.streams.now.input) (g.R.Read.remaining c.answer.new.input) (g.O.Write.contents c.args.streams.now.output) (g.O.Write.contents c.answer.new.output) bad refused no_help c.in-Ok.ensures.0)

pub returns-in-Ok-clause-unrun : goal.returns-in-Ok-clause-unrun
returns-in-Ok-clause-unrun g c = λ bad. absurd (bad_undone g.M.Model.handlers (g.D.Files.told c.args.opened.now) (λ values files answer. AnswersAt g.F.Fn c.args.make values files answer) c.args.texts.now.name.now c.args.own.now c.args.files.now (map g.S.AsStr.text c.args.words.now) (g.R.Read.remaining c.args.streams.now.input) (g.R.Read.remaining c.answer.new.input) (g.O.Write.contents c.args.streams.now.output) (g.O.Write.contents c.answer.new.output) bad c.in-Ok.ensures.0)

pub returns-clause-refused : goal.returns-clause-refused
returns-clause-refused g c = λ refused. told_so g.M.Model.handlers (g.D.Files.told c.args.opened.now) (λ values files answer. AnswersAt g.F.Fn c.args.make values files answer) c.args.texts.now.name.now c.args.own.now c.args.files.now (map g.S.AsStr.text c.args.words.now) (g.R.Read.remaining c.args.streams.now.input) (g.R.Read.remaining c.answer.new.input) (g.O.Write.contents c.args.streams.now.output) (g.O.Write.contents c.answer.new.output) c.tell_refused.result (g.E.Write.contents c.args.streams.now.errors) (g.E.Write.contents c.tell_refused.new.errors) c.in-Err.refused c.in-Err.ensures c.tell_refused.ensures

pub returns-clause-untouched : goal.returns-clause-untouched
returns-clause-untouched g c = λ bad refused no_help. (tells_some c.args.texts.now.name.now c.in-Err.refused c.tell_refused.result _ _ c.tell_refused.ensures, refused_kept g.M.Model.handlers (g.D.Files.told c.args.opened.now) (λ values files answer. AnswersAt g.F.Fn c.args.make values files answer) c.args.texts.now.name.now c.args.own.now c.args.files.now (map g.S.AsStr.text c.args.words.now) (g.R.Read.remaining c.args.streams.now.input) (g.R.Read.remaining c.answer.new.input) (g.O.Write.contents c.args.streams.now.output) (g.O.Write.contents c.answer.new.output) c.tell_refused.result (g.E.Write.contents c.args.streams.now.errors) (g.E.Write.contents c.tell_refused.new.errors) bad refused no_help (told_so g.M.Model.handlers (g.D.Files.told c.args.opened.now) (λ values files answer. AnswersAt g.F.Fn c.args.make values files answer) c.args.texts.now.name.now c.args.own.now c.args.files.now (map g.S.AsStr.text c.args.words.now) (g.R.Read.remaining c.args.streams.now.input) (g.R.Read.remaining c.answer.new.input) (g.O.Write.contents c.args.streams.now.output) (g.O.Write.contents c.answer.new.output) c.tell_refused.result (g.E.Write.contents c.args.streams.now.errors) (g.E.Write.contents c.tell_refused.new.errors) c.in-Err.refused c.in-Err.ensures c.tell_refused.ensures))

pub returns-clause-unrun : goal.returns-clause-unrun
returns-clause-unrun g c = λ bad. (tells_some c.args.texts.now.name.now c.in-Err.refused c.tell_refused.result _ _ c.tell_refused.ensures, bad_kept g.M.Model.handlers (g.D.Files.told c.args.opened.now) (λ values files answer. AnswersAt g.F.Fn c.args.make values files answer) c.args.texts.now.name.now c.args.own.now c.args.files.now (map g.S.AsStr.text c.args.words.now) (g.R.Read.remaining c.args.streams.now.input) (g.R.Read.remaining c.answer.new.input) (g.O.Write.contents c.args.streams.now.output) (g.O.Write.contents c.answer.new.output) c.tell_refused.result (g.E.Write.contents c.args.streams.now.errors) (g.E.Write.contents c.tell_refused.new.errors) bad (told_so g.M.Model.handlers (g.D.Files.told c.args.opened.now) (λ values files answer. AnswersAt g.F.Fn c.args.make values files answer) c.args.texts.now.name.now c.args.own.now c.args.files.now (map g.S.AsStr.text c.args.words.now) (g.R.Read.remaining c.args.streams.now.input) (g.R.Read.remaining c.answer.new.input) (g.O.Write.contents c.args.streams.now.output) (g.O.Write.contents c.answer.new.output) c.tell_refused.result (g.E.Write.contents c.args.streams.now.errors) (g.E.Write.contents c.tell_refused.new.errors) c.in-Err.refused c.in-Err.ensures c.tell_refused.ensures))

pub returns-clause-read : goal.returns-clause-read
returns-clause-read g c = read_so g.M.Model.handlers (g.D.Files.told c.args.opened.now) (λ values files answer. AnswersAt g.F.Fn c.args.make values files answer) c.args.texts.now.name.now c.args.own.now c.args.files.now (map g.S.AsStr.text c.args.words.now) (g.R.Read.remaining c.args.streams.now.input) (g.R.Read.remaining c.answer.new.input) (g.O.Write.contents c.args.streams.now.output) (g.O.Write.contents c.answer.new.output) c.in-Err.refused c.in-Err.ensures
