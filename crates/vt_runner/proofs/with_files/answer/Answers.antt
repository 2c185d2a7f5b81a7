use Rattle.std.proofs.Common.{◌≡◌, ◌∙◌, List, Result, ap, length, map, subst, sym}
use Rattle.std.specs.Prelude.{⊤}
use Rattle.vt_options.specs.declared.asking.Request.{Request}
use Rattle.vt_options.specs.declared.own.OwnOption.{OwnOption}
use Rattle.vt_options.specs.inside.Asked.{IsAsked}
use Rattle.vt_options.specs.inside.Own.{models_of}
use Rattle.vt_options.specs.inside.Requests.{IsRefusedByOf}
use Rattle.vt_options.specs.promise.Own.{AreWithin, Models, line_for}
use Rattle.vt_tasks.proofs.ModelsLemmas.{task_counted}
use Rattle.vt_runner.specs.inside.WithFiles.{AnswersAt, AnswersWords, own_models}
use Rattle.vt_runner.specs.declared.with_files.Refused.{Refused}
use Rattle.vt_runner.proofs.WithFilesLemmas.{files_given, help_answered, task_answered, values_given, within_given, words_answered}
use Rattle.vt_runner.proofs.with_files.answer.Given.{Over}
use Rattle.vt_runner.proofs.with_files.answer.Goals as goal
use Rattle.vt_runner.proofs.with_files.answer.Goals.{After-table_of-table}

-- the table is that of the one model
models_are : (g : Over) (c : After-table_of-table g) → models_of c.table_of-table.result ≡ own_models c.args.own.now c.args.files.now
models_are g c = c.table_of-table.ensures.table ∙ ap (λ (own : List OwnOption). own_models own c.args.files.now) c.only_model-model.ensures

-- so a request to it is one to the model
asked : (g : Over) (c : After-table_of-table g) (r : Request) → let name = c.args.texts.now.name.now in let words = map g.S.AsStr.text c.args.words.now in
    IsAsked name (models_of c.table_of-table.result) words r → IsAsked name (own_models c.args.own.now c.args.files.now) words r
asked g c r = subst (λ (m : Models). IsAsked c.args.texts.now.name.now m (map g.S.AsStr.text c.args.words.now) r) (models_are g c)

pub returns-in-Ok-Help : goal.returns-in-Ok-Help
returns-in-Ok-Help g c =
    let told = g.D.Files.told c.args.opened.now in
    let words = map g.S.AsStr.text c.args.words.now in
    let name = c.args.texts.now.name.now in
    let own = c.args.own.now in
    let files = c.args.files.now in
    let remaining = g.R.Read.remaining c.args.input.now in
    let old = g.O.Write.contents c.args.output.now in
    let new = g.O.Write.contents c.write_bytes.new.writer in
    subst (λ (answer : Result ⊤ Refused). AnswersWords g.M.Model.handlers told (λ values files answer. AnswersAt g.F.Fn c.args.make.now values files answer) name own files words remaining remaining old new answer) (sym c.plain.ensures)
    (help_answered g.M.Model.handlers told (λ values files answer. AnswersAt g.F.Fn c.args.make.now values files answer) name own files words remaining remaining old new c.write_bytes.result c.as_bytes.result.now
    (subst (λ (r : Request). IsAsked name (own_models own files) words r) c.in-Ok-Help.field-0-is (asked g (goal.at.returns-in-Ok-Help g c).After-table_of-table _ c.in-Ok-Help.ensures.ok)) c.write_bytes.ensures.ok c.write_bytes.ensures.err c.write_bytes.ensures.fault)

pub returns-in-Err : goal.returns-in-Err
returns-in-Err g c =
    let remaining = g.R.Read.remaining c.args.input.now in
    let old = g.O.Write.contents c.args.output.now in
    words_answered g.M.Model.handlers (g.D.Files.told c.args.opened.now) (λ values files answer. AnswersAt g.F.Fn c.args.make.now values files answer) c.args.texts.now.name.now c.args.own.now c.args.files.now (map g.S.AsStr.text c.args.words.now) remaining remaining old old c.in-Err.fault
    (subst (λ (m : Models). IsRefusedByOf (line_for c.args.texts.now.name.now m) (map g.S.AsStr.text c.args.words.now) c.in-Err.fault) (models_are g (goal.at.returns-in-Err g c).After-table_of-table) c.in-Err.ensures.err)

pub carry-requires-clause-counted : goal.carry-requires-clause-counted
carry-requires-clause-counted g c κs within =
    let words = map g.S.AsStr.text c.args.words.now in
    let name = c.args.texts.now.name.now in
    let models = own_models c.args.own.now c.args.files.now in
    task_counted name models words c.in-Ok-Task.task c.in-Ok-Task.chosen (subst (λ (r : Request). IsAsked name models words r) c.in-Ok-Task.field-0-is (asked g (goal.at.carry-requires-clause-counted g c).After-table_of-table _ c.in-Ok-Task.ensures.ok))

pub carry-requires-clause-callable : goal.carry-requires-clause-callable
carry-requires-clause-callable g c κs within = λ values bytes same count.
    let words = map g.S.AsStr.text c.args.words.now in
    let name = c.args.texts.now.name.now in
    let own = c.args.own.now in
    let files = c.args.files.now in
    let task = c.in-Ok-Task.task in
    let chosen = c.in-Ok-Task.chosen in
    let asked = subst (λ (r : Request). IsAsked name (own_models own files) words r) c.in-Ok-Task.field-0-is (asked g (goal.at.carry-requires-clause-callable g c).After-table_of-table _ c.in-Ok-Task.ensures.ok) in
    c.requires.callable values bytes (ap length same ∙ values_given name own files words task chosen asked) (subst (AreWithin own) (sym same) (within_given name own files words task chosen asked)) (count ∙ files_given name own files words task chosen asked)

pub returns : goal.returns
returns g c =
    let told = g.D.Files.told c.args.opened.now in
    let words = map g.S.AsStr.text c.args.words.now in
    let name = c.args.texts.now.name.now in
    let own = c.args.own.now in
    let files = c.args.files.now in
    let asked = subst (λ (r : Request). IsAsked name (own_models own files) words r) c.in-Ok-Task.field-0-is (asked g (goal.at.returns g c).After-table_of-table _ c.in-Ok-Task.ensures.ok) in
    task_answered g.M.Model.handlers told (λ values files answer. AnswersAt g.F.Fn c.args.make.now values files answer) name own files words (g.R.Read.remaining c.args.input.now) (g.R.Read.remaining c.carry.new.input) (g.O.Write.contents c.args.output.now) (g.O.Write.contents c.carry.new.output)
    c.in-Ok-Task.task c.in-Ok-Task.chosen asked c.carry.result c.carry.ensures
