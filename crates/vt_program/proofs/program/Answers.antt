use Rattle.std.proofs.Common.{codes, map, rules}
use Rattle.vt_options.specs.inside.Own.{models_of}
use Rattle.vt_command.specs.inside.Line.{given_in}
use Rattle.vt_command.specs.promise.Table.{twarp_models}
use Rattle.vt_tasks.specs.inside.Programs.{IsTaskOf}
use Rattle.vt_tasks.specs.promise.Refusals.{TellsRefusalOf}
use Rattle.vt_tasks.proofs.ModelsLemmas.{task_given}
use Rattle.vt_tasks.proofs.ProgramLemmas.{carried, EndsAs, ends_as, untouched, unrun}
use Rattle.vt_program.specs.promise.Models.{meaning_of, Makes}
use Rattle.vt_program.specs.promise.Refusals.{TellsRefusal}
use Rattle.vt_program.proofs.OutcomeLemmas.{at_twarp}
use Rattle.vt_program.proofs.program.Given.{Over}
use Rattle.vt_program.proofs.program.Goals as goal

pub models_program-requires-clause-callable : goal.models_program-requires-clause-callable
models_program-requires-clause-callable g c =
    let words = map g.S.AsStr.text c.args.words.now in
    λ host memory chosen task watcher input output is.
    let task_is = at_twarp (λ name table. IsTaskOf name table words chosen.now task.now) c.texts.ensures c.model_table.ensures.table is in
    ((task_is.counted, record { texts = given_in words; given = task_given (codes "twarp") twarp_models words task.now chosen.now task_is.asked }), (record { shared = c.type_bounds.sync-H.shared }, record { shared = c.type_bounds.sync-W.shared }))

-- the status says what was done
ended : (g : Over) (c : goal.After-models_program g)
    → EndsAs meaning_of (Makes (g.D.Files.told c.args.files.now)) (codes "twarp") twarp_models (map g.S.AsStr.text c.args.words.now) (g.R.Read.remaining c.args.reader.now) (g.R.Read.remaining c.models_program.new.reader) (g.O.Write.contents c.args.out.now) (g.O.Write.contents c.models_program.new.out)
    c.models_program.result (λ fault. TellsRefusal fault (g.E.Write.contents c.args.err.now) (g.E.Write.contents c.models_program.new.err))
ended g c =
    let words = map g.S.AsStr.text c.args.words.now in
    let name = c.texts.result.now.name.now in
    let table = models_of c.model_table.result.now in
    let input = g.R.Read.remaining c.args.reader.now in
    let left = g.R.Read.remaining c.models_program.new.reader in
    let old = g.O.Write.contents c.args.out.now in
    let new = g.O.Write.contents c.models_program.new.out in
    at_twarp (λ n t. EndsAs meaning_of (Makes (g.D.Files.told c.args.files.now)) n t words input left old new c.models_program.result (λ fault. TellsRefusalOf n fault (g.E.Write.contents c.args.err.now) (g.E.Write.contents c.models_program.new.err))) c.texts.ensures c.model_table.ensures.table
    (ends_as meaning_of (Makes (g.D.Files.told c.args.files.now)) name table words input left old new _ _ _ c.models_program.ensures.done c.models_program.ensures.refused c.models_program.ensures.read
    (λ chosen task answer h. carried meaning_of (Makes (g.D.Files.told c.args.files.now)) g.R.Read.remaining g.O.Write.contents h (λ at_rt at_alloc at_chosen at_task at_watch at_reader at_out given left_reader left_out met. search rules)))

pub returns-clause-done : goal.returns-clause-done
returns-clause-done g c = (ended g c).done

pub returns-clause-refused : goal.returns-clause-refused
returns-clause-refused g c = (ended g c).refused

pub returns-clause-untouched : goal.returns-clause-untouched
returns-clause-untouched g c = untouched _ _ _ _ _ _ _ _ _ (ended g c)

pub returns-clause-unrun : goal.returns-clause-unrun
returns-clause-unrun g c = unrun _ _ _ _ _ _ _ _ _ (ended g c)

pub returns-clause-read : goal.returns-clause-read
returns-clause-read g c = (ended g c).read
