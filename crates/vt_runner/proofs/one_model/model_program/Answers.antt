use Rattle.std.proofs.Common.{◌∙◌, ap, length, map, rules, subst, sym}
use Rattle.std.specs.Fn.{FnReturnsAt}
use denote.Exit.{unseen}
use denote.Param.Send.{Quiet-if}
use Rattle.vt_options.specs.promise.Line.{given_by}
use Rattle.vt_options.specs.promise.Own.{AreWithin, Models, only, own_app}
use Rattle.vt_tasks.specs.promise.Models.{any_handlers}
use Rattle.vt_tasks.specs.promise.Refusals.{TellsRefusalOf}
use Rattle.vt_tasks.specs.inside.Programs.{IsTaskOf}
use Rattle.vt_tasks.proofs.ModelsLemmas.{task_given}
use Rattle.vt_runner.specs.promise.OneModel.{MakesBy}
use Rattle.vt_runner.proofs.OneModelLemmas.{values_are, within_are}
use Rattle.vt_tasks.proofs.ProgramLemmas.{carried, EndsAs, ends_as, untouched, unrun}
use Rattle.vt_runner.proofs.one_model.model_program.Given.{Over}
use Rattle.vt_runner.proofs.one_model.model_program.Goals as goal

pub models_program-requires-clause-callable : goal.models_program-requires-clause-callable
models_program-requires-clause-callable g c =
    let words = map g.S.AsStr.text c.args.words.now in
    let name = c.args.texts.now.name.now in
    let own = c.args.own.now in
    λ host memory chosen task watcher input output asked.
    let is = subst (λ (m : Models). IsTaskOf name m words chosen.now task.now) (c.table_of-table.ensures.table ∙ ap only c.only_model-model.ensures) asked in
    let given = task_given name (only own) words task.now chosen.now is.asked in
    ((is.counted, λ values same. c.requires.callable values (ap length same ∙ values_are (given_by (own_app name own) words) own _ _ given) (subst (AreWithin own) (sym same) (within_are (given_by (own_app name own) words) own _ _ given))), (record { owned = c.type_bounds.send-M-State.owned; leaving = λ k. Quiet-if _ unseen unseen (λ x w. tt) (λ x w. tt) }, record { owned = c.type_bounds.send-M-Payload.owned; leaving = c.type_bounds.send-M-Payload.leaving }, record { owned = c.type_bounds.send-M-Kept.owned; leaving = c.type_bounds.send-M-Kept.leaving }, record { shared = c.type_bounds.sync-H.shared }, record { shared = c.type_bounds.sync-M.shared }, record { shared = c.type_bounds.sync-W.shared }))

-- the status says what was done, with these models
abbrev Ended : (g : Over) → goal.After-models_program g → Models → Type 0
Ended g c models =
    EndsAs (λ model. any_handlers (g.M.Model.handlers model)) (MakesBy (λ values made. FnReturnsAt g.F.Fn c.args.make values made)) c.args.texts.now.name.now models (map g.S.AsStr.text c.args.words.now)
    (g.R.Read.remaining c.args.streams.now.input) (g.R.Read.remaining c.models_program.new.reader) (g.O.Write.contents c.args.streams.now.output) (g.O.Write.contents c.models_program.new.out)
    c.models_program.result (λ fault. TellsRefusalOf c.args.texts.now.name.now fault (g.E.Write.contents c.args.streams.now.errors) (g.E.Write.contents c.models_program.new.err))

ended : (g : Over) (c : goal.After-models_program g) → Ended g c (only c.args.own.now)
ended g c =
    subst (Ended g c) (c.table_of-table.ensures.table ∙ ap only c.only_model-model.ensures)
    (ends_as _ _ _ _ _ _ _ _ _ _ _ _ c.models_program.ensures.done c.models_program.ensures.refused c.models_program.ensures.read
    (λ chosen task answer h. carried (λ model. any_handlers (g.M.Model.handlers model)) (MakesBy (λ values made. FnReturnsAt g.F.Fn c.args.make values made)) g.R.Read.remaining g.O.Write.contents h (λ at_rt at_alloc at_chosen at_task at_watch at_reader at_out given left_reader left_out met. search rules)))

pub returns-clause-done : goal.returns-clause-done
returns-clause-done g c = (ended g c).done

pub returns-clause-refused : goal.returns-clause-refused
returns-clause-refused g c = (ended g c).refused

pub returns-clause-untouched : goal.returns-clause-untouched
returns-clause-untouched g c = untouched _ _ _ _ _ _ _ _ _ (ended g c)

pub returns-clause-unrun : goal.returns-clause-unrun
returns-clause-unrun g c = unrun _ _ _ _ _ _ _ _ _ (ended g c)

pub returns-clause-read : goal.returns-clause-read
returns-clause-read g c = (ended g c).read
