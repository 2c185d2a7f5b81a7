use Rattle.std.proofs.Common.{inr, map, refl, subst}
use Rattle.vt_options.specs.declared.asking.Request.{Request}
use Rattle.vt_options.specs.inside.Asked.{IsAsked}
use Rattle.vt_options.specs.inside.Own.{models_of}
use Rattle.vt_tasks.specs.inside.Programs.{CallAnswers, IsTaskAnswered}
use Rattle.vt_tasks.proofs.ModelsLemmas.{task_of}
use Rattle.vt_tasks.proofs.ProgramLemmas.{answer_done, answer_ends}
use Rattle.vt_tasks.proofs.program.answer.Given.{Over}
use Rattle.vt_tasks.proofs.program.answer.Goals.{After-into}
use Rattle.vt_tasks.proofs.program.answer.Goals as goal

pub carry_out-requires : goal.carry_out-requires
carry_out-requires g c =
    let words = map g.S.AsStr.text c.args.words.now in
    let name = c.args.texts.now.name.now in
    let models = models_of c.args.table.now in
    c.requires.callable _ _ _ _ _ _ _ (task_of name models words c.in-Task.task c.in-Task.chosen (subst (λ (r : Request). IsAsked name models words r) c.in-Task.is c.in_ok-text.ensures.ok))

-- the words ask for the task with the choice, and the call answered it
answered : (g : Over) (c : After-into g)
    → IsTaskAnswered c.args.texts.now.name.now (models_of c.args.table.now) (map g.S.AsStr.text c.args.words.now) (CallAnswers g.F.FnOnce g.A.Into.converts c.args.carry_out c.args.reader.now c.carry_out.new.arg7 c.args.out.now c.carry_out.new.arg8) c.into.result
answered g c = record {
  chosen = c.in-Task.chosen;
  task = c.in-Task.task;
  asked = subst (λ (r : Request). IsAsked c.args.texts.now.name.now (models_of c.args.table.now) (map g.S.AsStr.text c.args.words.now) r) c.in-Task.is c.in_ok-text.ensures.ok;
  answered = record { at_rt = _; at_alloc = _; at_chosen = _; at_task = _; at_watch = _; at_reader = _; at_out = _; shows = (refl, refl, refl, refl); given = c.carry_out.result; left_reader = _; left_out = _; met = c.carry_out.ensures; leaves = (refl, refl); converted = c.into.ensures };
}

pub returns-in-Task-clause-ok : goal.returns-in-Task-clause-ok
returns-in-Task-clause-ok g c = answer_done _ _ _ _ _ _ c.into.result (answered g (goal.at.returns-in-Task-clause-ok g c).After-into)

pub returns-in-Task-clause-err : goal.returns-in-Task-clause-err
returns-in-Task-clause-err g c = answer_ends _ _ _ _ _ _ c.into.result (answered g (goal.at.returns-in-Task-clause-err g c).After-into)

pub returns-in-Task-clause-read : goal.returns-in-Task-clause-read
returns-in-Task-clause-read g c = inr (c.into.result, answered g (goal.at.returns-in-Task-clause-read g c).After-into)
