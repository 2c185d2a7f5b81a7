use Rattle.std.proofs.Common.{true, [], ◌∷◌, ◌++◌, ◌≡◌, ◌∙◌, sym, length, arith, rules, ◌<◌, false}
use Rattle.vt_step_text.specs.promise.StepText.{is_passed_over, numbered}
use Rattle.vt_step_text.proofs.StepTextLemmas.{passed, read, bad, ended, unended}
use Rattle.vt_step_text.proofs.reading.read_steps.Goals as goal
use Rattle.vt_step_text.proofs.reading.read_steps.Goals.{then-not-is_passed_over+in-Some-step_of_line+in-Ok, else-not-is_passed_over}

pub returns-in_default-step_of_line-clause-err : goal.returns-in_default-step_of_line-clause-err
returns-in_default-step_of_line-clause-err c =
    let l = c.lines in
    let first = c.in-Some in
    let says : is_passed_over first.first.now ≡ false = search rules in
    sym l.invariant.said
    ∙ bad c.args.lps c.args.workers l.steps.items l.line l.rest.now first.first.now first.after.now first.ensures.parts says (c.in_default-step_of_line.ensures)

pub lines-preserved : goal.lines-preserved
lines-preserved c =
    let l = c.lines in
    let first = c.in-Some in record {
      counted = omega (arith, first.ensures.shorter);
      said = elim c.if-not-is_passed_over.branch [
        | then-not-is_passed_over+in-Some-step_of_line+in-Ok w ↦
            let says : is_passed_over first.first.now ≡ false = search rules in
            let pushed : c.if-not-is_passed_over.steps.items ≡ l.steps.items ++ numbered l.line w.in-Some-step_of_line.step ∷ [] = search rules in
            rw pushed (read c.args.lps c.args.workers l.steps.items l.line l.rest.now first.first.now first.after.now w.in-Some-step_of_line.step first.ensures.parts says w.in-Some-step_of_line.ensures ∙ l.invariant.said)
        | else-not-is_passed_over w ↦
            let says : is_passed_over first.first.now ≡ true = search rules in
            rw w.steps-is (passed c.args.lps c.args.workers l.steps.items l.line l.rest.now first.first.now first.after.now first.ensures.parts says ∙ l.invariant.said)
      ];
    }

pub returns-then-is_empty-clause-ok : goal.returns-then-is_empty-clause-ok
returns-then-is_empty-clause-ok c =
    let l = c.lines in
    let nothing : length l.rest.now ≡ 0 = search rules in
    sym l.invariant.said ∙ ended c.args.lps c.args.workers l.steps.items l.line l.rest.now c.in_default.ensures.parts nothing

pub returns-else-is_empty-clause-err : goal.returns-else-is_empty-clause-err
returns-else-is_empty-clause-err c =
    let l = c.lines in
    let more : 0 < length l.rest.now = search rules in
    sym l.invariant.said ∙ unended c.args.lps c.args.workers l.steps.items l.line l.rest.now c.in_default.ensures.parts more
