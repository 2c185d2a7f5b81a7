use Rattle.std.proofs.Common.{◌+◌, inr, map, refl, subst, sym, take}
use Rattle.vt_options.specs.promise.Programs.{SetNumbers}
use Rattle.vt_options.proofs.ProgramLemmas.{bad_here, good_more, now_of, sets_more}
use Rattle.vt_options.proofs.programs.assignments_of.Goals as goal

pub returns-in_default-clause-err : goal.returns-in_default-clause-err
returns-in_default-clause-err c = inr (refl, sym (bad_here c.args.texts.now c.loop-text.text-index _ c.loop-text-test.true c.loop-text.invariant.good (sym c.in_default.ensures)))

pub loop-text-preserved : goal.loop-text-preserved
loop-text-preserved c =
    let texts = c.args.texts.now in
    let l = c.loop-text in
    let is = sym c.in-Some.ensures in record {
      numbers = subst (SetNumbers (map now_of (take (l.text-index + 1) texts))) (sym c.in-Ok.ensures.items) (sets_more texts l.text-index _ c.loop-text-test.true c.in-Some.set l.sets.items is l.invariant.numbers);
      good = good_more texts l.text-index _ c.loop-text-test.true l.invariant.good c.in-Some.set is;
    }
