use Rattle.std.proofs.Common.{◌≡◌, ◌≢◌, List, None, subst, refl, arith, rules}
use Rattle.std.specs.List.{list_all}
use Rattle.std.proofs.lemmas.List.{take_all}
use Rattle.std.proofs.lemmas.Result.{err_from_is_err_and}
use Rattle.clap.specs.Words.{first_value, found_of}
use Rattle.vt_key.proofs.ResultLemmas.{if_refused}
use Rattle.vt_options.specs.declared.own.ModelOptions.{ModelOptions}
use Rattle.vt_options.specs.promise.Own.{AreInRange, GiveValues, first_bad_in, has_default}
use Rattle.vt_options.specs.inside.Own.{tables_of}
use Rattle.vt_options.proofs.OwnLemmas.{all_at}
use Rattle.vt_options.proofs.ModelLemmas.{given_here, good_more, of_wanted, refused, within_here}
use Rattle.vt_options.proofs.models.model_values.Goals.{then-index-wanted, else-index-wanted}
use Rattle.vt_options.proofs.models.model_values.Goals as goal

pub returns-in_err-values-clause-err : goal.returns-in_err-values-clause-err
returns-in_err-values-clause-err c =
    let l = c.loop-index in
    let p = err_from_is_err_and c.from_residual.result c.from_residual.ensures.1 in
    rw (p.1, p.2) (refused c.args.models.now l.index _ c.loop-index-test.true (first_value (found_of c.args.matches.now)) l.invariant.good _ c.in_err-values.ensures.err)

pub loop-index-preserved : goal.loop-index-preserved
loop-index-preserved c =
    let given = first_value (found_of c.args.matches.now) in
    let models = c.args.models.now in
    let l = c.loop-index in
    let k = c.args.wanted in
    let test = c.loop-index-test.true in
    let found = c.in_ok-values.ensures in
    let good = good_more models l.index _ test given l.invariant.good found.good in
    elim c.if-index-wanted.branch [
      | then-index-wanted w ↦
          let same : l.index ≡ k = search rules in record {
            before = λ h. absurd (omega (arith, h, same));
            given = λ h. rw (w.wanted_values-is) (given_here models l.index _ test k same given c.in_ok-values.values.items found.ok);
            within = λ h. rw (w.wanted_values-is) (within_here models l.index _ test k same c.in_ok-values.values.items found.within);
            good = good;
          }
      | else-index-wanted w ↦
          let other : l.index ≢ k = search rules in record {
            before = λ h. rw (w.wanted_values-is) (l.invariant.before (omega (arith, h)));
            given = λ h. rw (w.wanted_values-is) (l.invariant.given (omega (arith, h, other)));
            within = λ h. rw (w.wanted_values-is) (l.invariant.within (omega (arith, h, other)));
            good = good;
          }
    ]

pub returns-in_err-values-clause-ok : goal.returns-in_err-values-clause-ok
returns-in_err-values-clause-ok c = if_refused _ _ c.from_residual.result c.from_residual.ensures.1

pub returns-in_err-values-clause-within : goal.returns-in_err-values-clause-within
returns-in_err-values-clause-within c = if_refused _ _ c.from_residual.result c.from_residual.ensures.1

pub returns-in_err-values-clause-good : goal.returns-in_err-values-clause-good
returns-in_err-values-clause-good c = if_refused _ _ c.from_residual.result c.from_residual.ensures.1

pub returns-clause-err : goal.returns-clause-err
returns-clause-err c = tt

pub own_options-requires : goal.own_options-requires
own_options-requires c = all_at (λ m. list_all has_default m.options.now) c.args.models.now c.loop-index.index _ c.loop-index-test.true c.requires

pub returns-clause-ok : goal.returns-clause-ok
returns-clause-ok c =
    let l = c.loop-index in
    of_wanted (GiveValues (first_value (found_of c.args.matches.now))) c.args.models.now l.index c.args.wanted l.wanted_values.items c.loop-index-test.false refl l.invariant.before l.invariant.given

pub returns-clause-within : goal.returns-clause-within
returns-clause-within c =
    let l = c.loop-index in of_wanted AreInRange c.args.models.now l.index c.args.wanted l.wanted_values.items c.loop-index-test.false (search rules) l.invariant.before l.invariant.within

pub returns-clause-good : goal.returns-clause-good
returns-clause-good c =
    let l = c.loop-index in
    subst (λ (models : List ModelOptions). first_bad_in (first_value (found_of c.args.matches.now)) (tables_of models) ≡ None) (take_all l.index c.args.models.now c.loop-index-test.false) l.invariant.good
