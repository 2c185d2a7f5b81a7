use Rattle.std.proofs.Common.{◌≡◌, ◌+◌, List, None, subst, sym, take}
use Rattle.std.proofs.lemmas.List.{take_all}
use Rattle.std.proofs.lemmas.Result.{err_from_is_err_and}
use Rattle.clap.specs.Words.{first_value, found_of}
use Rattle.vt_options.specs.declared.own.OwnOption.{OwnOption}
use Rattle.vt_options.specs.promise.Table.{first_bad_of}
use Rattle.vt_options.specs.promise.Own.{AreWithin, GiveValues, has_default, number_table}
use Rattle.vt_key.proofs.ResultLemmas.{if_refused}
use Rattle.vt_options.proofs.OwnLemmas.{all_at, values_more, good_more, within_more, refused}
use Rattle.vt_options.proofs.own.own_options.Goals as goal

pub returns-in_err-value-clause-err : goal.returns-in_err-value-clause-err
returns-in_err-value-clause-err c =
    let given = first_value (found_of c.args.matches.now) in
    let l = c.loop-own in
    let p = err_from_is_err_and c.from_residual.result c.from_residual.ensures.1 in
    rw (p.1, p.2) (refused given c.args.table.now l.own-index _ c.loop-own-test.true c.in_err-value.field-0.0 l.invariant.good c.in_err-value.ensures.none c.in_err-value.ensures.err)

pub loop-own-preserved : goal.loop-own-preserved
loop-own-preserved c =
    let given = first_value (found_of c.args.matches.now) in
    let table = c.args.table.now in
    let l = c.loop-own in
    let v = c.in_ok-value.value in
    let items = sym c.in-Ok.ensures.items in record {
      given = subst (GiveValues given (number_table (take (l.own-index + 1) table))) items (values_more given table l.own-index _ c.loop-own-test.true v c.in_ok-value.ensures.ok l.values.items l.invariant.given);
      within = subst (AreWithin (take (l.own-index + 1) table)) items (within_more given table l.own-index _ c.loop-own-test.true v l.values.items c.in_ok-value.ensures.within l.invariant.within);
      good = good_more given table l.own-index _ c.loop-own-test.true v c.in_ok-value.ensures.ok l.invariant.good;
    }

pub returns-in_err-value-clause-ok : goal.returns-in_err-value-clause-ok
returns-in_err-value-clause-ok c = if_refused _ _ c.from_residual.result c.from_residual.ensures.1

pub returns-in_err-value-clause-within : goal.returns-in_err-value-clause-within
returns-in_err-value-clause-within c = if_refused _ _ c.from_residual.result c.from_residual.ensures.1

pub returns-in_err-value-clause-good : goal.returns-in_err-value-clause-good
returns-in_err-value-clause-good c = if_refused _ _ c.from_residual.result c.from_residual.ensures.1

pub returns-clause-err : goal.returns-clause-err
returns-clause-err c = tt

pub own_option-requires : goal.own_option-requires
own_option-requires c = all_at has_default c.args.table.now c.loop-own.own-index _ c.loop-own-test.true c.requires

-- at the end the whole table was read
all_read : (c : goal.After-loop-own) → take c.loop-own.own-index c.args.table.now ≡ c.args.table.now
all_read c = take_all c.loop-own.own-index c.args.table.now c.loop-own-test.false

pub returns-clause-ok : goal.returns-clause-ok
returns-clause-ok c =
    let given = first_value (found_of c.args.matches.now) in
    subst (λ (own : List OwnOption). GiveValues given (number_table own) c.loop-own.values.items) (all_read c) c.loop-own.invariant.given

pub returns-clause-within : goal.returns-clause-within
returns-clause-within c = subst (λ (own : List OwnOption). AreWithin own c.loop-own.values.items) (all_read c) c.loop-own.invariant.within

pub returns-clause-good : goal.returns-clause-good
returns-clause-good c =
    let given = first_value (found_of c.args.matches.now) in
    subst (λ (own : List OwnOption). first_bad_of given (number_table own) ≡ None) (all_read c) c.loop-own.invariant.good
