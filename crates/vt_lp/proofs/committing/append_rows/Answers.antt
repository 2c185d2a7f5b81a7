use Rattle.std.proofs.Common.{rules, ◌≡◌, ◌++◌, ◌∙◌, ◌+◌, ◌<◌, ◌≤◌, ◌∷◌, List, [], Bool, true, length, get_or, if◌then◌else◌, refl, subst, ap}
use Rattle.std.specs.Result.{is_ok}
use Rattle.std.proofs.lemmas.List.{take_all}
use Rattle.vt_model.specs.declared.rows.Record.{Record}
use Rattle.vt_model.specs.declared.rows.Row.{Row}
use Rattle.vt_model.specs.promise.Simulation.{rows_of}
use Rattle.vt_lp.proofs.RipeLemmas.{rows_grow}
use Rattle.vt_lp.proofs.committing.append_rows.Goals as goal

pub loop-record-init : goal.loop-record-init
unfolding rows_of
loop-record-init c = record { index_is = refl; rows_are = search rules }

pub loop-record-preserved : goal.loop-record-preserved
loop-record-preserved c =
    let i = c.loop-record.record-index in
    let records = c.args.records.now in
    let d : Record = record { time = 0; priority = 0; lp = 0; kind = 0; value = 0 } in
    let fine : is_ok c.push.result ≡ true = search rules in
    let row : List Record → Row = λ rs. record { key = c.args.key; index = c.loop-record.index; rec = get_or rs i d } in
    let pushed : c.push.new.self.items ≡ c.loop-record.rows.items ++ row records ∷ [] =
    c.push.ensures.items
    ∙ ap (λ (b : Bool). if b then c.loop-record.rows.items ++ row c.as_slice-record-items.result.now ∷ [] else c.loop-record.rows.items) fine
    ∙ ap (λ (rs : List Record). c.loop-record.rows.items ++ row rs ∷ []) c.as_slice-record-items.ensures.value in
    let within : i < length records = subst (λ (rs : List Record). i < length rs) c.as_slice-record-items.ensures.value c.loop-record-test.true in
    record {
      index_is = ap (λ n. n + 1) c.loop-record.invariant.index_is;
      rows_are = rows_grow c.args.key records i c.loop-record.index d c.args.rows.now.items c.loop-record.rows.items c.push.new.self.items pushed c.loop-record.invariant.index_is within
          c.loop-record.invariant.rows_are;
    }

pub returns-clause-rows : goal.returns-clause-rows
returns-clause-rows c =
    let records = c.args.records.now in
    let all = take_all c.loop-record.record-index records
    (subst (λ (rs : List Record). length rs ≤ c.loop-record.record-index) c.as_slice-record-items.ensures.value c.loop-record-test.false) in
    c.loop-record.invariant.rows_are ∙ ap (λ (rs : List Record). c.args.rows.now.items ++ rows_of c.args.key rs) all
