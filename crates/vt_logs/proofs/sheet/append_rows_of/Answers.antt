use Rattle.std.proofs.Common.{◌∙◌, ◌+◌, ◌++◌, ◌∷◌, [], take, length, get_or, refl, sym, ap, append_assoc, append-nil}
use Rattle.std.proofs.lemmas.List.{take_all}
use Rattle.vt_model.specs.declared.rows.Record.{Record}
use Rattle.vt_model.specs.promise.Simulation.{rows_of}
use Rattle.vt_logs.proofs.SheetLemmas.{rows-grow, rows-nothing, fits-under}
use Rattle.vt_logs.proofs.sheet.append_rows_of.Goals as goal

pub overflow_add-index : goal.overflow_add-index
overflow_add-index c = fits-under c.loop-record.index c.loop-record.record-index (length c.args.records.now) c.loop-record.invariant.index_is c.loop-record-test.true c.requires

pub loop-record-init : goal.loop-record-init
loop-record-init c = record { index_is = refl; rows_are = sym (append-nil c.args.rows.now.items) ∙ ap (λ rs. c.args.rows.now.items ++ rs) (sym (rows-nothing c.args.key.now)) }

pub loop-record-preserved : goal.loop-record-preserved
loop-record-preserved c =
    let i = c.loop-record.record-index in
    let records = c.args.records.now in
    let d : Record = record { time = 0; priority = 0; lp = 0; kind = 0; value = 0 } in
    record {
      index_is = ap (λ n. n + 1) c.loop-record.invariant.index_is;
      rows_are =
          c.in-Ok.ensures.items ∙ ap (λ rs. rs ++ record { key = c.args.key.now; index = c.loop-record.index; rec = get_or records i d } ∷ []) c.loop-record.invariant.rows_are ∙ append_assoc c.args.rows.now.items (rows_of c.args.key.now (take i records)) _
          ∙ ap (λ rs. c.args.rows.now.items ++ rs) (sym (rows-grow c.args.key.now records i c.loop-record.index d c.loop-record.invariant.index_is c.loop-record-test.true));
    }

pub returns-clause-rows : goal.returns-clause-rows
returns-clause-rows c =
    c.loop-record.invariant.rows_are ∙ ap (λ rs. c.args.rows.now.items ++ rows_of c.args.key.now rs) (take_all c.loop-record.record-index c.args.records.now c.loop-record-test.false)
