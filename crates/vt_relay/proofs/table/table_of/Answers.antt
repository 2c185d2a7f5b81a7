use Rattle.std.proofs.Common.{map}
use Rattle.vt_key.proofs.ResultLemmas.{if_err}
use Rattle.vt_relay.specs.inside.Table.{IsRefusedTable}
use Rattle.vt_relay.proofs.TableLemmas.{first_bad, now_of, refused_so}
use Rattle.vt_relay.proofs.table.table_of.Goals as goal

pub returns-in_err-next-clause-err : goal.returns-in_err-next-clause-err
returns-in_err-next-clause-err c =
    let lines = c.args.lines.now in
    let l = c.loop-index in
    let fault = c.in_err-next.field-0.0 in
    if_err (IsRefusedTable (map now_of lines)) c.from_residual.result fault c.from_residual.ensures.1
    (refused_so (map now_of lines) fault (first_bad lines l.index _ c.loop-index-test.true l.table.items l.invariant fault c.in_err-next.ensures.err))
