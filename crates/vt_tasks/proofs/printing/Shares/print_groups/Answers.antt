use Rattle.std.proofs.Common.{◌∙◌, ap, sym, arith}
use Rattle.std.specs.Slice.Iter.{chunks_rest}
use Rattle.vt_text.specs.promise.Records.{record_lines}
use Rattle.vt_text.proofs.TextLemmas.{on_err}
use Rattle.vt_tasks.proofs.ShareLemmas.{share_written, share_stops, all_written, none_yet}
use Rattle.vt_tasks.proofs.printing.Shares.print_groups.Goals as goal

pub loop-group-init : goal.loop-group-init
loop-group-init g c = none_yet _ (ap (record_lines c.args.version) (sym (ap chunks_rest c.into_iter-group-iterator.ensures.into_iter_gives ∙ c.chunks-group-items.ensures.rest)))

pub loop-group-preserved : goal.loop-group-preserved
loop-group-preserved g c =
    share_written c.args.version _ _ _ (chunks_rest c.loop-group.group-iterator) c.in-Some.group.now (chunks_rest c.next.new.self) _ c.in-Some.ensures.steps.1.0 c.loop-group.invariant c.in_ok-print_group.ensures.ok

pub returns-in_err-print_group-clause-err : goal.returns-in_err-print_group-clause-err
returns-in_err-print_group-clause-err g c =
    on_err c.from_residual.result
    (share_stops c.args.version _ _ _ (chunks_rest c.loop-group.group-iterator) c.in-Some.group.now (chunks_rest c.next.new.self) _ c.in-Some.ensures.steps.1.0 c.loop-group.invariant c.in_err-print_group.ensures.err)

pub returns-clause-ok : goal.returns-clause-ok
returns-clause-ok g c = all_written c.args.version _ _ (chunks_rest c.loop-group.group-iterator) _ (omega (arith, c.in-None.ensures.steps.1.0)) c.loop-group.invariant
