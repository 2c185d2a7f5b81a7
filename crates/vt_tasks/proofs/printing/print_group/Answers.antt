use Rattle.std.proofs.Common.{◌∙◌, sym, ap, subst, ◌*◌, ◌<◌, List, length, take, drop, arith}
use Rattle.std.proofs.lemmas.Result.{on_err_weaker}
use Rattle.vt_model.specs.declared.rows.Record.{Record}
use Rattle.vt_text.proofs.TextLemmas.{on_err, flush_fails}
use Rattle.vt_tasks.specs.declared.printing.Share.{Share}
use Rattle.vt_tasks.specs.inside.Shares.{HasLines}
use Rattle.vt_tasks.proofs.ShareLemmas.{parted, share_written, share_stops}
use Rattle.vt_tasks.proofs.printing.print_group.Goals as goal

pub write-requires : goal.write-requires
write-requires g c =
    let l = c.loop-share in
    let parts = parted 16384 (l.share-index * 16384) c.min.result c.args.records.now l.rest.now c.split_at.result.0.now c.split_at.result.1.now c.min.ensures l.invariant.rest c.split_at.ensures.front c.split_at.ensures.back in
    let share = c.share-item.result in
    let within : l.share-index < length c.args.shares.now = omega (arith, c.loop-share-test.true) in
    let changes = (c.for_each_mut.ensures l.share-index share within).1 in
    let made = subst (λ (share : Share). HasLines c.args.version (take 16384 (drop (l.share-index * 16384) c.args.records.now)) share) (changes.left ∙ sym c.share-item.is) changes.call in
    record { made = subst (λ (records : List Record). HasLines c.args.version records share) (sym parts.0) made }

pub returns-in_err-write-clause-err : goal.returns-in_err-write-clause-err
returns-in_err-write-clause-err g c =
    let l = c.loop-share in
    let parts = parted 16384 (l.share-index * 16384) c.min.result c.args.records.now l.rest.now c.split_at.result.0.now c.split_at.result.1.now c.min.ensures l.invariant.rest c.split_at.ensures.front c.split_at.ensures.back in
    on_err c.from_residual.result (share_stops c.args.version _ _ _ l.rest.now _ _ _ parts.1 l.invariant.written c.in_err-write.ensures.err)

pub loop-share-preserved : goal.loop-share-preserved
loop-share-preserved g c =
    let l = c.loop-share in
    let parts = parted 16384 (l.share-index * 16384) c.min.result c.args.records.now l.rest.now c.split_at.result.0.now c.split_at.result.1.now c.min.ensures l.invariant.rest c.split_at.ensures.front c.split_at.ensures.back in record {
      rest = parts.2 ∙ ap (λ k. drop k c.args.records.now) (omega arith);
      written = share_written c.args.version _ _ _ l.rest.now _ _ _ parts.1 l.invariant.written c.in_ok-write.ensures.ok;
    }

pub returns-clause-err : goal.returns-clause-err
returns-clause-err g c = on_err_weaker c.print_lines.result (flush_fails _ _ _ _ _ c.loop-share.invariant.written) c.print_lines.ensures.err
