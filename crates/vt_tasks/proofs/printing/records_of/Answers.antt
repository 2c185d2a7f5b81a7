use Rattle.std.proofs.Common.{◌≡◌, ◌∙◌, ap, ◌*◌, min, length, drop, arith}
use Rattle.std.proofs.lemmas.List.{drop_min}
use Rattle.vt_tasks.proofs.ShareLemmas.{parted}
use Rattle.vt_tasks.proofs.printing.records_of.Goals as goal

pub returns : goal.returns
returns c =
    let records = c.args.records.now in
    let from : c.min.result ≡ min (c.args.k * 16384) (length records) = omega arith in
    let rest = c.split_at.ensures.back ∙ ap (λ n. drop n records) from ∙ drop_min (c.args.k * 16384) records in
    (parted 16384 (c.args.k * 16384) c.min-2.result records c.split_at.result.1.now c.split_at-2.result.0.now c.split_at-2.result.1.now c.min-2.ensures rest c.split_at-2.ensures.front c.split_at-2.ensures.back).0
