use Rattle.std.proofs.Common.{◌++◌, ◌∷◌, slice_get, sym, ap, ◌∙◌}
use Rattle.vt_key.specs.promise.Queues.{letter_rank, insert_letter}
use Rattle.vt_list.proofs.Firsts.{find-from}
use Rattle.vt_pending.specs.inside.Letters.{some_has_rank, is_reached, reached_has}
use Rattle.vt_pending.proofs.Inserting.{insert-reached}
use Rattle.vt_pending.proofs.buckets.put_new.Goals as goal

pub returns-then-has_rank-clause-held : goal.returns-then-has_rank-clause-held
returns-then-has_rank-clause-held g c =
    let list = c.args.list.now in let r = letter_rank c.get.result.now in
    ap (λ z. reached_has (letter_rank z) list) (sym c.get.ensures)
    ∙ ap (some_has_rank r) (find-from (is_reached r) list ∙ ap (λ ls. slice_get ls 0) (sym c.pass-passed.ensures.others) ∙ sym c.front.ensures)
    ∙ sym c.has_rank.ensures ∙ c.if-has_rank.true

pub returns-clause-put : goal.returns-clause-put
returns-clause-put g c =
    let list = c.args.list.now in let y = c.get.result.now in let parts = c.pass-passed.ensures in
    let other = ap (some_has_rank (letter_rank y)) (ap (λ ls. slice_get ls 0) (sym parts.others) ∙ sym c.front.ensures) ∙ sym c.has_rank.ensures ∙ c.if-has_rank.false in
    c.join-2.ensures ∙ (λ i. parts.passed i ++ (c.push_front.ensures ∙ (λ j. sym c.get.ensures j ∷ parts.others j)) i)
    ∙ insert-reached y list other ∙ ap (λ z. insert_letter z list) c.get.ensures

pub returns-clause-new : goal.returns-clause-new
returns-clause-new g c =
    let list = c.args.list.now in let r = letter_rank c.get.result.now in
    ap (λ z. reached_has (letter_rank z) list) (sym c.get.ensures)
    ∙ ap (some_has_rank r) (find-from (is_reached r) list ∙ ap (λ ls. slice_get ls 0) (sym c.pass-passed.ensures.others) ∙ sym c.front.ensures)
    ∙ sym c.has_rank.ensures ∙ c.if-has_rank.false
