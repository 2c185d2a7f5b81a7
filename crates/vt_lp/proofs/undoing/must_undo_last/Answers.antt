use Rattle.std.proofs.Common.{◌∙◌, ◌||◌, not, ap, sym}
use Rattle.std.specs.List.{list_any}
use Rattle.vt_key.specs.promise.Order.{rank_before}
use Rattle.vt_lp.proofs.ReadyLemmas.{undo-told, undo-nobody}
use Rattle.vt_lp.proofs.undoing.must_undo_last.Goals as goal

pub returns-in_default : goal.returns-in_default
returns-in_default g c =
    sym (undo-nobody c.args.pending.now c.args.waiting.now c.args.past.now (sym c.in_default.is ∙ c.last_rank.ensures))

pub returns-then-has_before : goal.returns-then-has_before
returns-then-has_before g c =
    let rank = c.in-Some.rank in
    c.if-has_before.true
    ∙ sym (undo-told c.args.pending.now c.args.waiting.now c.args.past.now rank (sym c.in-Some.is ∙ c.last_rank.ensures)
    ∙ ap (λ b. b || list_any (λ letter. not (rank_before rank letter.event.rank)) c.args.waiting.now) (sym c.has_before.ensures ∙ c.if-has_before.true))

pub returns-else-has_before : goal.returns-else-has_before
returns-else-has_before g c =
    let rank = c.in-Some.rank in
    c.has_not_after.ensures
    ∙ sym (undo-told c.args.pending.now c.args.waiting.now c.args.past.now rank (sym c.in-Some.is ∙ c.last_rank.ensures)
    ∙ ap (λ b. b || list_any (λ letter. not (rank_before rank letter.event.rank)) c.args.waiting.now) (sym c.has_before.ensures ∙ c.if-has_before.false))
