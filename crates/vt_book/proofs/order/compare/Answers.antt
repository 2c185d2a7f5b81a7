use Rattle.std.proofs.Common.{sym, ◌∙◌}
use Rattle.vt_book.proofs.OrderLemmas.{compared-less, compared-equal, compared-greater}
use Rattle.vt_book.proofs.order.compare.Goals as goal

pub returns-then-is_before : goal.returns-then-is_before
returns-then-is_before c = sym (compared-less c.args.row.now c.args.other.now (sym c.is_before.ensures ∙ c.if-is_before.true))

pub returns-then-is_before-2 : goal.returns-then-is_before-2
returns-then-is_before-2 c = sym (compared-greater c.args.row.now c.args.other.now (sym c.is_before-2.ensures ∙ c.if-is_before-2.true))

pub returns : goal.returns
returns c = sym (compared-equal c.args.row.now c.args.other.now (sym c.is_before.ensures ∙ c.if-is_before.false) (sym c.is_before-2.ensures ∙ c.if-is_before-2.false))
