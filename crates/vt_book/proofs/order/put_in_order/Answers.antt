use Rattle.std.proofs.Common.{rules}
use Rattle.std.specs.Ordering.{is_lt}
use Rattle.std.proofs.lemmas.List.Sorted.{answers_always}
use Rattle.vt_model.specs.declared.rows.Row.{Row}
use Rattle.vt_book.proofs.OrderLemmas.{rises-weak, sorted-rising, same-permuted}
use Rattle.vt_book.proofs.RowCmp.{compared}
use Rattle.vt_book.proofs.order.put_in_order.Goals as goal

pub returns-then-not-are_rising-clause-rising : goal.returns-then-not-are_rising-clause-rising
returns-then-not-are_rising-clause-rising c =
    sorted-rising c.sort_unstable_by.new.self.items
    (c.sort_unstable_by.ensures.sorted (λ (x y : Row). is_lt (compared x y)) rises-weak (answers_always _ _ _ (λ f a r q k. search rules)))

pub returns-then-not-are_rising-clause-same : goal.returns-then-not-are_rising-clause-same
returns-then-not-are_rising-clause-same c = same-permuted c.args.rows.now.items c.sort_unstable_by.new.self.items c.sort_unstable_by.ensures.permutation
