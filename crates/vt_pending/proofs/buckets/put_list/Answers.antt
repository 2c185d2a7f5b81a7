use Rattle.std.proofs.Common.{◌≡◌, ◌++◌, ◌∷◌, Some, slice_get, option_copied, sym, ap, ◌∙◌}
use Rattle.vt_pending.proofs.Inserting.{between-lists}
use Rattle.vt_pending.proofs.buckets.put_list.Goals as goal

pub returns : goal.returns
returns g c =
    let list = c.args.list in let x = c.in-Some.first.now in let parts = c.pass-passed.ensures in
    let first : slice_get list 0 ≡ Some x = sym c.front.ensures ∙ ap option_copied c.in-Some.is in
    c.join.ensures ∙ (λ i. parts.passed i ++ (c.push_line.ensures ∙ ap (λ ls. list ∷ ls) parts.others) i) ∙ between-lists x list c.args.lists.now first
