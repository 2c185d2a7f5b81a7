use Rattle.std.proofs.Common.{rules, ◌≡◌, length, sym, ap, ◌∙◌}
use Rattle.vt_book.proofs.RowLists.{same-length}
use Rattle.vt_book.proofs.batch.Batch.len.Goals as goal

pub returns : goal.returns
returns c =
    let held : c.len.result ≡ length c.self.inside.rows.items = search rules in
    held ∙ sym (same-length c.self.inside.told.items c.self.inside.rows.items c.self.invariant.same) ∙ ap length c.self.view_is
