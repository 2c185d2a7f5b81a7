use Rattle.std.proofs.Common.{append_assoc, arith, length-append, ◌≡◌, ◌≤◌, ◌++◌, true, List, sym, ap, ◌∙◌, subst, slice_set}
use Rattle.vt_key.specs.promise.Times.{Time}
use Rattle.vt_model.specs.declared.rows.Record.{Record}
use Rattle.vt_model.specs.declared.rows.Row.{Row}
use Rattle.vt_model.specs.promise.Sequential.{rows_before, records_of}
use Rattle.vt_steps.specs.promise.BookSteps.{with_rows}
use Rattle.vt_steps.specs.promise.Letters.{least_of}
use Rattle.vt_steps.specs.promise.Rows.{rows_in_order}
use Rattle.vt_steps.specs.inside.Rows.{AreSameRows}
use Rattle.vt_book.specs.inside.Books.{RunBook, may_hand}
use Rattle.vt_book.specs.inside.Kept.{IsKept}
use Rattle.vt_steps.proofs.time.Floors.{floor-rises}
use Rattle.vt_book.proofs.RowLists.{same-behind, same-length}
use Rattle.vt_book.proofs.KeptLemmas.{lawful, kept-after}
use Rattle.vt_book.proofs.book.Book.take.Goals as goal

pub show_before-requires : goal.show_before-requires
show_before-requires g c =
    let waiting = c.self.inside.waiting in
    let rows = c.into_rows.result.items in
    let handed = same-length c.args.batch rows c.into_rows.ensures.same in
    let all = same-length c.add.new.self (waiting ++ rows) c.in_ok-add.ensures.rows in
    let both = length-append waiting rows in
    let count = c.in-Some.ensures in
    let more = c.len-2.ensures in
    let room = c.in_ok-make_room.ensures.room in
    record { room = omega arith }

pub invariant_of-self-2 : goal.invariant_of-self-2
invariant_of-self-2 g c =
    let end = c.self.inside.end in
    let floors = c.self.inside.floors in
    let w = c.args.worker in
    let rows = c.args.batch in
    let floor = c.args.floor in
    let history = c.self.inside.history.items in
    let waiting = c.self.inside.waiting in
    let is = lawful end floors w rows floor (subst (λ (b : RunBook). may_hand b w rows floor ≡ true) (sym c.self.view_is) c.requires.0) in
    let after = subst (λ (fs : List Time). least_of end floors ≤ least_of end fs) (sym c.set.ensures) (floor-rises end floors w is.handed_in floor is.at is.rising) in
    let rises = subst (λ (t : Time). least_of end floors ≤ t) (sym c.least-risen_to.ensures) after in
    let gone = c.self.inside.gone.items in
    let kept : IsKept (least_of end floors) history (gone ++ c.make_room.new.shown.items) waiting = record {
      in_order = ap (λ (rs : List Record). gone ++ rs) c.in_ok-make_room.ensures.shown ∙ c.self.invariant.kept.in_order;
      all_there = c.self.invariant.kept.all_there;
    } in
    let same : AreSameRows c.add.new.self (waiting ++ rows) = λ f. c.in_ok-add.ensures.rows f ∙ same-behind waiting rows c.into_rows.result.items c.into_rows.ensures.same f in
    let more = records_of (rows_in_order (rows_before c.least-risen_to.result c.add.new.self)) in
    let shown : gone ++ c.show_before.new.shown.items ≡ (gone ++ c.make_room.new.shown.items) ++ more =
    ap (λ (rs : List Record). gone ++ rs) c.show_before.ensures.shown ∙ sym (append_assoc gone c.make_room.new.shown.items more) in
    let new = kept-after (least_of end floors) c.least-risen_to.result history rows (gone ++ c.make_room.new.shown.items) waiting c.add.new.self
    c.show_before.new.self rises kept is.late same (gone ++ c.show_before.new.shown.items) shown c.show_before.ensures.waiting in
    let handed : c.picked.result.items ≡ history ++ rows = c.picked.ensures ∙ c.requires.1 ∙ ap (λ (b : RunBook). b.book.rows ++ rows) (sym c.self.view_is) in
    record {
      kept = subst (λ (t : Time). IsKept t c.picked.result.items (gone ++ c.show_before.new.shown.items) c.show_before.new.self) c.least-risen_to.ensures
          (subst (λ (rs : List Row). IsKept c.least-risen_to.result rs (gone ++ c.show_before.new.shown.items) c.show_before.new.self) (sym handed) new);
      counted = c.self.invariant.counted;
    }

pub returns-clause-taken : goal.returns-clause-taken
unfolding with_rows
returns-clause-taken g c =
    let history = c.self.inside.history.items in
    let rows : c.picked.result.items ≡ history ++ c.args.batch = c.picked.ensures ∙ c.requires.1 ∙ ap (λ (b : RunBook). b.book.rows ++ c.args.batch) (sym c.self.view_is) in
    let floors : c.set.new.self ≡ slice_set c.self.inside.floors c.args.worker c.args.floor = c.set.ensures in
    let made : RunBook = record { end = c.self.inside.end; book = record { rows = c.picked.result.items; floors = c.set.new.self; is_closed = c.self.inside.closed }; handed_out = c.self.inside.handed_out } in
    subst (λ (b : RunBook). made ≡ record b { book = with_rows c.args.worker c.args.batch c.args.floor b.book }) c.self.view_is
    (λ i. record { end = c.self.inside.end; book = record { rows = rows i; floors = floors i; is_closed = c.self.inside.closed }; handed_out = c.self.inside.handed_out })
