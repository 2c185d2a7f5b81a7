use Rattle.std.proofs.Common.{◌<◌, ◌∷◌, length, sym, ◌∙◌, ap, subst}
use Rattle.std.specs.List.{list_any, AllByRecursion}
use Rattle.vt_key.proofs.ListLemmas.{every-left}
use Rattle.vt_logs.specs.inside.Events.{is_stamped}
use Rattle.vt_logs.specs.inside.Sheets.{Page, events_in}
use Rattle.vt_logs.specs.inside.Shelves.{Shelved, page_has_stamp, placed_events}
use Rattle.vt_logs.proofs.ShelfLemmas.{current-known, page-read, stamps-total, either-true, either-false}
use Rattle.vt_logs.proofs.shelf.Shelf.has_stamp.Goals as goal

pub index-requires : goal.index-requires
index-requires g c =
    let i = c.self.inside in
    subst (λ n. i.current < n) (sym i.sheets.ok.0) (current-known i.sheets.items i.full.items i.current i.spare.items i.needs c.self.invariant)

pub has_stamp_in-requires : goal.has_stamp_in-requires
has_stamp_in-requires g c =
    let i = c.self.inside in
    subst (λ qs. AllByRecursion (λ n. n < length qs) c.as_slice-else-has_stamp.result.now) (sym c.as_slice.ensures.value)
    (subst (AllByRecursion (λ n. n < length i.sheets.items)) (sym c.as_slice-else-has_stamp.ensures.value) (every-left _ i.full.items (i.current ∷ i.spare.items) c.self.invariant.known))

pub returns-then-has_stamp : goal.returns-then-has_stamp
returns-then-has_stamp g c =
    let i = c.self.inside in
    let known = current-known i.sheets.items i.full.items i.current i.spare.items i.needs c.self.invariant in
    let read = page-read i.sheets.items i.current c.index.result.now known c.index.ensures in
    let here = ap (λ (q : Page _ _). list_any (is_stamped c.args.stamp.now) (events_in q.live)) (sym read) ∙ sym c.has_stamp.ensures ∙ c.if-has_stamp.true in
    c.if-has_stamp.true ∙ sym (either-true _ _ here) ∙ sym (stamps-total i.sheets.items i.full.items i.current c.args.stamp.now) ∙ ap (λ (v : Shelved _ _). list_any (is_stamped c.args.stamp.now) (placed_events v.placed)) c.self.view_is

pub returns-else-has_stamp : goal.returns-else-has_stamp
returns-else-has_stamp g c =
    let i = c.self.inside in
    let known = current-known i.sheets.items i.full.items i.current i.spare.items i.needs c.self.invariant in
    let read = page-read i.sheets.items i.current c.index.result.now known c.index.ensures in
    let here = ap (λ (q : Page _ _). list_any (is_stamped c.args.stamp.now) (events_in q.live)) (sym read) ∙ sym c.has_stamp.ensures ∙ c.if-has_stamp.false in
    c.has_stamp_in.ensures ∙ (λ j. list_any (page_has_stamp c.args.stamp.now (c.as_slice.ensures.value j)) (c.as_slice-else-has_stamp.ensures.value j))
    ∙ sym (either-false _ _ here) ∙ sym (stamps-total i.sheets.items i.full.items i.current c.args.stamp.now) ∙ ap (λ (v : Shelved _ _). list_any (is_stamped c.args.stamp.now) (placed_events v.placed)) c.self.view_is
