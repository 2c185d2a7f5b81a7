use Rattle.std.proofs.Common.{◌<◌, ◌∷◌, ◌++◌, length, sym, ◌∙◌, ap, subst}
use Rattle.std.specs.List.{flat_map, AllByRecursion}
use Rattle.vt_key.proofs.ListLemmas.{every-left}
use Rattle.vt_logs.specs.inside.Events.{rows_below}
use Rattle.vt_logs.specs.inside.Sheets.{events_in}
use Rattle.vt_logs.specs.inside.Shelves.{Shelved, page_rows, placed_events}
use Rattle.vt_logs.proofs.ShelfLemmas.{current-known, page-read, rows-total}
use Rattle.vt_logs.proofs.shelf.Shelf.rows.Goals as goal

pub append_rows_in-requires : goal.append_rows_in-requires
append_rows_in-requires g c =
    let i = c.self.inside in
    subst (λ qs. AllByRecursion (λ n. n < length qs) c.as_slice-2.result.now) (sym c.as_slice.ensures.value)
    (subst (AllByRecursion (λ n. n < length i.sheets.items)) (sym c.as_slice-2.ensures.value) (every-left _ i.full.items (i.current ∷ i.spare.items) c.self.invariant.known))

pub index-requires : goal.index-requires
index-requires g c =
    let i = c.self.inside in
    subst (λ n. i.current < n) (sym i.sheets.ok.0) (current-known i.sheets.items i.full.items i.current i.spare.items i.needs c.self.invariant)

pub returns-clause-rows : goal.returns-clause-rows
returns-clause-rows g c =
    let i = c.self.inside in
    let known = current-known i.sheets.items i.full.items i.current i.spare.items i.needs c.self.invariant in
    let read = page-read i.sheets.items i.current c.index.result.now known c.index.ensures in
    c.in-Ok-append_rows.ensures.rows
    ∙ (λ j. c.in-Ok.ensures.rows j ++ rows_below c.args.floor (events_in (read j).live))
    ∙ (λ j. (c.new-rows.ensures.items j ++ flat_map (page_rows c.args.floor (c.as_slice.ensures.value j)) (c.as_slice-2.ensures.value j)) ++ page_rows c.args.floor i.sheets.items i.current)
    ∙ rows-total i.sheets.items i.full.items i.current c.args.floor ∙ ap (λ (v : Shelved _ _). rows_below c.args.floor (placed_events v.placed)) c.self.view_is
