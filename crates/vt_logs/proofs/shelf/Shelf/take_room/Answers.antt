use Rattle.std.proofs.Common.{◌<◌, sym, ◌∙◌, ap, subst}
use Rattle.std.proofs.lemmas.List.{length-set}
use Rattle.std.specs.List.{sum_by}
use Rattle.vt_logs.specs.inside.Sheets.{Page}
use Rattle.vt_logs.specs.inside.Shelves.{Shelved, placed_nodes}
use Rattle.vt_logs.proofs.ShelfLemmas.{current-known, page-read, live-kept, placed-kept, shelf-kept, page-same, few-by}
use Rattle.vt_logs.proofs.SheetLemmas.{if_ok-then}
use Rattle.vt_logs.proofs.shelf.Shelf.take_room.Goals as goal

pub invariant_of-self : goal.invariant_of-self
invariant_of-self g c =
    let i = c.self.inside in
    let shelf = c.self.invariant in
    let known = current-known i.sheets.items i.full.items i.current i.spare.items i.needs shelf in
    let read = page-read i.sheets.items i.current c.index_mut.result.now known c.index_mut.ensures.value in
    let few = few-by i.needs _ (shelf.counted ∙ ap (λ (v : Shelved _ _). sum_by placed_nodes v.placed) c.self.view_is) c.requires.few_nodes in
    shelf-kept i.sheets.items i.full.items i.current i.spare.items i.needs shelf _ (live-kept i.sheets.items i.current c.make_room.new.self known (c.make_room.ensures.same ∙ ap (λ (q : Page _ _). q.live) read)) (length-set i.sheets.items i.current c.make_room.new.self) few

pub index_mut-requires : goal.index_mut-requires
index_mut-requires g c =
    let i = c.self.inside in
    subst (λ n. i.current < n) (sym i.sheets.ok.0) (current-known i.sheets.items i.full.items i.current i.spare.items i.needs c.self.invariant)

pub returns : goal.returns
returns g c =
    let i = c.self.inside in
    let shelf = c.self.invariant in
    let known = current-known i.sheets.items i.full.items i.current i.spare.items i.needs shelf in
    let read = page-read i.sheets.items i.current c.index_mut.result.now known c.index_mut.ensures.value in
    record {
      same = placed-kept i.sheets.items i.full.items i.current i.spare.items i.needs shelf _ (live-kept i.sheets.items i.current c.make_room.new.self known (c.make_room.ensures.same ∙ ap (λ (q : Page _ _). q.live) read))
          ∙ ap (λ (v : Shelved _ _). v.placed) c.self.view_is;
      room = if_ok-then _ _ c.make_room.result (λ v e. ap (λ (q : Page _ _). q.has_room) (page-same i.sheets.items i.current c.make_room.new.self known) ∙ e) c.make_room.ensures.room;
      refused = c.make_room.ensures.refused;
    }
