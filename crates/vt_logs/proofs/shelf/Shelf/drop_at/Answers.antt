use Rattle.std.proofs.Common.{◌<◌, ◌≤◌, false, sym, ◌∙◌, ap, subst}
use Rattle.std.specs.List.{filter}
use Rattle.vt_logs.specs.inside.Sheets.{Page, PassesAlone, is_elsewhere}
use Rattle.vt_logs.specs.inside.Shelves.{Shelved, lies_at, lies_elsewhere, placed_nodes}
use Rattle.vt_logs.proofs.PresentLemmas.{alone-sum}
use Rattle.vt_logs.proofs.ShelfLemmas.{less-by, left-by, page-read, position-known, filtered-out, placed-filtered, shelf-filtered}
use Rattle.vt_logs.proofs.shelf.Shelf.drop_at.Goals as goal

pub overflow_sub-self : goal.overflow_sub-self
overflow_sub-self g c =
    let i = c.self.inside in
    let alone = subst (λ (v : Shelved _ _). PassesAlone (lies_at c.args.position) (c.args.position, c.requires.0) v.placed) (sym c.self.view_is) c.requires.1 in
    subst (λ n. n ≤ i.needs) (sym c.requires.2) (less-by i.needs _ _ (alone-sum (lies_at c.args.position) placed_nodes _ _ alone ∙ sym c.self.invariant.counted))

pub index_mut-requires : goal.index_mut-requires
index_mut-requires g c =
    let i = c.self.inside in
    let alone = subst (λ (v : Shelved _ _). PassesAlone (lies_at c.args.position) (c.args.position, c.requires.0) v.placed) (sym c.self.view_is) c.requires.1 in
    subst (λ n. c.args.position.sheet < n) (sym i.sheets.ok.0) (position-known c.args.position.sheet c.args.position.index i.sheets.items _ _ alone)

pub invariant_of-self : goal.invariant_of-self
invariant_of-self g c =
    let i = c.self.inside in
    let alone = subst (λ (v : Shelved _ _). PassesAlone (lies_at c.args.position) (c.args.position, c.requires.0) v.placed) (sym c.self.view_is) c.requires.1 in
    let known = position-known c.args.position.sheet c.args.position.index i.sheets.items _ _ alone in
    let read = page-read i.sheets.items c.args.position.sheet c.index_mut.result.now known c.index_mut.ensures.value in
    let f = filtered-out c.args.position.sheet c.args.position.index i.sheets.items c.take_out.new.self known (c.take_out.ensures ∙ ap (λ (q : Page _ _). record { live = filter (is_elsewhere c.args.position.index) q.live; has_room = false }) read) in
    shelf-filtered _ i.sheets.items _ f i.full.items i.current i.spare.items i.needs _ c.self.invariant
    (left-by i.needs _ _ c.args.nodes (alone-sum (lies_at c.args.position) placed_nodes _ _ alone ∙ sym c.self.invariant.counted) c.requires.2)

pub returns : goal.returns
returns g c =
    let i = c.self.inside in
    let alone = subst (λ (v : Shelved _ _). PassesAlone (lies_at c.args.position) (c.args.position, c.requires.0) v.placed) (sym c.self.view_is) c.requires.1 in
    let known = position-known c.args.position.sheet c.args.position.index i.sheets.items _ _ alone in
    let read = page-read i.sheets.items c.args.position.sheet c.index_mut.result.now known c.index_mut.ensures.value in
    let f = filtered-out c.args.position.sheet c.args.position.index i.sheets.items c.take_out.new.self known (c.take_out.ensures ∙ ap (λ (q : Page _ _). record { live = filter (is_elsewhere c.args.position.index) q.live; has_room = false }) read) in
    placed-filtered _ i.sheets.items _ f _ ∙ ap (λ (v : Shelved _ _). filter (lies_elsewhere c.args.position) v.placed) c.self.view_is
