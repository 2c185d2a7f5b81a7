use Rattle.std.proofs.Common.{◌≡◌, ◌<◌, ◌∷◌, ◌%◌, ◌^◌, length, get_or, map, refl, sym, ◌∙◌, ap, subst}
use Rattle.std.specs.List.{filter, flat_map, sum_by, AllByRecursion}
use Rattle.std.proofs.lemmas.List.{length-map, with_items_is}
use Rattle.vt_key.proofs.ListLemmas.{every-left, every-weaker}
use Rattle.vt_logs.specs.inside.Sheets.{Page, nodes_at}
use Rattle.vt_logs.specs.inside.Shelves.{Shelved, placed_nodes, placed_of, placed_on, placed_stays, page_below}
use Rattle.vt_logs.proofs.ShelfLemmas.{current-known, lt-along, page-read, placed-filtered, filtered-below, shelf-filtered, shelf-along, forget-needs}
use Rattle.vt_logs.proofs.shelf.Shelf.forget.Goals as goal

pub count_nodes-full-requires : goal.count_nodes-full-requires
count_nodes-full-requires g c =
    let i = c.self.inside in
    let f = page_below c.args.floor in
    let long = ap length c.forget_in.ensures ∙ length-map c.as_mut_slice.result.now f ∙ c.as_mut_slice.ensures.len in
    let sheets = with_items_is i.sheets c.forget_in.new.sheets long ∙ c.forget_in.ensures ∙ ap (map f) c.as_mut_slice.ensures.value in
    let known = every-weaker _ (λ n. n < length (map f i.sheets.items)) (i.full.items) (λ n h. lt-along n (length i.sheets.items) (length i.sheets.items) _ h refl (length-map i.sheets.items f)) (every-left _ i.full.items (i.current ∷ i.spare.items) c.self.invariant.known) in
    subst (λ qs. AllByRecursion (λ n. n < length qs) c.as_slice-2.result.now) (sym (c.as_slice.ensures.value ∙ sheets))
    (subst (AllByRecursion (λ n. n < length (map f i.sheets.items))) (sym c.as_slice-2.ensures.value) known)

pub index-requires : goal.index-requires
index-requires g c =
    let i = c.self.inside in
    subst (λ n. i.current < n) (sym i.sheets.ok.0) (current-known i.sheets.items i.full.items i.current i.spare.items i.needs c.self.invariant)

pub invariant_of-self : goal.invariant_of-self
invariant_of-self g c =
    let i = c.self.inside in
    let f = page_below c.args.floor in
    let long = ap length c.forget_in.ensures ∙ length-map c.as_mut_slice.result.now f ∙ c.as_mut_slice.ensures.len in
    let sheets = with_items_is i.sheets c.forget_in.new.sheets long ∙ c.forget_in.ensures ∙ ap (map f) c.as_mut_slice.ensures.value in
    let shelf = c.self.invariant in
    let known = current-known i.sheets.items i.full.items i.current i.spare.items i.needs shelf in
    let within = lt-along i.current (length i.sheets.items) (length i.sheets.items) (length (map f i.sheets.items)) known refl (length-map i.sheets.items f) in
    let read = page-read (map f i.sheets.items) i.current c.index.result.now within (subst (λ qs. c.index.result.now ≡ get_or qs i.current c.index.result.now) sheets c.index.ensures) in
    let counted = c.count_nodes-full.ensures ∙ (λ j. sum_by placed_nodes (flat_map (placed_of ((c.as_slice.ensures.value ∙ sheets) j)) (c.as_slice-2.ensures.value j)) % 2 ^ 64) in
    let here = c.needs.ensures ∙ ap (λ (q : Page _ _). sum_by nodes_at q.live) read in
    shelf-along sheets refl refl
    (shelf-filtered (placed_stays c.args.floor) i.sheets.items (map f i.sheets.items) (filtered-below c.args.floor i.sheets.items) i.full.items i.current i.spare.items i.needs _ shelf
    (forget-needs i.sheets.items i.full.items i.current c.args.floor i.spare.items i.needs shelf c.count_nodes-full.result c.needs.result counted here))

pub returns : goal.returns
returns g c =
    let i = c.self.inside in
    let f = page_below c.args.floor in
    let long = ap length c.forget_in.ensures ∙ length-map c.as_mut_slice.result.now f ∙ c.as_mut_slice.ensures.len in
    let sheets = with_items_is i.sheets c.forget_in.new.sheets long ∙ c.forget_in.ensures ∙ ap (map f) c.as_mut_slice.ensures.value in
    ap (λ (v : Shelved _ _). v.placed) c.retire.ensures ∙ (λ j. placed_on (sheets j) i.full.items i.current)
    ∙ placed-filtered (placed_stays c.args.floor) i.sheets.items (map f i.sheets.items) (filtered-below c.args.floor i.sheets.items) _
    ∙ ap (λ (v : Shelved _ _). filter (placed_stays c.args.floor) v.placed) c.self.view_is
