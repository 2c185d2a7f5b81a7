use Rattle.std.proofs.Common.{refl, ℕ, [], ◌∷◌, ◌++◌, length, ◌∙◌, ap}
use Rattle.std.proofs.lemmas.List.{length_push, get_or_past}
use Rattle.vt_logs.specs.inside.Sheets.{Page}
use Rattle.vt_logs.specs.inside.Shelves.{Shelved, placed_on, blank_page}
use Rattle.vt_logs.proofs.ShelfLemmas.{page-more, known-added, apart-added, shelf-begun, placed-begun, shelf-along, shelf-named, itself}
use Rattle.vt_logs.proofs.shelf.Shelf.add.Goals as goal

pub invariant_of-self : goal.invariant_of-self
invariant_of-self g c = shelf-along refl refl c.in_default.ensures.items c.self.invariant

pub returns-in_default-clause-same : goal.returns-in_default-clause-same
returns-in_default-clause-same g c = ap (λ (v : Shelved _ _). v.placed) c.self.view_is

pub invariant_of-self-in_default-reserve : goal.invariant_of-self-in_default-reserve
invariant_of-self-in_default-reserve g c = shelf-along refl c.in_default-reserve.ensures.items c.in-Ok.ensures.items c.self.invariant

pub returns-in_default-reserve-clause-same : goal.returns-in_default-reserve-clause-same
returns-in_default-reserve-clause-same g c =
    let i = c.self.inside in
    (λ j. placed_on i.sheets.items (c.in_default-reserve.ensures.items j) i.current) ∙ ap (λ (v : Shelved _ _). v.placed) c.self.view_is

pub invariant_of-self-2 : goal.invariant_of-self-2
invariant_of-self-2 g c =
    let i = c.self.inside in
    let shelf = c.self.invariant in
    let sheets = i.sheets.items ++ blank_page ∷ [] in
    let n = length i.sheets.items in
    let same = λ (m : ℕ). ap (λ (q : Page _ _). q.live) (page-more i.sheets.items m) in
    let past = get_or_past i.sheets.items n blank_page (itself n) in
    let empty = ap (λ (q : Page _ _). q.live) past in
    let closed = ap (λ (q : Page _ _). q.has_room) (page-more i.sheets.items n ∙ past) in
    shelf-named c.len-number.result (c.len-number.ensures ∙ i.sheets.ok.0)
    (shelf-along (c.in-Ok-push.ensures.items ∙ ap (λ q. i.sheets.items ++ q ∷ []) c.new.ensures) (c.push_reserved.ensures.items ∙ ap (λ ns. ns ++ i.current ∷ []) c.in-Ok-reserve.ensures.items) c.in-Ok.ensures.items
    (shelf-begun i.sheets.items i.full.items i.current i.spare.items i.needs shelf sheets same n i.spare.items empty closed
    (known-added i.sheets.items i.full.items i.current i.spare.items i.needs shelf sheets same (length_push i.sheets.items blank_page))
    (apart-added i.sheets.items i.full.items i.current i.spare.items i.needs shelf sheets same)))

pub returns-clause-same : goal.returns-clause-same
returns-clause-same g c =
    let i = c.self.inside in
    let shelf = c.self.invariant in
    let sheets = i.sheets.items ++ blank_page ∷ [] in
    let n = length i.sheets.items in
    let same = λ (m : ℕ). ap (λ (q : Page _ _). q.live) (page-more i.sheets.items m) in
    let past = get_or_past i.sheets.items n blank_page (itself n) in
    let empty = ap (λ (q : Page _ _). q.live) past in
    let closed = ap (λ (q : Page _ _). q.has_room) (page-more i.sheets.items n ∙ past) in
    (λ j. placed_on ((c.in-Ok-push.ensures.items ∙ ap (λ q. i.sheets.items ++ q ∷ []) c.new.ensures) j) ((c.push_reserved.ensures.items ∙ ap (λ ns. ns ++ i.current ∷ []) c.in-Ok-reserve.ensures.items) j) ((c.len-number.ensures ∙ i.sheets.ok.0) j))
    ∙ placed-begun i.sheets.items i.full.items i.current i.spare.items i.needs shelf sheets same n i.spare.items empty closed
    ∙ ap (λ (v : Shelved _ _). v.placed) c.self.view_is
