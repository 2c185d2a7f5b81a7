use Rattle.std.proofs.Common.{◌<◌, [], ◌∷◌, ◌++◌, slice_set, refl, sym, ◌∙◌, ap, subst, append-nil}
use Rattle.std.proofs.lemmas.List.{length-set}
use Rattle.vt_logs.specs.inside.Sheets.{Page}
use Rattle.vt_logs.specs.inside.Shelves.{Shelved, placed_on}
use Rattle.vt_logs.proofs.ShelfLemmas.{live-kept, page-same, spare-known, spare-empty, known-begun, apart-begun, shelf-begun, placed-begun, shelf-along}
use Rattle.vt_logs.proofs.shelf.Shelf.begin.Goals as goal

pub invariant_of-self : goal.invariant_of-self
invariant_of-self g c = shelf-along refl c.in_default.ensures.items refl c.self.invariant

pub returns-in_default-clause-same : goal.returns-in_default-clause-same
returns-in_default-clause-same g c =
    let i = c.self.inside in
    (λ j. placed_on i.sheets.items (c.in_default.ensures.items j) i.current) ∙ ap (λ (v : Shelved _ _). v.placed) c.self.view_is

pub invariant_of-self-in_default-pop : goal.invariant_of-self-in_default-pop
invariant_of-self-in_default-pop g c = shelf-along refl c.in-Ok.ensures.items (sym (c.in_default-pop.ensures.items ∙ append-nil c.pop.new.self.items)) c.self.invariant

pub index_mut-requires : goal.index_mut-requires
index_mut-requires g c =
    let i = c.self.inside in
    subst (λ n. c.in-Some.number < n) (sym i.sheets.ok.0) (spare-known i.sheets.items i.full.items i.current i.spare.items i.needs c.self.invariant i.sheets.items (λ m. refl) c.in-Some.number c.pop.new.self.items c.in-Some.ensures.items)

pub invariant_of-self-2 : goal.invariant_of-self-2
invariant_of-self-2 g c =
    let i = c.self.inside in
    let n = c.in-Some.number in
    let rest = c.pop.new.self.items in
    let is = c.in-Some.ensures.items in
    let shelf = c.self.invariant in
    let known = spare-known i.sheets.items i.full.items i.current i.spare.items i.needs shelf i.sheets.items (λ m. refl) n rest is in
    let empty = spare-empty i.sheets.items i.full.items i.current i.spare.items i.needs shelf i.sheets.items (λ m. refl) n rest is in
    let same = live-kept i.sheets.items n c.clear.new.self known (ap (λ (q : Page _ _). q.live) c.clear.ensures ∙ sym empty) in
    let closed = ap (λ (q : Page _ _). q.has_room) (page-same i.sheets.items n c.clear.new.self known ∙ c.clear.ensures) in
    shelf-along refl (c.push_reserved.ensures.items ∙ ap (λ ns. ns ++ i.current ∷ []) c.in-Ok.ensures.items) refl
    (shelf-begun i.sheets.items i.full.items i.current i.spare.items i.needs shelf _ same n rest empty closed
    (known-begun i.sheets.items i.full.items i.current i.spare.items i.needs shelf _ same n rest is (length-set i.sheets.items n c.clear.new.self))
    (apart-begun i.sheets.items i.full.items i.current i.spare.items i.needs shelf _ same n rest is))

pub returns-clause-same : goal.returns-clause-same
returns-clause-same g c =
    let i = c.self.inside in
    let n = c.in-Some.number in
    let rest = c.pop.new.self.items in
    let is = c.in-Some.ensures.items in
    let shelf = c.self.invariant in
    let known = spare-known i.sheets.items i.full.items i.current i.spare.items i.needs shelf i.sheets.items (λ m. refl) n rest is in
    let empty = spare-empty i.sheets.items i.full.items i.current i.spare.items i.needs shelf i.sheets.items (λ m. refl) n rest is in
    let same = live-kept i.sheets.items n c.clear.new.self known (ap (λ (q : Page _ _). q.live) c.clear.ensures ∙ sym empty) in
    let closed = ap (λ (q : Page _ _). q.has_room) (page-same i.sheets.items n c.clear.new.self known ∙ c.clear.ensures) in
    (λ j. placed_on (slice_set i.sheets.items n c.clear.new.self) ((c.push_reserved.ensures.items ∙ ap (λ ns. ns ++ i.current ∷ []) c.in-Ok.ensures.items) j) n)
    ∙ placed-begun i.sheets.items i.full.items i.current i.spare.items i.needs shelf _ same n rest empty closed
    ∙ ap (λ (v : Shelved _ _). v.placed) c.self.view_is
