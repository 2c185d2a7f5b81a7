use Rattle.std.proofs.Common.{◌<◌, ◌≤◌, length, [], ◌∷◌, ◌++◌, false, refl, sym, ◌∙◌, ap, subst}
use Rattle.std.specs.List.{sum_by}
use Rattle.vt_logs.specs.inside.Sheets.{Page, nodes_at, noted_event}
use Rattle.vt_logs.specs.inside.Shelves.{Shelved}
use Rattle.vt_logs.proofs.SheetLemmas.{fits-one, fits-needs}
use Rattle.vt_logs.proofs.ShelfLemmas.{placed-written, shelf-written, current-known, nodes-here, page-read, le-trans, still-small}
use Rattle.vt_logs.proofs.shelf.Shelf.push.Goals as goal

pub overflow_add-self : goal.overflow_add-self
overflow_add-self g c = fits-one (length c.args.sends.now) c.requires.few_sends

pub overflow_add-self-2 : goal.overflow_add-self-2
overflow_add-self-2 g c =
    let i = c.self.inside in
    fits-needs i.needs i.needs (length c.args.sends.now) refl (c.self.invariant.few (ap (λ (v : Shelved _ _). v.has_room) c.self.view_is ∙ c.requires.room)) c.requires.few_sends

pub index_mut-requires : goal.index_mut-requires
index_mut-requires g c =
    let i = c.self.inside in
    subst (λ n. i.current < n) (sym i.sheets.ok.0) (current-known i.sheets.items i.full.items i.current i.spare.items i.needs c.self.invariant)

pub write-index-requires-clause-room : goal.write-index-requires-clause-room
write-index-requires-clause-room g c =
    let i = c.self.inside in
    let known = current-known i.sheets.items i.full.items i.current i.spare.items i.needs c.self.invariant in
    let read = page-read i.sheets.items i.current c.index_mut.result.now known c.index_mut.ensures.value in
    ap (λ (q : Page _ _). q.has_room) read ∙ ap (λ (v : Shelved _ _). v.has_room) c.self.view_is ∙ c.requires.room

pub write-index-requires-clause-few_nodes : goal.write-index-requires-clause-few_nodes
write-index-requires-clause-few_nodes g c =
    let i = c.self.inside in
    let shelf = c.self.invariant in
    let known = current-known i.sheets.items i.full.items i.current i.spare.items i.needs shelf in
    let read = page-read i.sheets.items i.current c.index_mut.result.now known c.index_mut.ensures.value in
    let few = shelf.few (ap (λ (v : Shelved _ _). v.has_room) c.self.view_is ∙ c.requires.room) in
    subst (λ (q : Page _ _). sum_by nodes_at q.live ≤ 4611686018427387904) (sym read) (le-trans _ i.needs _ (nodes-here i.sheets.items i.full.items i.current i.spare.items i.needs shelf) few)

pub invariant_of-self : goal.invariant_of-self
invariant_of-self g c =
    let i = c.self.inside in
    let shelf = c.self.invariant in
    let known = current-known i.sheets.items i.full.items i.current i.spare.items i.needs shelf in
    let read = page-read i.sheets.items i.current c.index_mut.result.now known c.index_mut.ensures.value in
    let few = shelf.few (ap (λ (v : Shelved _ _). v.has_room) c.self.view_is ∙ c.requires.room) in
    let event = noted_event c.args.process c.args.before c.args.entry c.args.sends.now c.args.records.now in
    shelf-written i.sheets.items i.full.items i.current i.spare.items i.needs shelf c.write-index.new.self c.write-index.result event
    (c.write-index.ensures ∙ (λ j. record { live = (read j).live ++ (c.write-index.result, event) ∷ []; has_room = false }))
    _ refl (still-small i.needs _ few c.requires.few_sends)

pub returns : goal.returns
returns g c =
    let i = c.self.inside in
    let shelf = c.self.invariant in
    let known = current-known i.sheets.items i.full.items i.current i.spare.items i.needs shelf in
    let read = page-read i.sheets.items i.current c.index_mut.result.now known c.index_mut.ensures.value in
    let event = noted_event c.args.process c.args.before c.args.entry c.args.sends.now c.args.records.now in
    placed-written i.sheets.items i.full.items i.current i.spare.items i.needs shelf c.write-index.new.self c.write-index.result event
    (c.write-index.ensures ∙ (λ j. record { live = (read j).live ++ (c.write-index.result, event) ∷ []; has_room = false }))
    ∙ ap (λ (v : Shelved _ _). v.placed ++ (record { sheet = i.current; index = c.write-index.result }, event) ∷ []) c.self.view_is
