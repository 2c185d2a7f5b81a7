use Rattle.std.proofs.Common.{◌≡◌, ◌≤◌, ◌<◌, length, get_or, sym, subst}
use Rattle.std.proofs.lemmas.Bool.{ltb-true}
use Rattle.std.proofs.lemmas.List.{get_or_past}
use Rattle.vt_logs.specs.inside.Sheets.{Page, NonePasses, PassesAlone, is_at}
use Rattle.vt_logs.specs.inside.Shelves.{Shelved, lies_at, blank_page}
use Rattle.vt_logs.proofs.ShelfLemmas.{match-then, page-read, none-placed, alone-placed}
use Rattle.vt_logs.proofs.shelf.Shelf.get.Goals as goal

pub returns-in_default : goal.returns-in_default
returns-in_default g c =
    let i = c.self.inside in
    let past : length i.sheets.items ≤ c.args.position.sheet = subst (λ qs. length qs ≤ c.args.position.sheet) c.deref.ensures.value c.in_default.ensures.lookup.3 in
    let none = subst (λ (q : Page _ _). NonePasses (is_at c.args.position.index) q.live) (sym (get_or_past i.sheets.items c.args.position.sheet blank_page past)) tt in
    subst (λ (v : Shelved _ _). NonePasses (lies_at c.args.position) v.placed) c.self.view_is (none-placed c.args.position.sheet c.args.position.index i.sheets.items _ none)

pub returns : goal.returns
returns g c =
    let i = c.self.inside in
    let known : c.args.position.sheet < length i.sheets.items = subst (λ qs. c.args.position.sheet < length qs) c.deref.ensures.value (ltb-true _ _ (sym c.in-Some.ensures.lookup.0)) in
    let was = subst (λ qs. c.in-Some.sheet.now ≡ get_or qs c.args.position.sheet c.in-Some.sheet.now) c.deref.ensures.value c.in-Some.ensures.lookup.1 in
    let read = page-read i.sheets.items c.args.position.sheet c.in-Some.sheet.now known was in
    match-then _ _ _ _ c.get-2.result
    (λ none. subst (λ (v : Shelved _ _). NonePasses (lies_at c.args.position) v.placed) c.self.view_is
    (none-placed c.args.position.sheet c.args.position.index i.sheets.items _ (subst (λ (q : Page _ _). NonePasses (is_at c.args.position.index) q.live) read none)))
    (λ slot found. (
      found.0,
      subst (λ (v : Shelved _ _). PassesAlone (lies_at c.args.position) (c.args.position, found.0) v.placed) c.self.view_is
          (alone-placed c.args.position.sheet c.args.position.index i.sheets.items i.full.items i.current i.spare.items i.needs c.self.invariant found.0
          (subst (λ (q : Page _ _). PassesAlone (is_at c.args.position.index) (c.args.position.index, found.0) q.live) read found.1)),
      found.2,
    ))
    c.get-2.ensures
