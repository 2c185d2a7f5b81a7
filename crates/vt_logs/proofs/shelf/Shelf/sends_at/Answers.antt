use Rattle.std.proofs.Common.{◌≡◌, ◌≤◌, ◌<◌, [], true, length, get_or, sym, subst}
use Rattle.std.proofs.lemmas.Bool.{ltb-true}
use Rattle.std.proofs.lemmas.List.{get_or_past}
use Rattle.std.specs.List.{AllByRecursion}
use Rattle.vt_logs.specs.inside.Sheets.{Page, is_at}
use Rattle.vt_logs.specs.inside.Shelves.{Shelved, lies_at, blank_page}
use Rattle.vt_logs.proofs.ShelfLemmas.{page-read, all-placed}
use Rattle.vt_logs.proofs.shelf.Shelf.sends_at.Goals as goal

pub returns-in_default : goal.returns-in_default
returns-in_default g c =
    let i = c.self.inside in
    let past : length i.sheets.items ≤ c.args.position.sheet = subst (λ qs. length qs ≤ c.args.position.sheet) c.deref.ensures.value c.in_default.ensures.lookup.3 in
    subst (λ (v : Shelved _ _). AllByRecursion (λ x. lies_at c.args.position x ≡ true → [] ≡ x.1.event.sends) v.placed) c.self.view_is
    (all-placed c.args.position.sheet c.args.position.index (λ x. [] ≡ x.event.sends) i.sheets.items _
    (subst (λ (q : Page _ _). AllByRecursion (λ y. is_at c.args.position.index y ≡ true → [] ≡ y.1.event.sends) q.live) (sym (get_or_past i.sheets.items c.args.position.sheet blank_page past)) tt))

pub returns : goal.returns
returns g c =
    let i = c.self.inside in
    let known : c.args.position.sheet < length i.sheets.items = subst (λ qs. c.args.position.sheet < length qs) c.deref.ensures.value (ltb-true _ _ (sym c.in-Some.ensures.lookup.0)) in
    let was = subst (λ qs. c.in-Some.sheet.now ≡ get_or qs c.args.position.sheet c.in-Some.sheet.now) c.deref.ensures.value c.in-Some.ensures.lookup.1 in
    let read = page-read i.sheets.items c.args.position.sheet c.in-Some.sheet.now known was in
    subst (λ (v : Shelved _ _). AllByRecursion (λ x. lies_at c.args.position x ≡ true → c.sends_at.result.now ≡ x.1.event.sends) v.placed) c.self.view_is
    (all-placed c.args.position.sheet c.args.position.index (λ x. c.sends_at.result.now ≡ x.event.sends) i.sheets.items _
    (subst (λ (q : Page _ _). AllByRecursion (λ y. is_at c.args.position.index y ≡ true → c.sends_at.result.now ≡ y.1.event.sends) q.live) read c.sends_at.ensures.some))
