use Rattle.std.proofs.Common.{◌≡◌, ◌≤◌, [], List, Bool, true, Some, slice_get, sym, subst, arith}
use Rattle.std.proofs.lemmas.Option.{IfSome_then, slice_get_within}
use Rattle.vt_key.specs.declared.letter.Letter.{Letter}
use Rattle.vt_calendar.specs.inside.Slots.{items_in, AreEmpty, IsUsedAt}
use Rattle.vt_calendar.proofs.SlotLemmas.{marked-used, unmarked-empty, unmarked-none, if-none}
use Rattle.vt_calendar.proofs.slots.Slots.first.Goals as goal

pub returns-clause-used : goal.returns-clause-used
returns-clause-used g c =
    let lists : List (List (Letter _)) = c.self.inside.lists.items in
    IfSome_then c.first_from.result c.first_from.ensures.marked (λ first found.
    let used : IsUsedAt first lists = marked-used lists first (subst (λ (ms : List Bool). slice_get ms first ≡ Some true) c.self.invariant.0 found.1) in (
      (let within = slice_get_within lists first used.0 used.1 in omega (arith, within, c.self.invariant.1, c.self.inside.lists.ok.0)),
      subst (IsUsedAt first) c.self.view_is used,
    ))

pub returns-clause-first : goal.returns-clause-first
returns-clause-first g c =
    let lists : List (List (Letter _)) = c.self.inside.lists.items in
    IfSome_then c.first_from.result c.first_from.ensures.first (λ first none.
    subst (AreEmpty 0 first) c.self.view_is (λ i l from below at.
    unmarked-empty lists i l at (λ h. none i from below (subst (λ (ms : List Bool). slice_get ms i ≡ Some true) (sym c.self.invariant.0) h))))

pub returns-clause-nothing : goal.returns-clause-nothing
returns-clause-nothing g c =
    let lists : List (List (Letter _)) = c.self.inside.lists.items in
    if-none c.first_from.result c.first_from.ensures.nowhere (λ none.
    subst (λ (ls : List (List (Letter _))). items_in ls ≡ []) c.self.view_is
    (unmarked-none lists (λ i h. none i (let z : 0 ≤ i = omega arith in z) (subst (λ (ms : List Bool). slice_get ms i ≡ Some true) (sym c.self.invariant.0) h))))
