use Rattle.std.proofs.Common.{◌≡◌, ◌≤◌, length, true, false, Some, None, refl, sym, ◌∙◌, ap, subst}
use Rattle.std.specs.List.{filter}
use Rattle.std.proofs.lemmas.Option.{slice_get_read, slice_get_past}
use Rattle.vt_logs.specs.inside.Sheets.{Page, IsSheet, live_in, is_elsewhere}
use Rattle.vt_logs.proofs.PresentLemmas.{none-filter, set-same, not-within}
use Rattle.vt_logs.proofs.SheetLemmas.{live-none, live-marked, marked-needs, sheet-marked}
use Rattle.vt_logs.proofs.sheet.Sheet.mark.Goals as goal

pub overflow_sub-self : goal.overflow_sub-self
overflow_sub-self g c =
    let i = c.self.inside in
    let there = slice_get_read i.slots.items i.slots.len c.args.index c.in-Some.slot.now i.slots.ok.0 (c.in-Some.ensures.variant.0 refl) c.in-Some.ensures.value in
    marked-needs i.sends.items i.records.items i.slots.items c.args.index c.in-Some.slot.now (record c.in-Some.slot.now { is_gone = true }) there c.if-slot.false refl i.earliest i.latest i.needs c.self.invariant.0

pub invariant_of-self-2 : goal.invariant_of-self-2
invariant_of-self-2 g c =
    let i = c.self.inside in
    let there = slice_get_read i.slots.items i.slots.len c.args.index c.in-Some.slot.now i.slots.ok.0 (c.in-Some.ensures.variant.0 refl) c.in-Some.ensures.value in (
      sheet-marked i.sends.items i.records.items i.slots.items c.args.index c.in-Some.slot.now (record c.in-Some.slot.now { is_gone = true }) there c.if-slot.false refl i.earliest i.latest i.needs c.self.invariant.0 refl refl refl refl,
      λ e. absurd (let h : false ≡ true = e in cc),
    )

pub returns : goal.returns
returns g c =
    let i = c.self.inside in
    let there = slice_get_read i.slots.items i.slots.len c.args.index c.in-Some.slot.now i.slots.ok.0 (c.in-Some.ensures.variant.0 refl) c.in-Some.ensures.value in
    let e = live-marked i.sends.items i.records.items i.slots.items c.args.index c.in-Some.slot.now (record c.in-Some.slot.now { is_gone = true }) there c.if-slot.false refl
    ∙ ap (λ (v : Page _ _). filter (is_elsewhere c.args.index) v.live) c.self.view_is in
    λ j. record { live = e j; has_room = false }

pub invariant_of-self-then-slot : goal.invariant_of-self-then-slot
invariant_of-self-then-slot g c =
    let i = c.self.inside in
    let there = slice_get_read i.slots.items i.slots.len c.args.index c.in-Some.slot.now i.slots.ok.0 (c.in-Some.ensures.variant.0 refl) c.in-Some.ensures.value in (
      subst (λ ss. IsSheet ss i.sends.items i.records.items i.earliest i.latest i.needs) (sym (set-same i.slots.items c.args.index c.in-Some.slot.now there)) c.self.invariant.0,
      λ e. absurd (let h : false ≡ true = e in cc),
    )

pub returns-then-slot : goal.returns-then-slot
returns-then-slot g c =
    let i = c.self.inside in
    let there = slice_get_read i.slots.items i.slots.len c.args.index c.in-Some.slot.now i.slots.ok.0 (c.in-Some.ensures.variant.0 refl) c.in-Some.ensures.value in
    let none = live-none i.sends.items i.records.items i.slots.items c.args.index
    (λ s at live. (let same : c.in-Some.slot.now ≡ s = let e : Some c.in-Some.slot.now ≡ Some s = sym there ∙ at in cc in let h : true ≡ false = sym c.if-slot.true ∙ ap (λ t. t.is_gone) same ∙ live in absurd (cc))) in
    let e = ap (live_in i.sends.items i.records.items) (set-same i.slots.items c.args.index c.in-Some.slot.now there) ∙ sym (none-filter _ _ none) ∙ ap (λ (v : Page _ _). filter (is_elsewhere c.args.index) v.live) c.self.view_is in
    λ j. record { live = e j; has_room = false }

pub returns-in_default : goal.returns-in_default
returns-in_default g c =
    let i = c.self.inside in
    let past : length i.slots.items ≤ c.args.index = not-within i.slots.len (length i.slots.items) c.args.index i.slots.ok.0 (λ h. let e : false ≡ true = c.in_default.ensures.variant.1 h in cc) in
    let none = live-none i.sends.items i.records.items i.slots.items c.args.index (λ s at live. (let h : None ≡ Some s = sym (slice_get_past i.slots.items c.args.index past) ∙ at in absurd (cc))) in
    let e = sym (none-filter _ _ none) ∙ ap (λ (v : Page _ _). filter (is_elsewhere c.args.index) v.live) c.self.view_is in
    λ j. record { live = e j; has_room = false }
