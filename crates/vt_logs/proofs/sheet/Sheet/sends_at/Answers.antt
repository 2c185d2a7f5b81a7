use Rattle.std.proofs.Common.{◌≡◌, ◌+◌, ◌≤◌, length, true, false, Some, None, slice_get, refl, sym, ◌∙◌, ap, subst}
use Rattle.std.proofs.lemmas.Bool.{ltb-true}
use Rattle.std.proofs.lemmas.Option.{slice_get_read, slice_get_past}
use Rattle.std.specs.List.{AllByRecursion}
use Rattle.vt_key.proofs.ListLemmas.{every-get}
use Rattle.vt_logs.specs.inside.Sheets.{Page, is_at, NonePasses, range_of}
use Rattle.vt_logs.proofs.PresentLemmas.{alone-all, alone-none, none-all}
use Rattle.vt_logs.proofs.LaidLemmas.{laid-fits}
use Rattle.vt_logs.proofs.SheetLemmas.{live-none, live-alone}
use Rattle.vt_logs.proofs.sheet.Sheet.sends_at.Goals as goal

pub returns-in_default-clause-some : goal.returns-in_default-clause-some
returns-in_default-clause-some g c =
    let i = c.self.inside in
    let past : length i.slots.items ≤ c.args.index = subst (λ ss. length ss ≤ c.args.index) c.deref.ensures.value c.in_default.ensures.lookup.3 in
    none-all _ _ _ (subst (λ (v : Page _ _). NonePasses (is_at c.args.index) v.live) c.self.view_is
    (live-none i.sends.items i.records.items i.slots.items c.args.index (λ s at live. (let h : None ≡ Some s = sym (slice_get_past i.slots.items c.args.index past) ∙ at in cc))))

pub returns-then-slot-clause-some : goal.returns-then-slot-clause-some
returns-then-slot-clause-some g c =
    let i = c.self.inside in
    let read = slice_get_read c.deref.result.now (length c.deref.result.now) c.args.index c.in-Some.slot.now refl (ltb-true _ _ (sym c.in-Some.ensures.lookup.0)) c.in-Some.ensures.lookup.1 in
    let there = subst (λ ss. slice_get ss c.args.index ≡ Some c.in-Some.slot.now) c.deref.ensures.value read in
    none-all _ _ _ (subst (λ (v : Page _ _). NonePasses (is_at c.args.index) v.live) c.self.view_is
    (live-none i.sends.items i.records.items i.slots.items c.args.index
    (λ s at live. (let same : c.in-Some.slot.now ≡ s = let e : Some c.in-Some.slot.now ≡ Some s = sym there ∙ at in cc in let h : true ≡ false = sym c.if-slot.true ∙ ap (λ t. t.is_gone) same ∙ live in cc))))

pub range-requires : goal.range-requires
range-requires g c =
    let i = c.self.inside in
    let read = slice_get_read c.deref.result.now (length c.deref.result.now) c.args.index c.in-Some.slot.now refl (ltb-true _ _ (sym c.in-Some.ensures.lookup.0)) c.in-Some.ensures.lookup.1 in
    let there = subst (λ ss. slice_get ss c.args.index ≡ Some c.in-Some.slot.now) c.deref.ensures.value read in
    let fits = every-get _ i.slots.items c.args.index c.in-Some.slot.now there (laid-fits _ _ 0 (length i.sends.items) i.slots.items c.self.invariant.0.sent) in
    subst (λ ms. c.in-Some.slot.now.first_send + c.in-Some.slot.now.send_count ≤ length ms) (sym c.as_slice.ensures.value) fits

pub returns-clause-none : goal.returns-clause-none
returns-clause-none g c h =
    let i = c.self.inside in
    let read = slice_get_read c.deref.result.now (length c.deref.result.now) c.args.index c.in-Some.slot.now refl (ltb-true _ _ (sym c.in-Some.ensures.lookup.0)) c.in-Some.ensures.lookup.1 in
    let there = subst (λ ss. slice_get ss c.args.index ≡ Some c.in-Some.slot.now) c.deref.ensures.value read in
    absurd (alone-none _ _ _ (live-alone i.sends.items i.records.items i.slots.items c.args.index c.in-Some.slot.now there c.if-slot.false) (subst (λ (v : Page _ _). NonePasses (is_at c.args.index) v.live) (sym c.self.view_is) h))

pub returns-clause-some : goal.returns-clause-some
returns-clause-some g c =
    let i = c.self.inside in
    let read = slice_get_read c.deref.result.now (length c.deref.result.now) c.args.index c.in-Some.slot.now refl (ltb-true _ _ (sym c.in-Some.ensures.lookup.0)) c.in-Some.ensures.lookup.1 in
    let there = subst (λ ss. slice_get ss c.args.index ≡ Some c.in-Some.slot.now) c.deref.ensures.value read in
    let alone = live-alone i.sends.items i.records.items i.slots.items c.args.index c.in-Some.slot.now there c.if-slot.false in
    subst (λ (v : Page _ _). AllByRecursion (λ x. is_at c.args.index x ≡ true → c.range.result.now ≡ x.1.event.sends) v.live) c.self.view_is
    (alone-all _ _ _ _ alone (c.range.ensures ∙ ap (range_of c.in-Some.slot.now.first_send c.in-Some.slot.now.send_count) c.as_slice.ensures.value))
