use Rattle.std.proofs.Common.{◌≡◌, ◌≤◌, length, true, false, Some, None, slice_get, refl, sym, ◌∙◌, ap, subst}
use Rattle.std.proofs.lemmas.Bool.{ltb-true}
use Rattle.std.proofs.lemmas.Option.{slice_get_read, slice_get_past}
use Rattle.vt_logs.specs.inside.Sheets.{Page, NonePasses, PassesAlone, is_at}
use Rattle.vt_logs.proofs.SheetLemmas.{note, live-none, live-alone, sent-there}
use Rattle.vt_logs.proofs.sheet.Sheet.get.Goals as goal

pub returns-in_default : goal.returns-in_default
returns-in_default g c =
    let i = c.self.inside in
    let past : length i.slots.items ≤ c.args.index = subst (λ ss. length ss ≤ c.args.index) c.deref.ensures.value c.in_default.ensures.lookup.3 in
    subst (λ (v : Page _ _). NonePasses (is_at c.args.index) v.live) c.self.view_is
    (live-none i.sends.items i.records.items i.slots.items c.args.index (λ s at live. (let h : None ≡ Some s = sym (slice_get_past i.slots.items c.args.index past) ∙ at in absurd (cc))))

pub returns-then-slot : goal.returns-then-slot
returns-then-slot g c =
    let i = c.self.inside in
    let read = slice_get_read c.deref.result.now (length c.deref.result.now) c.args.index c.in-Some.slot.now refl (ltb-true _ _ (sym c.in-Some.ensures.lookup.0)) c.in-Some.ensures.lookup.1 in
    let there = subst (λ ss. slice_get ss c.args.index ≡ Some c.in-Some.slot.now) c.deref.ensures.value read in
    subst (λ (v : Page _ _). NonePasses (is_at c.args.index) v.live) c.self.view_is
    (live-none i.sends.items i.records.items i.slots.items c.args.index
    (λ s at live. (let same : c.in-Some.slot.now ≡ s = let e : Some c.in-Some.slot.now ≡ Some s = sym there ∙ at in cc in let h : true ≡ false = sym c.if-slot.true ∙ ap (λ t. t.is_gone) same ∙ live in absurd (cc))))

pub returns : goal.returns
returns g c =
    let i = c.self.inside in
    let read = slice_get_read c.deref.result.now (length c.deref.result.now) c.args.index c.in-Some.slot.now refl (ltb-true _ _ (sym c.in-Some.ensures.lookup.0)) c.in-Some.ensures.lookup.1 in
    let there = subst (λ ss. slice_get ss c.args.index ≡ Some c.in-Some.slot.now) c.deref.ensures.value read in (
      note i.sends.items i.records.items c.in-Some.slot.now,
      subst (λ (v : Page _ _). PassesAlone (is_at c.args.index) (c.args.index, note i.sends.items i.records.items c.in-Some.slot.now) v.live) c.self.view_is
          (live-alone i.sends.items i.records.items i.slots.items c.args.index c.in-Some.slot.now there c.if-slot.false),
      record { entry = refl; process = refl; before = refl; sent = sym (sent-there i.sends.items i.records.items i.slots.items c.args.index c.in-Some.slot.now there c.self.invariant.0.sent) },
    )
