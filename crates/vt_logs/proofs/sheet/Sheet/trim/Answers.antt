use Rattle.std.proofs.Common.{◌≡◌, true, false, refl, sym, ◌∙◌, ap, subst, append-nil}
use Rattle.vt_logs.specs.inside.Sheets.{Page, IsSheet, live_in}
use Rattle.vt_logs.proofs.SheetLemmas.{live-dropped, sheet-dropped, sheet-along, live-along, room-popped, shorter}
use Rattle.vt_logs.proofs.sheet.Sheet.trim.Goals as goal

pub loop-slot-init : goal.loop-slot-init
loop-slot-init g c = (c.self.invariant.0, ap (λ (v : Page _ _). v.live) c.self.view_is, refl)

pub push_reserved-requires : goal.push_reserved-requires
push_reserved-requires g c =
    let slots = c.loop-slot.self-inside.slots in
    room-popped _ slots.len slots.cap _ c.in-Some.ensures.cases slots.ok.1 c.in-Some.ensures.capacity

pub invariant_of-self : goal.invariant_of-self
invariant_of-self g c = (
  sheet-along (c.push_reserved.ensures.items ∙ sym c.in-Some.ensures.items) refl refl c.loop-slot.invariant.0,
  λ e. (let h : false ≡ true = sym c.loop-slot.invariant.2 ∙ e in cc),
)

pub returns-then-not-slot : goal.returns-then-not-slot
returns-then-not-slot g c =
    let e = live-along (c.push_reserved.ensures.items ∙ sym c.in-Some.ensures.items) refl refl c.loop-slot.invariant.1 in
    λ j. record { live = e j; has_room = c.loop-slot.invariant.2 j }

pub loop-slot-smaller : goal.loop-slot-smaller
loop-slot-smaller g c = shorter c.loop-slot.self-inside.slots.items c.pop.new.self.items c.in-Some.slot c.in-Some.ensures.items

pub loop-slot-preserved : goal.loop-slot-preserved
loop-slot-preserved g c =
    let i = c.loop-slot.self-inside in
    let sheet = subst (λ ss. IsSheet ss i.sends.items i.records.items i.earliest i.latest i.needs) c.in-Some.ensures.items c.loop-slot.invariant.0 in (
      sheet-along refl c.truncate.ensures.items c.truncate-in-Some.ensures.items
          (sheet-dropped c.pop.new.self.items c.in-Some.slot i.sends.items i.records.items i.earliest i.latest i.needs sheet c.if-not-slot.false),
      (λ j. live_in (c.truncate.ensures.items j) (c.truncate-in-Some.ensures.items j) c.pop.new.self.items)
          ∙ sym (live-dropped c.pop.new.self.items c.in-Some.slot i.sends.items i.records.items i.earliest i.latest i.needs sheet c.if-not-slot.false)
          ∙ (λ j. live_in i.sends.items i.records.items (sym c.in-Some.ensures.items j)) ∙ c.loop-slot.invariant.1,
      c.loop-slot.invariant.2,
    )

pub invariant_of-self-in_default : goal.invariant_of-self-in_default
invariant_of-self-in_default g c = (
  sheet-along (sym (c.in_default.ensures.items ∙ append-nil c.pop.new.self.items)) refl refl c.loop-slot.invariant.0,
  λ e. (let h : false ≡ true = sym c.loop-slot.invariant.2 ∙ e in cc),
)

pub returns : goal.returns
returns g c =
    let e = live-along (sym (c.in_default.ensures.items ∙ append-nil c.pop.new.self.items)) refl refl c.loop-slot.invariant.1 in
    λ j. record { live = e j; has_room = c.loop-slot.invariant.2 j }
