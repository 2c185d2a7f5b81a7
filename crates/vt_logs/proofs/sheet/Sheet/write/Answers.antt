use Rattle.std.proofs.Common.{◌≡◌, ◌≤◌, [], ◌∷◌, ◌++◌, length, true, false, refl, sym, ◌∙◌, ap, subst}
use Rattle.vt_logs.specs.declared.slot.Slot.{Slot}
use Rattle.std.specs.List.{sum_by}
use Rattle.vt_logs.specs.inside.Sheets.{Page, live_in, nodes_at, noted_event}
use Rattle.vt_logs.proofs.SheetLemmas.{live-written, sheet-written, sheet-along, dated-wider, earlier-both, fits-short, fits-behind, fits-sends, fits-records, fits-one, fits-needs}
use Rattle.vt_logs.proofs.sheet.Sheet.write.Goals as goal

pub overflow_add-self : goal.overflow_add-self
overflow_add-self g c = fits-one (length c.args.sends.now) c.requires.few_sends

pub overflow_add-self-2 : goal.overflow_add-self-2
overflow_add-self-2 g c =
    let few = subst (λ (v : Page _ _). sum_by nodes_at v.live ≤ 4611686018427387904) (sym c.self.view_is) c.requires.few_nodes in
    fits-needs c.self.inside.needs _ (length c.args.sends.now) c.self.invariant.0.counted few c.requires.few_sends

pub overflow_cast-index : goal.overflow_cast-index
overflow_cast-index g c =
    let room = c.self.invariant.1 (ap (λ (v : Page _ _). v.has_room) c.self.view_is ∙ c.requires.room) in
    fits-short c.len-index.result c.self.inside.slots.len c.len-index.ensures room.slot_named

pub overflow_cast-len : goal.overflow_cast-len
overflow_cast-len g c =
    let room = c.self.invariant.1 (ap (λ (v : Page _ _). v.has_room) c.self.view_is ∙ c.requires.room) in
    fits-short c.len.result c.self.inside.sends.len c.len.ensures room.sends_named

pub overflow_cast-len-2 : goal.overflow_cast-len-2
overflow_cast-len-2 g c =
    let room = c.self.invariant.1 (ap (λ (v : Page _ _). v.has_room) c.self.view_is ∙ c.requires.room) in
    fits-short c.len-2.result c.self.inside.records.len c.len-2.ensures room.records_named

pub overflow_cast-sends : goal.overflow_cast-sends
overflow_cast-sends g c = fits-sends (length c.args.sends.now) c.requires.few_sends

pub overflow_cast-records : goal.overflow_cast-records
overflow_cast-records g c = fits-records (length c.args.records.now) c.requires.few_records

pub push_reserved-requires : goal.push_reserved-requires
push_reserved-requires g c =
    let room = c.self.invariant.1 (ap (λ (v : Page _ _). v.has_room) c.self.view_is ∙ c.requires.room) in
    room.slot

pub append-requires : goal.append-requires
append-requires g c =
    let room = c.self.invariant.1 (ap (λ (v : Page _ _). v.has_room) c.self.view_is ∙ c.requires.room) in
    fits-behind c.self.inside.sends.len (length c.args.sends.now) c.self.inside.sends.cap _ room.sends_fit c.requires.few_sends

pub append-requires-2 : goal.append-requires-2
append-requires-2 g c =
    let room = c.self.invariant.1 (ap (λ (v : Page _ _). v.has_room) c.self.view_is ∙ c.requires.room) in
    fits-behind c.self.inside.records.len (length c.args.records.now) c.self.inside.records.cap _ room.records_fit c.requires.few_records

pub invariant_of-self : goal.invariant_of-self
invariant_of-self g c =
    let i = c.self.inside in
    let first = earlier-both c.earlier-self-inside.result i.earliest c.when-time.result c.earlier-self-inside.ensures in
    let slot : Slot _ _ = record { entry = c.args.entry; before = c.args.before; process = c.args.process; first_send = c.len.result; first_record = c.len-2.result; send_count = length c.args.sends.now; record_count = length c.args.records.now; is_gone = false } in (
      sheet-along c.push_reserved.ensures.items c.append.ensures c.append-2.ensures
          (sheet-written i.slots.items i.sends.items c.args.sends.now i.records.items c.args.records.now i.earliest i.latest i.needs c.self.invariant.0
          slot refl (c.len.ensures ∙ i.sends.ok.0) refl (c.len-2.ensures ∙ i.records.ok.0) refl
          c.earlier-self-inside.result c.later-self-inside.result c.requires.few_records (dated-wider _ _ _ _ _ first.0 c.later-self-inside.ensures.0 c.self.invariant.0.dated)
          (subst (λ t. c.earlier-self-inside.result ≤ t) c.when-time.ensures first.1)
          (subst (λ t. t ≤ c.later-self-inside.result) c.when-time.ensures c.later-self-inside.ensures.1)),
      λ e. (let h : false ≡ true = e in cc),
    )

pub returns : goal.returns
returns g c =
    let i = c.self.inside in
    let slot : Slot _ _ = record { entry = c.args.entry; before = c.args.before; process = c.args.process; first_send = c.len.result; first_record = c.len-2.result; send_count = length c.args.sends.now; record_count = length c.args.records.now; is_gone = false } in
    let written = live-written i.slots.items i.sends.items c.args.sends.now i.records.items c.args.records.now i.earliest i.latest i.needs c.self.invariant.0
    slot refl (c.len.ensures ∙ i.sends.ok.0) refl (c.len-2.ensures ∙ i.records.ok.0) refl in
    let e = (λ j. live_in (c.append.ensures j) (c.append-2.ensures j) (c.push_reserved.ensures.items j)) ∙ written
    ∙ (λ j. (c.self.view_is j).live ++ ((sym i.slots.ok.0 ∙ sym c.len-index.ensures) j, noted_event c.args.process c.args.before c.args.entry c.args.sends.now c.args.records.now) ∷ []) in
    λ j. record { live = e j; has_room = false }
