use Rattle.std.proofs.Common.{◌++◌, ◌+◌, ◌≤◌, length, sym, ◌∙◌, ap, subst, append-nil}
use Rattle.std.specs.List.{AllByRecursion, flat_map}
use Rattle.vt_model.specs.declared.limits.TheConstants.{MAX_RECORDS}
use Rattle.vt_logs.specs.inside.Events.{rows_below}
use Rattle.vt_logs.specs.inside.Sheets.{Page, events_in, slot_rows}
use Rattle.vt_logs.proofs.LaidLemmas.{laid-fits}
use Rattle.vt_logs.proofs.SheetLemmas.{ge-is, if_ok-then, rows-live, rows-none}
use Rattle.vt_logs.proofs.sheet.Sheet.append_rows.Goals as goal

pub append_rows_in-requires : goal.append_rows_in-requires
append_rows_in-requires g c =
    let i = c.self.inside in
    record {
      within =
          subst (λ ss. AllByRecursion (λ s. s.first_record + s.record_count ≤ length c.as_slice-2.result.now) ss) (sym c.as_slice.ensures.value)
          (subst (λ rs. AllByRecursion (λ s. s.first_record + s.record_count ≤ length rs) i.slots.items) (sym c.as_slice-2.ensures.value) (laid-fits _ _ 0 (length i.records.items) i.slots.items c.self.invariant.0.recorded));
      few = subst (λ ss. AllByRecursion (λ s. s.record_count ≤ MAX_RECORDS) ss) (sym c.as_slice.ensures.value) c.self.invariant.0.few;
    }

pub returns-then-ge-clause-rows : goal.returns-then-ge-clause-rows
returns-then-ge-clause-rows g c =
    let i = c.self.inside in
    let late = ge-is c.ge.result i.earliest c.args.floor c.ge.ensures c.if-ge.true in
    sym (append-nil c.args.rows.now.items)
    ∙ ap (λ rs. c.args.rows.now.items ++ rs) (sym (rows-none c.args.floor i.earliest i.latest _ late c.self.invariant.0.dated) ∙ ap (λ (v : Page _ _). rows_below c.args.floor (events_in v.live)) c.self.view_is)

pub returns-clause-rows : goal.returns-clause-rows
returns-clause-rows g c =
    let i = c.self.inside in
    if_ok-then _ _ c.append_rows_in.result (λ v e. e ∙ (λ j. c.args.rows.now.items ++ flat_map (slot_rows c.args.floor (c.as_slice-2.ensures.value j)) (c.as_slice.ensures.value j))
    ∙ ap (λ rs. c.args.rows.now.items ++ rs) (rows-live i.sends.items i.records.items c.args.floor i.slots.items ∙ ap (λ (v : Page _ _). rows_below c.args.floor (events_in v.live)) c.self.view_is))
    c.append_rows_in.ensures.rows
