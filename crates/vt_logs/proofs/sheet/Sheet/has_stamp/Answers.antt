use Rattle.std.proofs.Common.{◌∙◌, ap}
use Rattle.std.specs.List.{list_any}
use Rattle.vt_logs.specs.inside.Events.{is_stamped}
use Rattle.vt_logs.specs.inside.Sheets.{Page, events_in, has_slot_stamp}
use Rattle.vt_logs.proofs.SheetLemmas.{any-live}
use Rattle.vt_logs.proofs.sheet.Sheet.has_stamp.Goals as goal

pub returns : goal.returns
returns g c =
    let i = c.self.inside in
    c.is_any_stamped.ensures ∙ ap (list_any (has_slot_stamp c.args.stamp.now)) c.as_slice.ensures.value
    ∙ any-live i.sends.items i.records.items c.args.stamp.now i.slots.items
    ∙ ap (λ (v : Page _ _). list_any (is_stamped c.args.stamp.now) (events_in v.live)) c.self.view_is
