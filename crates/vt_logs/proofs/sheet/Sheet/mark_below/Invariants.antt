use Rattle.std.proofs.Common.{◌≡◌, false}
use Rattle.std.specs.List.{filter}
use Rattle.vt_logs.specs.inside.Sheets.{stays}
use Rattle.vt_logs.proofs.PresentLemmas.{stays_below}
use Rattle.vt_logs.proofs.sheet.Sheet.mark_below.Given as goal

abbrev pub invariant-loop-index : goal.invariant-loop-index
invariant-loop-index g l = (l.self.live ≡ filter (stays_below (stays l.floor) l.index) l.fn.self.live) × (l.self.has_room ≡ false)
