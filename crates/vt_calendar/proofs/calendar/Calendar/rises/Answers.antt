use Rattle.vt_key.specs.inside.Queues.{IsRising}
use Rattle.std.proofs.Common.{subst}
use Rattle.vt_calendar.specs.inside.Kept.{letters_kept}
use Rattle.vt_calendar.proofs.ApartLemmas.{rising-order}
use Rattle.vt_calendar.proofs.calendar.Calendar.rises.Goals as goal

pub returns : goal.returns
returns g c = subst IsRising c.self.view_is (rising-order (letters_kept c.self.inside.present c.self.inside.late c.self.inside.slots) c.self.invariant.0.apart)
