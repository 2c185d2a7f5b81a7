use Rattle.std.proofs.Common.{◌≤◌, arith}
use Rattle.vt_seq.specs.declared.fit.TheConstants.{MOST_SCALE}
use Rattle.vt_seq.proofs.CalendarLemmas.{none-dated, none-falling, none-just}
use Rattle.vt_seq.proofs.calendar.Calendar.new.Goals as goal

pub invariant_of-result : goal.invariant_of-result
invariant_of-result g c =
    let present = c.new-3.result.items in
    record { scaled = (let z : 0 ≤ MOST_SCALE = omega arith in z); falling = none-falling present c.new-3.ensures.items; just_past = none-just 0 0 present c.new-3.ensures.items; dated = none-dated 0 0 0 c.in-Ok.days c.in-Ok.ensures.empty }
