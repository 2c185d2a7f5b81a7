use Rattle.vt_calendar.proofs.digits.+high_slot.Given as goal

abbrev pub decreases-high_slot : goal.decreases-high_slot
decreases-high_slot l = l.digits
