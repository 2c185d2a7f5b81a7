use Rattle.std.proofs.Common.{◌≡◌, [], length, rules}
use Rattle.std.proofs.lemmas.List.{nil_from_length}
use Rattle.vt_seq.proofs.CalendarLemmas.{none-dated, none-falling, none-just}
use Rattle.vt_seq.proofs.calendar.Calendar.move_to.Goals as goal

pub invariant_of-self : goal.invariant_of-self
invariant_of-self g c =
    let it = c.args.self.now in
    let zero : length it.present.items ≡ 0 = search rules in
    let none : it.present.items ≡ [] = nil_from_length it.present.items zero in
    record { scaled = c.better_scale-self.ensures; falling = none-falling it.present.items none; just_past = none-just _ _ it.present.items none; dated = none-dated _ _ _ it.days (c.requires none) }
