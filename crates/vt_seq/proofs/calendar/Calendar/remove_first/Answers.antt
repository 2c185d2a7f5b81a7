use Rattle.std.proofs.Common.{◌+◌}
use Rattle.vt_seq.specs.inside.Days.{entries_of_days}
use Rattle.vt_seq.proofs.CalendarLemmas.{falling-left, just-left, last-out, last-least}
use Rattle.vt_seq.proofs.calendar.Calendar.remove_first.Goals as goal

pub invariant_of-self : goal.invariant_of-self
invariant_of-self g c =
    let it = c.args.self.now in
    let left = c.pop.new.self.items in
    record {
      scaled = it.scaled;
      falling = falling-left left it.present.items c.pop.result c.pop.ensures.items it.falling;
      just_past = just-left it.scale (it.base + it.next) left it.present.items c.pop.result c.pop.ensures.items it.just_past;
      dated = it.dated;
    }

pub returns-clause-rest : goal.returns-clause-rest
returns-clause-rest g c = last-out c.args.self.now.present.items c.pop.new.self.items (entries_of_days c.args.self.now.days) c.in-Some.entry c.in-Some.ensures.items

pub returns-clause-least : goal.returns-clause-least
returns-clause-least g c =
    let it = c.args.self.now in
    last-least it.scale it.base it.next it.present.items c.pop.new.self.items c.in-Some.entry it.days c.in-Some.ensures.items it.falling it.just_past it.dated
