use Rattle.std.proofs.Common.{◌≡◌, ◌+◌, ◌-◌, ◌≤◌, ◌∙◌, ℕ, ap, arith}
use Rattle.vt_key.specs.promise.Times.{ticks_of}
use Rattle.vt_seq.specs.inside.Days.{day_of, AreDated}
use Rattle.vt_seq.proofs.CalendarLemmas.{dated-either, entries-put}
use Rattle.vt_seq.proofs.calendar.Calendar.put.Given.{Over}
use Rattle.vt_seq.proofs.calendar.Calendar.put.Goals.{After-day_of-day, After-put}
use Rattle.vt_seq.proofs.calendar.Calendar.put.Goals as goal

-- the event's day is the one that was counted
day_is : (g : Over) (c : After-day_of-day g) → c.day_of-day.result ≡ day_of c.args.self.now.scale (ticks_of c.args.event.now.key.time)
day_is g c = c.day_of-day.ensures ∙ ap (day_of c.args.self.now.scale) (c.ticks.ensures ∙ ap ticks_of c.when.ensures)

-- taken or not, each list has the events of one day
dated : (g : Over) (c : After-put g) → let it = c.args.self.now in AreDated it.scale it.base it.next c.put.new.self
dated g c =
    let it = c.args.self.now in
    let day : ℕ = c.day_of-day.result - it.base in
    let same : c.day_of-day.result ≡ day_of it.scale (ticks_of c.args.event.now.key.time) = day_is g (goal.at-After-put g c).After-day_of-day in
    let at : day_of it.scale (ticks_of c.args.event.now.key.time) ≡ it.base + day = omega (arith, same, c.if-day-self.false) in
    let late : it.next ≤ day = omega (arith, c.if-day-self-2.false) in
    dated-either it.scale it.base it.next day (record { event = c.args.event.now }) it.days c.put.new.self c.put.result c.put.ensures.put c.put.ensures.kept it.dated at late

pub invariant_of-self-in-Ok : goal.invariant_of-self-in-Ok
invariant_of-self-in-Ok g c =
    let it = c.args.self.now in record { scaled = it.scaled; falling = it.falling; just_past = it.just_past; dated = dated g (goal.at.invariant_of-self-in-Ok g c).After-put }

pub invariant_of-self-in-Err : goal.invariant_of-self-in-Err
invariant_of-self-in-Err g c =
    let it = c.args.self.now in record { scaled = it.scaled; falling = it.falling; just_past = it.just_past; dated = dated g (goal.at.invariant_of-self-in-Err g c).After-put }

pub returns-in-Ok-clause-put : goal.returns-in-Ok-clause-put
returns-in-Ok-clause-put g c =
    entries-put _ (record { event = c.args.event.now }) c.args.self.now.present.items c.args.self.now.days c.put.new.self c.in-Ok.ensures.put

pub returns-then-day-self-clause-refused : goal.returns-then-day-self-clause-refused
returns-then-day-self-clause-refused g c near =
    let same = day_is g (goal.at.returns-then-day-self-clause-refused g c).After-day_of-day in
    absurd (omega (arith, same, near.0, c.if-day-self.true))

pub returns-then-day-self-2-clause-refused : goal.returns-then-day-self-2-clause-refused
returns-then-day-self-2-clause-refused g c near =
    let same = day_is g (goal.at.returns-then-day-self-2-clause-refused g c).After-day_of-day in
    absurd (omega (arith, same, near.0, c.if-day-self-2.true))
