use Rattle.std.proofs.Common.{◌≡◌, ◌+◌, ◌++◌, ◌∙◌, [], List, sym, subst, arith}
use Rattle.std.specs.List.Sorted.{IsPermutation}
use Rattle.vt_seq.specs.declared.entry.Entry.{Entry}
use Rattle.vt_seq.specs.inside.Days.{entries_of_days, AreDated}
use Rattle.vt_seq.proofs.CalendarLemmas.{sorted-falling, just-permuted, taken-just, taken-some, dated-taken, entries-taken, none-falling, none-just}
use Rattle.vt_seq.proofs.calendar.Calendar.open.Goals as goal

pub overflow_add-self : goal.overflow_add-self
overflow_add-self g c = omega (arith, c.in-Some.ensures.bound)

pub invariant_of-self : goal.invariant_of-self
invariant_of-self g c =
    let it = c.args.self.now in
    let day = c.in-Some.day in
    let list = c.take_first.new.present.items in
    record {
      scaled = it.scaled;
      falling = sorted-falling c.sort.new.entries.items c.sort.ensures.sorted;
      just_past = just-permuted it.scale (it.base + (day + 1)) list c.sort.new.entries.items c.sort.ensures.permutation (taken-just it.scale it.base it.next day list it.days c.take_first.new.self it.dated c.in-Some.ensures.taken);
      dated = dated-taken it.scale it.base it.next day list it.days c.take_first.new.self it.dated c.in-Some.ensures.taken;
    }

pub invariant_of-self-in_default : goal.invariant_of-self-in_default
invariant_of-self-in_default g c =
    let it = c.args.self.now in
    let none : c.take_first.new.present.items ≡ [] = c.in_default.ensures.present_kept ∙ c.requires in
    record {
      scaled = it.scaled;
      falling = none-falling c.take_first.new.present.items none;
      just_past = none-just it.scale (it.base + it.next) c.take_first.new.present.items none;
      dated = subst (λ (days : List (List (Entry _))). AreDated it.scale it.base it.next days) (sym c.in_default.ensures.kept) it.dated;
    }

pub returns-in-Some-clause-same : goal.returns-in-Some-clause-same
returns-in-Some-clause-same g c =
    let it = c.args.self.now in
    let sorted = c.sort.new.entries.items in
    subst (λ (l : List (Entry _)). IsPermutation (l ++ entries_of_days it.days) (sorted ++ entries_of_days c.take_first.new.self)) (sym c.requires)
    (entries-taken c.in-Some.day c.take_first.new.present.items sorted it.days c.take_first.new.self c.in-Some.ensures.taken c.sort.ensures.permutation)

pub returns-in-Some-clause-settled : goal.returns-in-Some-clause-settled
returns-in-Some-clause-settled g c none =
    absurd (taken-some c.in-Some.day c.take_first.new.present.items c.sort.new.entries.items c.args.self.now.days c.take_first.new.self c.in-Some.ensures.taken c.sort.ensures.permutation none)

pub returns-in-Some-clause-next : goal.returns-in-Some-clause-next
returns-in-Some-clause-next g c none =
    absurd (taken-some c.in-Some.day c.take_first.new.present.items c.sort.new.entries.items c.args.self.now.days c.take_first.new.self c.in-Some.ensures.taken c.sort.ensures.permutation none)
