use Rattle.std.proofs.Common.{◌≡◌, ◌+◌, ◌-◌, ◌++◌, List, [], ◌∷◌, length, rules}
use Rattle.vt_seq.specs.declared.entry.Entry.{Entry}
use Rattle.vt_seq.specs.inside.Days.{entries_of_days}
use Rattle.vt_seq.proofs.CalendarLemmas.{last-split, last-out, last-least}
use Rattle.vt_seq.proofs.calendar.Calendar.first.Given.{Over}
use Rattle.vt_seq.proofs.calendar.Calendar.first.Goals as goal

-- the entries before the last
split : (g : Over) (c : goal.After-index g) → (ys : List (Entry _)) × (c.args.self.now.present.items ≡ ys ++ c.index.result.now ∷ [])
split g c =
    let items = c.args.self.now.present.items in
    let count : length items ≡ (c.len-count.result - 1) + 1 = search rules in
    last-split items (c.len-count.result - 1) c.index.result.now count c.index.ensures

pub returns-clause-among : goal.returns-clause-among
returns-clause-among g c =
    let it = c.args.self.now in
    ((split g c).0 ++ entries_of_days it.days, last-out it.present.items (split g c).0 (entries_of_days it.days) c.index.result.now (split g c).1)

pub returns-clause-least : goal.returns-clause-least
returns-clause-least g c =
    let it = c.args.self.now in
    last-least it.scale it.base it.next it.present.items (split g c).0 c.index.result.now it.days (split g c).1 it.falling it.just_past it.dated
