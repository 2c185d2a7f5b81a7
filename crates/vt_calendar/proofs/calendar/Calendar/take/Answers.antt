use Rattle.std.proofs.Common.{◌≡◌, ℕ, List, Some, find, subst, ap, ◌∙◌}
use Rattle.vt_key.specs.promise.Times.{Time, TimeBefore, TimeAtMost}
use Rattle.vt_key.specs.promise.Queues.{has_rank, without_first}
use Rattle.vt_key.specs.declared.letter.Letter.{Letter}
use Rattle.vt_calendar.specs.inside.Digits.{slot_of}
use Rattle.vt_calendar.specs.inside.Slots.{IsChanged}
use Rattle.vt_calendar.specs.inside.Kept.{in_order, letters_kept}
use Rattle.vt_calendar.proofs.KeptLemmas.{is-later, isnt-later}
use Rattle.vt_calendar.proofs.TakenLemmas.{IsWithout, out-of_slot, out-of_late, out-of_present}
use Rattle.vt_calendar.proofs.calendar.Calendar.take.Given.{Over}
use Rattle.vt_calendar.proofs.calendar.Calendar.take.Goals.{After-take, In-Some, After-remove_first-2}
use Rattle.vt_calendar.proofs.calendar.Calendar.take.Goals as goal

of_slot : (g : Over) (c : After-take g) → IsWithout c.args.rank.now c.take.result c.self.inside.time c.self.inside.present c.self.inside.late c.take.new.self (in_order (letters_kept c.self.inside.present c.self.inside.late c.self.inside.slots))
of_slot g c =
    let s = c.self.inside in let rank = c.args.rank.now in let list : List (Letter _) = c.take.ensures.0 in
    let later : TimeBefore s.time rank.key.time = subst (λ (t : Time). TimeBefore s.time t) c.when-time.ensures (is-later c.when-time.result s.time c.gt.result c.gt.ensures c.if-gt.true) in
    let slot : c.slot_of.result ≡ slot_of s.time rank.key.time = c.slot_of.ensures.slot ∙ ap (slot_of s.time) c.when-time.ensures in
    let changed : IsChanged (slot_of s.time rank.key.time) list (without_first (has_rank rank) list) s.slots c.take.new.self = subst (λ (i : ℕ). IsChanged i list (without_first (has_rank rank) list) s.slots c.take.new.self) slot c.take.ensures.1 in
    out-of_slot rank s.time s.present s.late s.slots c.self.invariant.0 c.take.result list c.take.new.self later changed c.take.ensures.2

pub invariant_of-self : goal.invariant_of-self
invariant_of-self g c = ((of_slot g c).kept, c.self.invariant.1)

pub returns-then-gt-clause-letter : goal.returns-then-gt-clause-letter
returns-then-gt-clause-letter g c = (of_slot g c).item ∙ ap (find (has_rank c.args.rank.now)) c.self.view_is

pub returns-then-gt-clause-others : goal.returns-then-gt-clause-others
returns-then-gt-clause-others g c = (of_slot g c).others ∙ ap (without_first (has_rank c.args.rank.now)) c.self.view_is

of_late : (g : Over) (c : In-Some g) → IsWithout c.args.rank.now (Some c.in-Some.letter) c.self.inside.time c.self.inside.present c.remove_first.new.self c.self.inside.slots (in_order (letters_kept c.self.inside.present c.self.inside.late c.self.inside.slots))
of_late g c =
    let s = c.self.inside in
    out-of_late c.args.rank.now s.time s.present s.late s.slots c.self.invariant.0 c.in-Some.letter c.remove_first.new.self c.in-Some.ensures.item c.in-Some.ensures.others

pub invariant_of-self-in-Some : goal.invariant_of-self-in-Some
invariant_of-self-in-Some g c = ((of_late g (goal.at.invariant_of-self-in-Some g c).In-Some).kept, c.self.invariant.1)

pub returns-in-Some-clause-letter : goal.returns-in-Some-clause-letter
returns-in-Some-clause-letter g c = (of_late g (goal.at.returns-in-Some-clause-letter g c).In-Some).item ∙ ap (find (has_rank c.args.rank.now)) c.self.view_is

pub returns-in-Some-clause-others : goal.returns-in-Some-clause-others
returns-in-Some-clause-others g c = (of_late g (goal.at.returns-in-Some-clause-others g c).In-Some).others ∙ ap (without_first (has_rank c.args.rank.now)) c.self.view_is

of_present : (g : Over) (c : After-remove_first-2 g)
    → IsWithout c.args.rank.now c.remove_first-2.result c.self.inside.time c.remove_first-2.new.self c.remove_first.new.self c.self.inside.slots (in_order (letters_kept c.self.inside.present c.self.inside.late c.self.inside.slots))
of_present g c =
    let s = c.self.inside in let rank = c.args.rank.now in
    let reached : TimeAtMost rank.key.time s.time = subst (λ (t : Time). TimeAtMost t s.time) c.when-time.ensures (isnt-later c.when-time.result s.time c.gt.result c.gt.ensures c.if-gt.false) in
    out-of_present rank s.time s.present s.late s.slots c.self.invariant.0 c.remove_first-2.result c.remove_first-2.new.self c.remove_first.new.self reached c.in_default.ensures.item c.remove_first.ensures.others c.remove_first-2.ensures.item c.remove_first-2.ensures.others

pub invariant_of-self-2 : goal.invariant_of-self-2
invariant_of-self-2 g c = ((of_present g c).kept, c.self.invariant.1)

pub returns-clause-letter : goal.returns-clause-letter
returns-clause-letter g c = (of_present g c).item ∙ ap (find (has_rank c.args.rank.now)) c.self.view_is

pub returns-clause-others : goal.returns-clause-others
returns-clause-others g c = (of_present g c).others ∙ ap (without_first (has_rank c.args.rank.now)) c.self.view_is
