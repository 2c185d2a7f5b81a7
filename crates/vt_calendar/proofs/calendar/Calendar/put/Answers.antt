use Rattle.std.proofs.Common.{◌≡◌, ◌∷◌, ℕ, List, false, subst, ap, ◌∙◌}
use Rattle.vt_key.specs.promise.Times.{Time, TimeBefore, TimeAtMost}
use Rattle.vt_key.specs.promise.Queues.{letter_rank, insert_letter}
use Rattle.vt_key.specs.inside.Queues.{holds_rank}
use Rattle.vt_key.specs.declared.letter.Letter.{Letter}
use Rattle.vt_calendar.specs.inside.Digits.{slot_of}
use Rattle.vt_calendar.specs.inside.Slots.{IsChanged}
use Rattle.vt_calendar.specs.inside.Kept.{time_of, in_order, letters_kept, IsKept}
use Rattle.vt_calendar.proofs.KeptLemmas.{is-later, isnt-later, put-in_slot, put-late}
use Rattle.vt_calendar.proofs.calendar.Calendar.put.Given.{Over}
use Rattle.vt_calendar.proofs.calendar.Calendar.put.Goals.{After-gt, After-put, After-insert}
use Rattle.vt_calendar.proofs.calendar.Calendar.put.Goals as goal

-- no letter of its rank is there
new : (g : Over) (c : After-gt g) → holds_rank (letter_rank c.args.letter) (in_order (letters_kept c.self.inside.present c.self.inside.late c.self.inside.slots)) ≡ false
new g c = ap (holds_rank (letter_rank c.args.letter)) c.self.view_is ∙ c.requires

time : (g : Over) (c : After-gt g) → c.when-time.result ≡ time_of c.args.letter
time g c = c.when-time.ensures ∙ ap time_of c.get.ensures

in_slot : (g : Over) (c : After-put g) → c.when-time.result ≡ time_of c.args.letter → holds_rank (letter_rank c.args.letter) (in_order (letters_kept c.self.inside.present c.self.inside.late c.self.inside.slots)) ≡ false
    → IsKept c.self.inside.time c.self.inside.present c.self.inside.late c.put.new.self
    × (in_order (letters_kept c.self.inside.present c.self.inside.late c.put.new.self) ≡ insert_letter c.args.letter (in_order (letters_kept c.self.inside.present c.self.inside.late c.self.inside.slots)))
in_slot g c at none =
    let s = c.self.inside in let x : Letter _ = c.args.letter in let list : List (Letter _) = c.put.ensures.0 in
    let late : TimeBefore s.time (time_of x) = subst (λ (t : Time). TimeBefore s.time t) at (is-later c.when-time.result s.time c.gt.result c.gt.ensures c.if-gt.true) in
    let slot : c.slot_of.result ≡ slot_of s.time (time_of x) = c.slot_of.ensures.slot ∙ ap (slot_of s.time) at in
    let put : IsChanged (slot_of s.time (time_of x)) list (x ∷ list) s.slots c.put.new.self = subst (λ (i : ℕ). IsChanged i list (x ∷ list) s.slots c.put.new.self) slot c.put.ensures.1 in
    put-in_slot s.time s.present s.late list x s.slots c.put.new.self c.self.invariant.0 late put none

pub invariant_of-self : goal.invariant_of-self
invariant_of-self g c =
    let w : After-gt g = (goal.at.invariant_of-self g c).After-gt in
    ((in_slot g c (time g w) (new g w)).0, c.self.invariant.1)

pub returns-then-gt : goal.returns-then-gt
returns-then-gt g c =
    let w : After-gt g = (goal.at.returns-then-gt g c).After-gt in
    (in_slot g c (time g w) (new g w)).1 ∙ ap (insert_letter c.args.letter) c.self.view_is

as_late : (g : Over) (c : After-insert g) → c.when-time.result ≡ time_of c.args.letter → holds_rank (letter_rank c.args.letter) (in_order (letters_kept c.self.inside.present c.self.inside.late c.self.inside.slots)) ≡ false
    → IsKept c.self.inside.time c.self.inside.present c.insert.new.list c.self.inside.slots
    × (in_order (letters_kept c.self.inside.present c.insert.new.list c.self.inside.slots) ≡ insert_letter c.args.letter (in_order (letters_kept c.self.inside.present c.self.inside.late c.self.inside.slots)))
as_late g c at none =
    let s = c.self.inside in let x : Letter _ = c.args.letter in
    let reached : TimeAtMost (time_of x) s.time = subst (λ (t : Time). TimeAtMost t s.time) at (isnt-later c.when-time.result s.time c.gt.result c.gt.ensures c.if-gt.false) in
    put-late s.time s.present s.late c.insert.new.list x s.slots c.self.invariant.0 reached c.insert.ensures none

pub invariant_of-self-2 : goal.invariant_of-self-2
invariant_of-self-2 g c =
    let w : After-gt g = (goal.at.invariant_of-self-2 g c).After-gt in
    ((as_late g c (time g w) (new g w)).0, c.self.invariant.1)

pub returns : goal.returns
returns g c =
    let w : After-gt g = (goal.at.returns g c).After-gt in
    c.count_late.ensures ∙ (as_late g (goal.at.returns g c).After-insert (time g w) (new g w)).1 ∙ ap (insert_letter c.args.letter) c.self.view_is
