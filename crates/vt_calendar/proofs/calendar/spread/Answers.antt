use Rattle.std.proofs.Common.{◌≡◌, ◌∷◌, ◌++◌, inl, inr, List, sym, subst, ap, ◌∙◌}
use Rattle.std.specs.List.Sorted.{IsPermutation}
use Rattle.std.proofs.lemmas.List.Sorted.{IsPermutation-sym, IsPermutation-trans, IsPermutation-append_left}
use Rattle.vt_key.specs.promise.Lists.{Among}
use Rattle.vt_key.specs.promise.Times.{TimeBefore, TimeAtMost}
use Rattle.vt_key.specs.declared.letter.Letter.{Letter}
use Rattle.vt_calendar.specs.inside.Digits.{slot_of}
use Rattle.vt_calendar.specs.inside.Slots.{items_in, IsChanged}
use Rattle.vt_calendar.specs.inside.Kept.{time_of, AreFrom}
use Rattle.vt_calendar.proofs.ApartLemmas.{among-permuted}
use Rattle.vt_calendar.proofs.KeptLemmas.{moved-first, moved-last, is-later, isnt-later, items-more, placed-put}
use Rattle.vt_calendar.proofs.calendar.spread.Given.{Over}
use Rattle.vt_calendar.proofs.calendar.spread.Goals.{After-gt}
use Rattle.vt_calendar.proofs.calendar.spread.Goals as goal

-- the time of the letter at hand
time : (g : Over) (c : After-gt g) → c.when-time.result ≡ time_of c.in-Some.letter
time g c = c.when-time.ensures ∙ ap time_of c.get.ensures

-- the letters before it is put anywhere
before : (g : Over) (c : After-gt g) → IsPermutation (c.args.letters ++ items_in c.args.slots.now) (c.in-Some.letter ∷ (c.pop_front.new.self ++ (c.loop-letter.buckets ++ items_in c.loop-letter.slots)))
before g c =
    subst (λ (l : List (Letter _)). IsPermutation (c.args.letters ++ items_in c.args.slots.now) (l ++ (c.loop-letter.buckets ++ items_in c.loop-letter.slots))) c.in-Some.ensures c.loop-letter.invariant.0

from : (g : Over) (c : After-gt g) → AreFrom c.args.now (c.in-Some.letter ∷ c.pop_front.new.self)
from g c = subst (AreFrom c.args.now) c.in-Some.ensures c.loop-letter.invariant.2

pub loop-letter-preserved-then-gt : goal.loop-letter-preserved-then-gt
loop-letter-preserved-then-gt g c =
    let w : After-gt g = (goal.at.loop-letter-preserved-then-gt g c).After-gt in
    let x : Letter _ = c.in-Some.letter in
    let late : TimeBefore c.args.now (time_of x) = subst (λ t. TimeBefore c.args.now t) (time g w) (is-later c.when-time.result c.args.now c.gt.result c.gt.ensures c.if-gt.true) in
    let list : List (Letter _) = c.put.ensures.0 in
    let at : c.slot_of.result ≡ slot_of c.args.now (time_of x) = c.slot_of.ensures.slot ∙ ap (slot_of c.args.now) (time g w) in
    let put : IsChanged (slot_of c.args.now (time_of x)) list (x ∷ list) c.loop-letter.slots c.put.new.self = subst (λ s. IsChanged s list (x ∷ list) c.loop-letter.slots c.put.new.self) at c.put.ensures.1 in (
      moved-last (c.args.letters ++ items_in c.args.slots.now) c.pop_front.new.self c.loop-letter.buckets (items_in c.loop-letter.slots) (items_in c.put.new.self) x (before g w) (items-more (slot_of c.args.now (time_of x)) x list c.loop-letter.slots c.put.new.self put),
      (λ placed. placed-put c.args.now x list c.loop-letter.slots c.put.new.self (c.loop-letter.invariant.1 placed) late put),
      (λ y m. from g w y (inr m)),
      c.loop-letter.invariant.3,
    )

pub loop-letter-preserved : goal.loop-letter-preserved
loop-letter-preserved g c =
    let w : After-gt g = (goal.at.loop-letter-preserved g c).After-gt in
    let x : Letter _ = c.in-Some.letter in
    let all : List (Letter _) = c.args.letters ++ items_in c.args.slots.now in
    let reached : TimeAtMost (time_of x) c.args.now = subst (λ t. TimeAtMost t c.args.now) (time g w) (isnt-later c.when-time.result c.args.now c.gt.result c.gt.ensures c.if-gt.false) in (
      subst (λ (b : List (Letter _)). IsPermutation all (c.pop_front.new.self ++ (b ++ items_in c.loop-letter.slots))) (sym c.put-else-gt.ensures)
          (moved-first all c.pop_front.new.self c.loop-letter.buckets (items_in c.loop-letter.slots) x (before g w)),
      c.loop-letter.invariant.1,
      (λ y m. from g w y (inr m)),
      (λ y m. elim (subst (Among y) c.put-else-gt.ensures m) [
        | inl own ↦ subst (λ (z : Letter _). TimeAtMost (time_of z) c.args.now) (sym own) reached
        | inr n ↦ c.loop-letter.invariant.3 y n
      ]),
    )

pub returns-clause-spread : goal.returns-clause-spread
returns-clause-spread g c =
    let all : List (Letter _) = c.args.letters ++ items_in c.args.slots.now in
    let slots = c.loop-letter.slots in
    let held : List (Letter _) = c.loop-letter.buckets in
    let last : IsPermutation all (held ++ items_in slots) = subst (λ (l : List (Letter _)). IsPermutation all (l ++ (held ++ items_in slots))) c.in_default.ensures.0 c.loop-letter.invariant.0 in
    let present : List (Letter _) = c.take_in_order.result in
    record {
      same = IsPermutation-trans all (held ++ items_in slots) (present ++ items_in slots) last (IsPermutation-append_left (items_in slots) held present (IsPermutation-sym present held c.take_in_order.ensures.same));
      ordered = c.take_in_order.ensures.ordered;
      reached = λ y m. c.loop-letter.invariant.3 y (among-permuted present held c.take_in_order.ensures.same y m);
      placed = c.loop-letter.invariant.1;
    }
