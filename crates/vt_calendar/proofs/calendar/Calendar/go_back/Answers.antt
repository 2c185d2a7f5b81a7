use Rattle.std.proofs.Common.{◌≡◌, ◌++◌, List, [], ℕ, sym, subst, ap, ◌∙◌, ◌-◌, arith}
use Rattle.std.specs.List.Sorted.{IsPermutation}
use Rattle.vt_key.specs.promise.Times.{TimeAtMost}
use Rattle.vt_key.specs.declared.letter.Letter.{Letter}
use Rattle.vt_calendar.specs.inside.Digits.{first_kept}
use Rattle.vt_calendar.specs.inside.Slots.{AreMoved}
use Rattle.vt_calendar.specs.inside.Kept.{earliest, in_order, letters_kept, IsKept}
use Rattle.vt_calendar.proofs.KeptLemmas.{kept-spread, back-same, back-from, back-placed}
use Rattle.vt_calendar.proofs.calendar.Calendar.go_back.Given.{Over}
use Rattle.vt_calendar.proofs.calendar.Calendar.go_back.Goals.{After-take_before, After-spread}
use Rattle.vt_calendar.proofs.calendar.Calendar.go_back.Goals as goal

-- the letters that come first, before those of slots come to them
joined : (g : Over) (c : After-take_before g) → IsPermutation (c.self.inside.present ++ c.self.inside.late) c.put_in_front.new.others
joined g c =
    let letters : List (Letter _) = c.put_in_front.new.others in
    subst (λ (l : List (Letter _)). IsPermutation (c.self.inside.present ++ l) letters) c.replace-letters.ensures.value
    (subst (λ (l : List (Letter _)). IsPermutation (l ++ c.replace-letters.result) letters) c.replace-present.ensures.value c.put_in_front.ensures.same)

moves : (g : Over) (c : After-take_before g) → AreMoved (first_kept c.self.inside.time c.just_before-back.result) c.put_in_front.new.others c.take_before.new.letters c.self.inside.slots c.take_before.new.self
moves g c = subst (λ (bound : ℕ). AreMoved bound c.put_in_front.new.others c.take_before.new.letters c.self.inside.slots c.take_before.new.self) c.first_kept.ensures c.take_before.ensures

least : (g : Over) (c : After-take_before g) → TimeAtMost c.just_before-back.result (earliest c.self.inside.time c.put_in_front.new.others)
least g c =
    let is : c.earliest.result ≡ earliest c.self.inside.time c.put_in_front.new.others = c.earliest.ensures in
    let before : c.just_before-back.result ≡ c.earliest.result - 1 = c.just_before-back.ensures in
    omega (arith, is, before)

pub spread-requires-clause-from : goal.spread-requires-clause-from
spread-requires-clause-from g c =
    let w : After-take_before g = (goal.at.spread-requires-clause-from g c).After-take_before in
    let s = c.self.inside in
    back-from s.time c.just_before-back.result s.present s.late c.put_in_front.new.others c.take_before.new.letters s.slots c.take_before.new.self c.self.invariant.0 (joined g w) (least g w) (moves g w)

whole : (g : Over) (c : After-spread g) → IsPermutation (c.self.inside.present ++ c.self.inside.late) c.put_in_front.new.others
    → TimeAtMost c.just_before-back.result (earliest c.self.inside.time c.put_in_front.new.others)
    → AreMoved (first_kept c.self.inside.time c.just_before-back.result) c.put_in_front.new.others c.take_before.new.letters c.self.inside.slots c.take_before.new.self
    → IsKept c.just_before-back.result c.spread.result [] c.spread.new.slots × (in_order (letters_kept c.spread.result [] c.spread.new.slots) ≡ in_order (letters_kept c.self.inside.present c.self.inside.late c.self.inside.slots))
whole g c all first moved =
    let s = c.self.inside in let letters : List (Letter _) = c.take_before.new.letters in let left : List (List (Letter _)) = c.take_before.new.self in
    kept-spread s.time c.just_before-back.result s.present s.late letters c.spread.result s.slots left c.spread.new.slots c.self.invariant.0
    (back-same s.time c.just_before-back.result s.present s.late c.put_in_front.new.others letters s.slots left c.self.invariant.0 all first moved)
    (back-placed s.time c.just_before-back.result s.present s.late c.put_in_front.new.others letters s.slots left c.self.invariant.0 all first moved)
    c.spread.ensures.spread

pub invariant_of-self : goal.invariant_of-self
invariant_of-self g c =
    let w : After-take_before g = (goal.at.invariant_of-self g c).After-take_before in
    let both = whole g (goal.at.invariant_of-self g c).After-spread (joined g w) (least g w) (moves g w) in (
      subst (λ (l : List (Letter _)). IsKept c.just_before-back.result c.spread.result l c.spread.new.slots) (sym (c.replace-letters.ensures.after ∙ c.new.ensures)) both.0,
      c.spread.ensures.clear,
    )

pub returns : goal.returns
returns g c =
    let w : After-take_before g = (goal.at.returns g c).After-take_before in
    let both = whole g (goal.at.returns g c).After-spread (joined g w) (least g w) (moves g w) in
    ap (λ (l : List (Letter _)). in_order (letters_kept c.spread.result l c.spread.new.slots)) (c.replace-letters.ensures.after ∙ c.new.ensures) ∙ both.1 ∙ c.self.view_is
