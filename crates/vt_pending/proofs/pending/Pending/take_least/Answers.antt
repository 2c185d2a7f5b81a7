use Rattle.std.proofs.Common.{ℕ, ◌≢◌, ◌↔◌, ◌≡◌, [], ◌∷◌, arith, length, sym, ap, ◌∙◌, subst}
use Rattle.std.specs.Prelude.{IsBitSet}
use Rattle.vt_pending.specs.inside.Buckets.{letters_of, AreLists}
use Rattle.vt_pending.proofs.Lists.{own}
use Rattle.vt_pending.proofs.Kept.{Left, marks-of, first-left, first-marked}
use Rattle.vt_pending.proofs.pending.Pending.take_least.Given.{Over}
use Rattle.vt_pending.proofs.pending.Pending.take_least.Goals as goal

pub put_back-self-inside-requires-clause-marked : goal.put_back-self-inside-requires-clause-marked
put_back-self-inside-requires-clause-marked g c =
    let s = c.self.inside in let x = c.in_ok-letter.letter in let all = letters_of s.lists in
    let own_is : c.bucket-number.result ≡ own x = c.bucket-number.ensures.value ∙ ap own c.get.ensures in
    let listed = subst (λ ls. AreLists ls all) (c.in_ok-list.ensures.lines ∙ ap (λ l. l ∷ c.pop_line.new.self) c.in_ok-letter.ensures) c.self.invariant.0.listed in
    subst (IsBitSet s.mask.bits) (sym own_is) (first-marked s.mask.bits x c.pop_front.new.self all c.pop_line.new.self (marks-of s.mask.bits s.lists all c.self.invariant.0) listed (omega arith))

-- the first letter went
gone : (g : Over) (c : goal.After-self-2-1 g) → Left c.in_ok-letter.letter c.put_back-self-inside.result.bits c.put_back-self-inside.new.lists (letters_of c.self.inside.lists)
gone g c =
    let s = c.self.inside in let x = c.in_ok-letter.letter in let kept = c.self.invariant.0 in let all = letters_of s.lists in let left = c.put_back-self-inside in
    let own_is : c.bucket-number.result ≡ own x = c.bucket-number.ensures.value ∙ ap own c.get.ensures in
    let listed = subst (λ ls. AreLists ls all) (c.in_ok-list.ensures.lines ∙ ap (λ l. l ∷ c.pop_line.new.self) c.in_ok-letter.ensures) kept.listed in
    let bit = subst (λ n. IsBitSet left.result.bits n ↔ (c.pop_front.new.self ≢ [])) own_is left.ensures.bit in
    let bits = subst (λ n. (i : ℕ) → i ≢ n → IsBitSet left.result.bits i ↔ IsBitSet s.mask.bits i) own_is left.ensures.others in
    first-left s.mask.bits left.result.bits x c.pop_front.new.self all c.pop_line.new.self left.new.lists (marks-of s.mask.bits s.lists all kept) kept.rising listed left.ensures.lists bit bits

pub invariant_of-self-2 : goal.invariant_of-self-2
invariant_of-self-2 g c =
    let after = gone g c in
    (after.kept.buckets, omega (arith, ap length after.kept.letters_are, ap length after.is, c.self.invariant.1))

pub returns-clause-letters : goal.returns-clause-letters
returns-clause-letters g c =
    let after = gone g c in
    sym c.self.view_is ∙ after.is ∙ ap (λ ls. c.in_ok-letter.letter ∷ ls) (sym after.kept.letters_are)

pub returns-clause-rising : goal.returns-clause-rising
returns-clause-rising g c = (gone g c).kept.buckets.rising
