use Rattle.std.proofs.Common.{ℕ, ◌≡◌, ◌≢◌, ◌↔◌, ◌^◌, arith, bit_or, length, sym, ap, ◌∙◌, subst}
use Rattle.std.specs.Prelude.{IsBitSet}
use Rattle.vt_key.specs.promise.Queues.{insert_letter}
use Rattle.vt_pending.specs.inside.Buckets.{list_at, insert_in, letters_of}
use Rattle.vt_pending.proofs.Lists.{own}
use Rattle.vt_pending.proofs.Words.{set-bit, set-other-bit}
use Rattle.vt_pending.proofs.Kept.{Keeps, empty-else, marks-of, inserted, length-insert}
use Rattle.vt_pending.proofs.pending.Pending.insert_new.Given.{Over}
use Rattle.vt_pending.proofs.pending.Pending.insert_new.Goals as goal

-- the lists keep the letters with the new one
stays : (g : Over) (c : goal.After-self-2-1 g) → Keeps c.with-self-inside.result.bits c.insert_in.new.lists (insert_letter c.args.letter (letters_of c.self.inside.lists))
stays g c =
    let s = c.self.inside in let x = c.args.letter in let kept = c.self.invariant.0 in let all = letters_of s.lists in let new = c.with-self-inside in
    let own_is : c.bucket-number.result ≡ own x = c.bucket-number.ensures.value ∙ ap own c.get.ensures in
    let is = c.in_default.ensures.put ∙ ap (λ n. insert_in n x s.lists) own_is in
    let word = ap (λ k. bit_or s.mask.bits (2 ^ k)) (sym own_is) ∙ sym new.ensures in
    let bit = subst (λ n. IsBitSet n (own x)) word (set-bit s.mask.bits (own x)) in
    let bits = subst (λ n. (i : ℕ) → i ≢ own x → IsBitSet n i ↔ IsBitSet s.mask.bits i) word (set-other-bit s.mask.bits (own x)) in
    inserted s.mask.bits new.result.bits x all s.lists c.insert_in.new.lists (marks-of s.mask.bits s.lists all kept) kept.rising kept.listed c.in_default.ensures.new is bit bits

pub invariant_of-self-2 : goal.invariant_of-self-2
invariant_of-self-2 g c =
    let after = stays g c in
    (after.buckets, omega (arith, ap length after.letters_are, length-insert c.args.letter (letters_of c.self.inside.lists), c.self.invariant.1))

pub returns-clause-letters : goal.returns-clause-letters
returns-clause-letters g c = (stays g c).letters_are ∙ ap (insert_letter c.args.letter) c.self.view_is

pub returns-clause-rising : goal.returns-clause-rising
returns-clause-rising g c = (stays g c).buckets.rising

pub insert_in-requires-clause-marked : goal.insert_in-requires-clause-marked
insert_in-requires-clause-marked g c clear =
    let s = c.self.inside in let b = c.bucket-number in
    empty-else (list_at b.result s.lists) (λ some. clear ((c.self.invariant.0.bit b.result b.ensures.within).1 some))
