use Rattle.std.proofs.Common.{ℕ, ◌≡◌, ◌≢◌, ◌↔◌, [], arith, find, filter, is_some, length, Some, None, option_copied, sym, ap, ◌∙◌, subst}
use Rattle.std.specs.Prelude.{IsBitSet}
use Rattle.vt_key.specs.promise.Queues.{without_first, has_stamp}
use Rattle.vt_pending.specs.inside.Buckets.{in_bucket, not_in_bucket, list_at, without_list, letters_of, AreLists}
use Rattle.vt_pending.proofs.Filters.{find-filter}
use Rattle.vt_pending.proofs.Finding.{is_some-find, without-none}
use Rattle.vt_pending.proofs.Lists.{own, in-own, listed-without}
use Rattle.vt_pending.proofs.Kept.{Keeps, empty-else, marks-of, passing-left, found-marked, length-without}
use Rattle.vt_pending.proofs.pending.Pending.take_stamp.Given.{Over}
use Rattle.vt_pending.proofs.pending.Pending.take_stamp.Goals as goal

pub returns-in_err-find_stamp-clause-others : goal.returns-in_err-find_stamp-clause-others
returns-in_err-find_stamp-clause-others g c =
    let test = has_stamp c.args.stamp in
    let none = sym c.find_stamp.ensures ∙ ap option_copied c.in_err-find_stamp.was in
    sym (without-none test c.args.self.now (sym (is_some-find test c.args.self.now) ∙ ap is_some none))

pub returns-in_err-find_stamp-clause-absent : goal.returns-in_err-find_stamp-clause-absent
returns-in_err-find_stamp-clause-absent g c =
    let test = has_stamp c.args.stamp in
    let none = sym c.find_stamp.ensures ∙ ap option_copied c.in_err-find_stamp.was in
    ((λ e. sym (is_some-find test c.args.self.now) ∙ ap is_some none), (λ e. ap is_some c.from_residual.ensures))

pub take_marked-list-requires-clause-marked : goal.take_marked-list-requires-clause-marked
take_marked-list-requires-clause-marked g c clear =
    let s = c.self.inside in let b = c.bucket-number in
    empty-else (list_at b.result s.lists) (λ some. clear ((c.self.invariant.0.bit b.result b.ensures.within).1 some))

-- the letter that is found is in the list of its time
pub unreachable-requires : goal.unreachable-requires
unreachable-requires g c =
    let s = c.self.inside in let x = c.in_ok-find_stamp.field-0.now in let test = has_stamp c.args.stamp in let all = letters_of s.lists in let b = c.bucket-number in
    let found : find test all ≡ Some x = ap (find test) c.self.view_is ∙ sym c.find_stamp.ensures ∙ ap option_copied c.in_ok-find_stamp.was in
    let own_is : b.result ≡ own x = b.ensures.value in
    let list = c.take_marked-list.ensures.list ∙ c.self.invariant.0.list b.result b.ensures.within ∙ ap (λ n. filter (in_bucket n) all) own_is in
    absurd (let h : None ≡ Some x = sym c.in_default.is ∙ c.remove_first.ensures.item ∙ ap (find test) list ∙ find-filter test (in_bucket (own x)) x all found (in-own x) in cc)

pub put_back-self-inside-requires-clause-marked : goal.put_back-self-inside-requires-clause-marked
put_back-self-inside-requires-clause-marked g c =
    let s = c.self.inside in let x = c.in_ok-find_stamp.field-0.now in let test = has_stamp c.args.stamp in let all = letters_of s.lists in
    let found : find test all ≡ Some x = ap (find test) c.self.view_is ∙ sym c.find_stamp.ensures ∙ ap option_copied c.in_ok-find_stamp.was in
    let own_is : c.bucket-number.result ≡ own x = c.bucket-number.ensures.value in
    subst (IsBitSet s.mask.bits) (sym own_is) (found-marked s.mask.bits test x all (marks-of s.mask.bits s.lists all c.self.invariant.0) found (omega arith))

-- the first letter of the stamp, and what the lists keep without it
record Taken (g : Over) (c : goal.After-self-2-1 g) : Type 0 where
  found : find (has_stamp c.args.stamp) (letters_of c.self.inside.lists) ≡ Some c.in_ok-find_stamp.field-0.now
  letter : c.remove_first.result ≡ find (has_stamp c.args.stamp) (letters_of c.self.inside.lists)
  kept : Keeps c.put_back-self-inside.result.bits c.put_back-self-inside.new.lists (without_first (has_stamp c.args.stamp) (letters_of c.self.inside.lists))

taken : (g : Over) (c : goal.After-self-2-1 g) → Taken g c
taken g c =
    let s = c.self.inside in let x = c.in_ok-find_stamp.field-0.now in let test = has_stamp c.args.stamp in let kept = c.self.invariant.0 in let all = letters_of s.lists in
    let b = c.bucket-number in let left = c.put_back-self-inside in
    let found : find test all ≡ Some x = ap (find test) c.self.view_is ∙ sym c.find_stamp.ensures ∙ ap option_copied c.in_ok-find_stamp.was in
    let own_is : b.result ≡ own x = b.ensures.value in
    let list = c.take_marked-list.ensures.list ∙ kept.list b.result b.ensures.within ∙ ap (λ n. filter (in_bucket n) all) own_is in
    let rest = subst (λ ls. AreLists ls (filter (not_in_bucket (own x)) all)) (ap (λ n. without_list n s.lists) (sym own_is) ∙ sym c.take_marked-list.ensures.others) (listed-without (own x) s.lists all kept.listed) in
    let bit = subst (λ n. IsBitSet left.result.bits n ↔ (c.remove_first.new.self ≢ [])) own_is left.ensures.bit in
    let bits = subst (λ n. (i : ℕ) → i ≢ n → IsBitSet left.result.bits i ↔ IsBitSet s.mask.bits i) own_is left.ensures.others in
    record {
      found = found;
      letter = c.remove_first.ensures.item ∙ ap (find test) list ∙ find-filter test (in_bucket (own x)) x all found (in-own x) ∙ sym found;
      kept = passing-left s.mask.bits left.result.bits test x all c.remove_first.new.self c.take_marked-list.new.lists left.new.lists (marks-of s.mask.bits s.lists all kept) kept.rising found rest
          (c.remove_first.ensures.others ∙ ap (without_first test) list) left.ensures.lists bit bits;
    }

pub invariant_of-self : goal.invariant_of-self
invariant_of-self g c =
    let t = taken g c in
    (t.kept.buckets, omega (arith, ap length t.kept.letters_are, length-without (has_stamp c.args.stamp) c.in_ok-find_stamp.field-0.now (letters_of c.self.inside.lists) t.found, c.self.invariant.1))

pub returns-clause-letter : goal.returns-clause-letter
returns-clause-letter g c = sym c.in-Some.is ∙ (taken g c).letter ∙ ap (find (has_stamp c.args.stamp)) c.self.view_is

pub returns-clause-others : goal.returns-clause-others
returns-clause-others g c = (taken g c).kept.letters_are ∙ ap (without_first (has_stamp c.args.stamp)) c.self.view_is

pub returns-clause-absent : goal.returns-clause-absent
returns-clause-absent g c =
    let same = ap is_some (returns-clause-letter g c) ∙ is_some-find (has_stamp c.args.stamp) c.args.self.now in
    ((λ none. sym same ∙ none), (λ none. same ∙ none))

pub returns-clause-rising : goal.returns-clause-rising
returns-clause-rising g c = (taken g c).kept.buckets.rising
