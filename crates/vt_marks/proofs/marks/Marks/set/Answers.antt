use Rattle.std.proofs.Common.{◌≡◌, ◌∙◌, ◌<◌, ◌/◌, Bool, List, ℕ, ◌++◌, take, drop, length, slice_set, ap, sym, subst, arith}
use Rattle.std.proofs.lemmas.List.{length-set, set_past}
use Rattle.std.proofs.lemmas.List.FromFn.{length-map-range_with_len}
use Rattle.vt_marks.specs.inside.Bits.{is_set, marks_of, AreKept}
use Rattle.vt_marks.proofs.MarkLemmas.{whole, marked-anew, none-anew, summed-anew}
use Rattle.vt_marks.proofs.marks.Marks.set.Goals as goal

pub returns-then-index-self : goal.returns-then-index-self
returns-then-index-self c =
    let i = c.self.inside in
    let long = length-map-range_with_len (is_set i.words.items) 0 i.count in
    sym c.self.view_is ∙ sym (set_past (marks_of i.count i.words.items) c.args.index c.args.value (omega (arith, long, c.if-index-self.true)))
    ∙ ap (λ (bs : List Bool). slice_set bs c.args.index c.args.value) c.self.view_is

pub invariant_of-self : goal.invariant_of-self
invariant_of-self c =
    let i = c.self.inside in
    let h = c.self.invariant in
    let w = c.write-word.ensures in
    let s = c.write.ensures in
    let new = c.write-word.new.words in
    let sums = c.write.new.words in
    let index = c.args.index in
    let at = index / 64 in
    let words_are : new ≡ slice_set i.words.items at c.write-word.result = w.word ∙ ap (λ (ws : List ℕ). slice_set ws at c.write-word.result) c.deref_mut.ensures.value in
    let long : length new ≡ length i.words.items = ap length words_are ∙ length-set i.words.items at c.write-word.result in
    let sums_are : sums ≡ slice_set i.sums.items (at / 64) c.write.result = s.word ∙ ap (λ (ws : List ℕ). slice_set ws (at / 64) c.write.result) c.deref_mut-2.ensures.value in
    let long_sums : length sums ≡ length i.sums.items = ap length sums_are ∙ length-set i.sums.items (at / 64) c.write.result in
    let within : at < length i.words.items = omega (arith, h.placed, c.if-index-self.false) in
    let kept : AreKept i.count new sums = record {
      few_words = omega (arith, long, h.few_words);
      few_sums = omega (arith, long_sums, h.few_sums);
      placed = omega (arith, long, h.placed);
      summed = omega (arith, long, long_sums, h.summed);
      told = summed-anew i.words.items i.sums.items new sums at c.write-word.result within h.told words_are s.own (λ k away. s.others k away ∙ ap (λ (ws : List ℕ). is_set ws k) c.deref_mut-2.ensures.value);
      none_beyond = none-anew i.count i.words.items index c.args.value new w.own (λ k away. w.others k away ∙ ap (λ (ws : List ℕ). is_set ws k) c.deref_mut.ensures.value) (omega (arith, c.if-index-self.false)) h.none_beyond;
    } in
    let len : i.words.len ≡ length i.words.items = i.words.ok.0 in
    let len_sums : i.sums.len ≡ length i.sums.items = i.sums.ok.0 in
    subst (λ (ws : List ℕ). AreKept i.count ws (take i.sums.len (sums ++ drop (length sums) i.sums.items))) (sym (whole new i.words.items i.words.len (len ∙ sym long)))
    (subst (λ (ss : List ℕ). AreKept i.count new ss) (sym (whole sums i.sums.items i.sums.len (len_sums ∙ sym long_sums))) kept)

pub returns : goal.returns
returns c =
    let i = c.self.inside in
    let w = c.write-word.ensures in
    let new = c.write-word.new.words in
    let at = c.args.index / 64 in
    let words_are : new ≡ slice_set i.words.items at c.write-word.result = w.word ∙ ap (λ (ws : List ℕ). slice_set ws at c.write-word.result) c.deref_mut.ensures.value in
    let long : length new ≡ length i.words.items = ap length words_are ∙ length-set i.words.items at c.write-word.result in
    let len : i.words.len ≡ length i.words.items = i.words.ok.0 in
    ap (marks_of i.count) (whole new i.words.items i.words.len (len ∙ sym long))
    ∙ marked-anew i.count i.words.items c.args.index c.args.value new w.own (λ k away. w.others k away ∙ ap (λ (ws : List ℕ). is_set ws k) c.deref_mut.ensures.value)
    ∙ ap (λ (bs : List Bool). slice_set bs c.args.index c.args.value) c.self.view_is
