use Rattle.std.proofs.Common.{◌≡◌, ◌+◌, ◌-◌, ◌∙◌, true, false, sym, ap, arith}
use Rattle.vt_stream.specs.inside.Words.{word_of, moved}
use Rattle.vt_parts.specs.inside.Drawing.{happens, first_hit, tries}
use Rattle.vt_parts.proofs.DrawingLemmas.{hit_now, hit_later, word_here, moved_more}
use Rattle.vt_parts.proofs.drawing.geometric.Goals as goal

pub returns-then-bernoulli-clause-value : goal.returns-then-bernoulli-clause-value
returns-then-bernoulli-clause-value c =
    let words = word_of c.args.draws.now.stream.now in
    let p = c.args.numerator in
    let q = c.args.denominator in
    let word = word_here c.args.draws.now.stream.now c.tries.draws.stream.now c.tries.failed c.tries.invariant.fresh c.tries.invariant.stream in
    let hit : happens (words c.tries.failed) p q ≡ true = ap (λ w. happens w p q) (sym word) ∙ sym c.bernoulli.ensures.value ∙ c.if-bernoulli.true in
    sym (hit_now words p q c.tries.failed (c.args.limit - c.tries.failed) (omega arith) hit) ∙ c.tries.invariant.value

pub tries-preserved : goal.tries-preserved
tries-preserved c =
    let s = c.args.draws.now.stream.now in
    let words = word_of s in
    let p = c.args.numerator in
    let q = c.args.denominator in
    let at = c.tries.failed in
    let word = word_here s c.tries.draws.stream.now at c.tries.invariant.fresh c.tries.invariant.stream in
    let miss : happens (words at) p q ≡ false = ap (λ w. happens w p q) (sym word) ∙ sym c.bernoulli.ensures.value ∙ c.if-bernoulli.false in
    let left : c.args.limit - (at + 1) ≡ c.args.limit - at - 1 = omega arith in
    record {
      value = ap (first_hit words p q (at + 1)) left ∙ sym (hit_later words p q at (c.args.limit - at) (omega arith) miss) ∙ c.tries.invariant.value;
      drawn = omega (arith, c.bernoulli.ensures.drawn, c.tries.invariant.drawn);
      same_reference = c.bernoulli.ensures.same_reference ∙ c.tries.invariant.same_reference;
      fresh = λ none. absurd (omega (arith, none));
      stream = λ some. moved_more s c.tries.draws.stream.now c.bernoulli.new.draws.stream.now at c.tries.invariant.fresh c.tries.invariant.stream c.bernoulli.ensures.stream;
    }

pub returns-then-bernoulli-clause-stream : goal.returns-then-bernoulli-clause-stream
returns-then-bernoulli-clause-stream c =
    let s = c.args.draws.now.stream.now in
    let tried : c.tries.failed + 1 ≡ tries (word_of s) c.args.numerator c.args.denominator c.args.limit = omega (arith, returns-then-bernoulli-clause-value c) in
    moved_more s c.tries.draws.stream.now c.bernoulli.new.draws.stream.now c.tries.failed c.tries.invariant.fresh c.tries.invariant.stream c.bernoulli.ensures.stream
    ∙ ap (moved s) tried

pub returns-then-bernoulli-clause-drawn : goal.returns-then-bernoulli-clause-drawn
returns-then-bernoulli-clause-drawn c =
    omega (arith, returns-then-bernoulli-clause-value c, c.bernoulli.ensures.drawn, c.tries.invariant.drawn)
