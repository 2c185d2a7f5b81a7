use Rattle.std.proofs.Common.{◌≡◌, ◌≢◌, ℕ, ◌+◌, ◌%◌, ◌^◌, ◌<◌, ◌∙◌, length, sym, ap, arith, get_or-set_other, get_or-set_same, below_more}
use Rattle.rand_chacha.specs.ChaCha.{ChaCha, next_word}
use Rattle.vt_stream.specs.promise.Words.{seed_key, word}
use Rattle.vt_stream.proofs.WordLemmas.{word-here}
use Rattle.vt_stream.proofs.stream.fill.Goals as goal

pub words-preserved : goal.words-preserved
words-preserved c =
    let key = seed_key c.args.seed in
    let here : ℕ = c.args.first + c.words.word-index in
    let from : ChaCha = record { key = key; stream = c.args.lp; word_pos = here } in
    let gave = c.next_word.ensures ∙ ap (next_word 4) c.words.invariant.next in
    let fits : here < 2 ^ 64 = omega arith in
    let drawn : c.next_word.result ≡ word key c.args.lp here = ap (λ p. p.0) gave ∙ sym (word-here key c.args.lp here fits) in
    let after : here + 1 ≡ c.args.first + (c.words.word-index + 1) = omega arith in
    let in_range : (here + 1) % 2 ^ 68 ≡ c.args.first + (c.words.word-index + 1) = omega arith in
    record {
      written = below_more _ _
          (λ k h. let ne : k ≢ c.words.word-index = omega arith in rw get_or-set_other (c.words.invariant.written k h))
          (let lt : c.words.word-index < length c.words.words = omega arith in rw get_or-set_same drawn);
      next = ap (λ p. p.1) gave ∙ (λ j. record from { word_pos = in_range j });
    }
