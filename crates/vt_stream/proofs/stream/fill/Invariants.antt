use Rattle.std.proofs.Common.{◌≡◌, ℕ, ◌+◌, ◌<◌, slice_index}
use Rattle.vt_stream.specs.promise.Words.{seed_key, word}
use Rattle.vt_stream.proofs.stream.fill.Given as goal

abbrev pub invariant-words : goal.invariant-words
invariant-words l = record {
  written : (k : ℕ) → k < l.word-index → slice_index l.words k ≡ word (seed_key l.seed) l.lp (l.first + k);
  next : l.rng ≡ record { key = seed_key l.seed; stream = l.lp; word_pos = l.first + l.word-index };
}
