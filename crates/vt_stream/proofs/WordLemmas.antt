-- What the words of a stream are, and how large.
use Rattle.std.proofs.Common.{◌≡◌, ℕ, ◌+◌, ◌%◌, ◌^◌, ◌<◌, List, ap, arith}
use Rattle.rand_chacha.specs.ChaCha.{word_at}
use Rattle.rand_chacha.specs.Block.{block_word}
use Rattle.vt_stream.specs.promise.Words.{word}

-- the word at a place itself
pub word-here : (key : List ℕ) (process place : ℕ) → place < 2 ^ 64 → word key process place ≡ word_at 4 key process place
unfolding word
word-here key process place fits =
    let here : place % 2 ^ 64 ≡ place = omega arith in
    ap (word_at 4 key process) here

-- a word is below 2 ^ 32
pub word_below : (key : List ℕ) (process place : ℕ) → word key process place < 2 ^ 32
unfolding word block_word
word_below key process place = omega arith

-- one place modulo 2 ^ 64 has one word
pub word_same : (key : List ℕ) (process a b : ℕ) → a % 2 ^ 64 ≡ b % 2 ^ 64 → word key process a ≡ word key process b
unfolding word
word_same key process a b same = ap (word_at 4 key process) same

-- places repeat after 2 ^ 64
pub word-wraps : (key : List ℕ) (process place i : ℕ) → word key process (place % 2 ^ 64 + i) ≡ word key process (place + i)
word-wraps key process place i = word_same key process (place % 2 ^ 64 + i) (place + i) (omega arith)
