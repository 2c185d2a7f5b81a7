-- The random words of a process.
use Rattle.std.specs.Prelude.{◌≡◌, ℕ, ◌+◌, ◌%◌, ◌^◌, ◌<◌, List, slice_index}
use Rattle.vt_stream.specs.promise.Words.{word}

-- what a contract sees of a stream: its key, its process, and the position of its next word
pub record Stream : Type 0 where
  pub key : List ℕ
  pub process : ℕ
  pub place : ℕ

-- the words that a stream still has
abbrev pub word_of : Stream → ℕ → ℕ
word_of s i = word s.key s.process (s.place + i)

-- the stream after n words
abbrev pub moved : Stream → ℕ → Stream
moved s n = record s { place = (s.place + n) % 2 ^ 64 }

-- these are the words of a process from a position on, as many as are known
abbrev pub AreWordsFrom : List ℕ → ℕ → ℕ → ℕ → List ℕ → Type 0
AreWordsFrom key process first len words = (i : ℕ) → i < len → slice_index words i ≡ word key process (first + i)
