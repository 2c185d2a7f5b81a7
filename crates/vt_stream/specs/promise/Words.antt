-- The random words of a process.
use Rattle.std.specs.Prelude.{ℕ, ◌+◌, ◌%◌, ◌^◌, List, ◌++◌, replicate}
use Rattle.std.specs.Int.{w64, to_le_bytes}
use Rattle.rand_chacha.specs.ChaCha.{word_at, key_of}

-- the key of a seed: its eight bytes, the low one first, and 24 zero bytes
abbrev pub seed_key : ℕ → List ℕ
seed_key seed = key_of (to_le_bytes w64 seed ++ replicate 24 0)

-- the word at a position, of ChaCha with 8 rounds; positions repeat after 2 ^ 64
unfoldable pub word : List ℕ → ℕ → ℕ → ℕ
word key process place = word_at 4 key process (place % 2 ^ 64)
