-- The words that are drawn one after another.
use Rattle.std.proofs.Common.{◌≡◌, ℕ, ◌+◌, ◌%◌, ◌^◌, ◌<◌, ap, ◌∙◌, arith}
use Rattle.vt_stream.specs.promise.Words.{word}
use Rattle.vt_stream.specs.inside.Words.{Stream, word_of, moved}
use Rattle.vt_stream.proofs.WordLemmas.{word-wraps}

-- n words and then k are n + k words
pub moved-moved : (s : Stream) (n k : ℕ) → moved (moved s n) k ≡ moved s (n + k)
moved-moved s n k =
    let same : ((s.place + n) % 2 ^ 64 + k) % 2 ^ 64 ≡ (s.place + (n + k)) % 2 ^ 64 = omega arith in
    λ j. record s { place = same j }

-- the next word after others have been drawn
pub word_after : (s t : Stream) (n : ℕ) → t ≡ moved s n → word_of t 0 ≡ word_of s n
word_after s t n there =
    let same : s.place + n + 0 ≡ s.place + n = omega arith in
    ap (λ (u : Stream). word_of u 0) there ∙ word-wraps s.key s.process (s.place + n) 0 ∙ ap (word s.key s.process) same

-- where no word has been drawn
pub moved-zero : (s : Stream) → s.place < 2 ^ 64 → s ≡ moved s 0
moved-zero s fits =
    let same : s.place ≡ (s.place + 0) % 2 ^ 64 = omega arith in
    λ j. record s { place = same j }
