-- How the draws go on from word to word.
use Rattle.std.proofs.Common.{◌≡◌, ℕ, zero, suc, ◌+◌, ◌-◌, ◌<◌, ◌∙◌, true, false, if◌then◌else◌, refl, ap, arith}
use Rattle.vt_stream.specs.inside.Words.{Stream, word_of, moved}
use Rattle.vt_stream.proofs.DrawLemmas.{word_after, moved-moved}
use Rattle.vt_parts.specs.inside.Drawing.{happens, first_hit}

-- it happens by this word
pub hit_now : (words : ℕ → ℕ) (p q at left : ℕ) → 0 < left → happens (words at) p q ≡ true → first_hit words p q at left ≡ at
hit_now words p q at zero some e = absurd (omega arith)
hit_now words p q at (suc left) some e = λ i. if e i then at else first_hit words p q (suc at) left

-- it doesn't happen by this word
pub hit_later : (words : ℕ → ℕ) (p q at left : ℕ) → 0 < left → happens (words at) p q ≡ false → first_hit words p q at left ≡ first_hit words p q (at + 1) (left - 1)
hit_later words p q at zero some e = absurd (omega arith)
hit_later words p q at (suc left) some e =
    let next : suc at ≡ at + 1 = omega arith in
    let rest : left ≡ suc left - 1 = omega arith in
    (λ i. if e i then at else first_hit words p q (suc at) left) ∙ (λ i. first_hit words p q (next i) (rest i))

-- the next word of a stream from which n words were drawn
pub word_here : (s t : Stream) (n : ℕ) → (n ≡ 0 → t ≡ s) → (0 < n → t ≡ moved s n) → word_of t 0 ≡ word_of s n
word_here s t zero fresh later = ap (λ (u : Stream). word_of u 0) (fresh refl)
word_here s t (suc n) fresh later = word_after s t (suc n) (later (omega arith))

-- the stream after one more
pub moved_more : (s t u : Stream) (n : ℕ) → (n ≡ 0 → t ≡ s) → (0 < n → t ≡ moved s n) → u ≡ moved t 1 → u ≡ moved s (n + 1)
moved_more s t u zero fresh later drawn = drawn ∙ ap (λ (v : Stream). moved v 1) (fresh refl)
moved_more s t u (suc n) fresh later drawn = drawn ∙ ap (λ (v : Stream). moved v 1) (later (omega arith)) ∙ moved-moved s (suc n) 1
