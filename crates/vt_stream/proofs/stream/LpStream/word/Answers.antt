use Rattle.std.proofs.Common.{◌≡◌, ◌+◌, ◌-◌, ◌%◌, ◌<◌, ◌^◌, ◌∙◌, slice_index, ap, arith, rules}
use Rattle.vt_stream.specs.promise.Words.{seed_key}
use Rattle.vt_stream.specs.inside.Words.{Stream, word_of}
use Rattle.vt_stream.proofs.WordLemmas.{word_same}
use Rattle.vt_stream.proofs.stream.LpStream.word.Goals as goal
use Rattle.vt_stream.proofs.stream.LpStream.word.Goals.{then-at-self, else-at-self}

pub returns-clause-value : goal.returns-clause-value
returns-clause-value c =
    let a = c.self.inside in
    let key = seed_key a.seed in
    elim c.if-at-self.branch [
      | then-at-self w ↦
          let here : (a.place - a.place % 32 + a.place % 32) % 2 ^ 64 ≡ (a.place + 0) % 2 ^ 64 = omega arith in
          (λ j. slice_index (w.self-inside-is j).words (w.at-is j))
          ∙ w.fill.ensures (a.place % 32) (omega arith)
          ∙ word_same key a.lp (a.place - a.place % 32 + a.place % 32) (a.place + 0) here
          ∙ ap (λ (s : Stream). word_of s 0) c.self.view_is
      | else-at-self w ↦
          let at = (a.place + (2 ^ 64 - a.first)) % 2 ^ 64 in
          let fits : a.first < 2 ^ 64 = search rules in
          let here : (a.first + at) % 2 ^ 64 ≡ (a.place + 0) % 2 ^ 64 = omega arith in
          (λ j. slice_index (w.self-inside-is j).words (w.at-is j))
          ∙ c.self.invariant.1 at w.if-at-self.false
          ∙ word_same key a.lp (a.first + at) (a.place + 0) here
          ∙ ap (λ (s : Stream). word_of s 0) c.self.view_is
    ]
