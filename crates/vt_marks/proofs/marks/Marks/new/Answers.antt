use Rattle.std.proofs.Common.{rules, ◌≡◌, ◌∙◌, ℕ, List, replicate, ap}
use Rattle.vt_marks.specs.inside.Bits.{marks_of}
use Rattle.vt_marks.proofs.MarkLemmas.{none-marked}
use Rattle.vt_marks.proofs.marks.Marks.new.Goals as goal

pub returns : goal.returns
returns c =
    let zeros : c.in_ok-words.words.items ≡ replicate c.div_ceil.result 0 = search (rules, c.in_ok-words.ensures.items_if_clones_equal) in
    ap (λ (ws : List ℕ). marks_of c.args.count ws) zeros ∙ none-marked c.args.count c.div_ceil.result
