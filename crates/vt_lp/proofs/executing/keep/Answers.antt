use Rattle.std.proofs.Common.{◌∙◌, [], ◌∷◌, ◌++◌, ap, sym, subst, refl}
use Rattle.vt_key.specs.declared.letter.Letter.{Letter}
use Rattle.vt_key.specs.promise.Queues.{letter_rank, insert_letter}
use Rattle.vt_key.specs.inside.Queues.{holds_rank, IsRising}
use Rattle.vt_past.specs.declared.event.PastEvent.{PastEvent}
use Rattle.vt_pending.proofs.Filters.{insert-first}
use Rattle.vt_lp.proofs.Ends.{none-after}
use Rattle.vt_lp.proofs.executing.keep.Goals as goal

pub insert-requires : goal.insert-requires
insert-requires g c =
    let rest = c.take_least.new.self in
    let rises : IsRising (c.in-Some.letter ∷ rest) = subst IsRising c.in-Some.ensures.letters c.requires.rising in
    ap (λ (l : Letter _). holds_rank (letter_rank l) rest) c.in-Err.ensures.letter_returned ∙ none-after (letter_rank c.in-Some.letter) rest rises.0

pub returns-in-Ok-clause-kept : goal.returns-in-Ok-clause-kept
returns-in-Ok-clause-kept g c =
    (c.in-Some.letter, c.in-Some.ensures.letters, c.push_back.ensures ∙ ap (λ (e : PastEvent _ _). c.args.past.now ++ e ∷ []) c.in-Ok.ensures.made)

pub returns-in-Err-clause-unchanged : goal.returns-in-Err-clause-unchanged
returns-in-Err-clause-unchanged g c =
    let rest = c.take_least.new.self in
    let rises : IsRising (c.in-Some.letter ∷ rest) = subst IsRising c.in-Some.ensures.letters c.requires.rising in
    (c.insert.ensures.letters ∙ ap (λ (l : Letter _). insert_letter l rest) c.in-Err.ensures.letter_returned ∙ insert-first c.in-Some.letter rest rises.0 ∙ sym c.in-Some.ensures.letters, refl)
