use Rattle.std.proofs.Common.{◌∙◌, List, ap}
use Rattle.vt_key.specs.promise.Times.{earlier}
use Rattle.vt_key.specs.declared.letter.Letter.{Letter}
use Rattle.vt_steps.specs.promise.Letters.{least_time}
use Rattle.vt_steps.proofs.TimeLemmas.{same_low, earlier-end}
use Rattle.vt_outbox.proofs.outbox.least_of_letters.Goals as goal

pub loop-letter-init : goal.loop-letter-init
loop-letter-init g c =
    let end = c.args.end in
    (tt, tt, same_low end, ap (λ (ls : List (Letter _)). earlier end (least_time end ls)) (c.into_iter-letter-iterator.ensures.into_iter_gives ∙ c.iter-letter-items.ensures) ∙ earlier-end end c.args.letters.now)
