use Rattle.std.proofs.Common.{◌∙◌, List, slice_get, ap, sym}
use Rattle.vt_steps.specs.promise.PartSteps.{is_for}
use Rattle.vt_key.specs.declared.letter.Letter.{Letter}
use Rattle.vt_outbox.proofs.OutboxLemmas.{find-filter}
use Rattle.vt_outbox.proofs.outbox.Outbox.first_for.Goals as goal

pub returns-in_default : goal.returns-in_default
returns-in_default g c =
    sym (find-filter (is_for c.args.self.now.config.workers c.args.v) c.args.self.now.letters ∙ ap (λ (ls : List (Letter _)). slice_get ls 0) c.in_default.ensures.unknown)

pub returns : goal.returns
returns g c =
    c.front.ensures ∙ ap (λ (ls : List (Letter _)). slice_get ls 0) c.in-Some.ensures.letters ∙ sym (find-filter (is_for c.args.self.now.config.workers c.args.v) c.args.self.now.letters)
