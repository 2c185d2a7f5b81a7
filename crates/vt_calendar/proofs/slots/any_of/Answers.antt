use Rattle.std.proofs.Common.{is_some, sym, ap, ◌∙◌}
use Rattle.vt_calendar.proofs.SlotLemmas.{copied-some, find-any}
use Rattle.vt_calendar.proofs.slots.any_of.Goals as goal

pub returns : goal.returns
returns g c = c.is_some.ensures ∙ sym (copied-some c.find.result) ∙ ap is_some c.find.ensures ∙ find-any (g.T.Predicate.passes c.args.test.now) c.args.letters.now
