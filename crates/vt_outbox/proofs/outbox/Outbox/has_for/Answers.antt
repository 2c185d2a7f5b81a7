use Rattle.std.proofs.Common.{sym}
use Rattle.vt_steps.specs.promise.PartSteps.{is_for}
use Rattle.vt_outbox.proofs.OutboxLemmas.{empty-any, none-filter}
use Rattle.vt_outbox.proofs.outbox.Outbox.has_for.Goals as goal

pub returns-in_default : goal.returns-in_default
returns-in_default g c = sym (none-filter (is_for c.args.self.now.config.workers c.args.v) c.args.self.now.letters c.in_default.ensures.unknown)

pub returns : goal.returns
returns g c =
    empty-any (is_for c.args.self.now.config.workers c.args.v) c.args.self.now.letters c.in-Some.list.now c.is_empty.result c.is_empty.ensures c.in-Some.ensures.letters
