use Rattle.std.proofs.Common.{◌≡◌, ◌∙◌, length, ap, sym, arith}
use Rattle.std.specs.List.{filter}
use Rattle.vt_steps.specs.promise.PartSteps.{is_for}
use Rattle.vt_outbox.specs.inside.Outbox.{HeldOutbox}
use Rattle.vt_outbox.proofs.OutboxLemmas.{if-none, filter-never, never-beyond}
use Rattle.vt_outbox.proofs.outbox.Outbox.list_for.Goals as goal

pub returns-clause-unknown : goal.returns-clause-unknown
returns-clause-unknown g c =
    let i = c.self.inside in
    let all = c.self.invariant.all_there in
    let size : length c.deref.result.now ≡ length i.lists.items = ap length c.deref.ensures.value in
    if-none c.get.result c.args.v (length c.deref.result.now) _ c.get.ensures.lookup.0
    (λ past. ap (λ (o : HeldOutbox _). filter (is_for o.config.workers c.args.v) o.letters) (sym c.self.view_is) ∙ filter-never (is_for i.config.workers c.args.v) (never-beyond i.config c.args.v (omega (arith, past, size, all))) i.all.items)
