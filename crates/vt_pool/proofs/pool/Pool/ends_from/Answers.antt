use Rattle.std.proofs.Common.{◌≡◌, ◌∙◌, ◌<◌, length, ap, subst, sym, arith, not, false, None}
use Rattle.std.specs.List.{last_or}
use Rattle.std.proofs.lemmas.List.{length-map}
use Rattle.vt_key.specs.promise.Order.{rank_before}
use Rattle.vt_logs.specs.declared.entry.Entry.{Entry}
use Rattle.vt_model.specs.declared.process.Process.{Process}
use Rattle.vt_model.specs.inside.Process.{triple_at}
use Rattle.vt_pool.specs.inside.View.{past_at}
use Rattle.vt_pool.specs.inside.Share.{HeldPool}
use Rattle.vt_pool.proofs.LoggedLemmas.{ends_from, ends-here, ends-nowhere}
use Rattle.vt_pool.proofs.pool.Pool.ends_from.Goals as goal

pub last-requires : goal.last-requires
last-requires g c =
    let i = c.self.inside in
    let there = subst (λ (v : HeldPool _ _ _). c.args.index < length v.stock.triples) (sym c.self.view_is) c.requires.there in
    let count = length-map i.processes.items (λ (q : Process _ _ _ _). triple_at q.state q.number q.stream) in
    let long = c.self.invariant.2 in
    omega (arith, there, count, long)

pub returns-in-Some : goal.returns-in-Some
returns-in-Some g c =
    let i = c.self.inside in
    let rank = c.args.rank.now in
    subst (λ (v : HeldPool _ _ _). not c.is_before.result ≡ ends_from i.worker rank (last_or None (past_at c.args.index v.stock.past))) c.self.view_is
    (ap not (c.is_before.ensures ∙ ap (λ (x : Entry _ _). rank_before x.event.rank rank) c.in-Some.ensures.2) ∙ ends-here i.worker c.args.index rank c.in-Some.ensures.0 i.log.events c.in-Some.ensures.1)

pub returns-in-None : goal.returns-in-None
returns-in-None g c =
    let i = c.self.inside in
    let rank = c.args.rank.now in
    subst (λ (v : HeldPool _ _ _). false ≡ ends_from i.worker rank (last_or None (past_at c.args.index v.stock.past))) c.self.view_is
    (ends-nowhere i.worker c.args.index rank i.log.events c.in-None.ensures)
