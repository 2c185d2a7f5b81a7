use Rattle.std.proofs.Common.{◌≡◌, ◌∙◌, ◌+◌, ◌≤◌, List, length, map, sym, ap, subst}
use Rattle.vt_key.proofs.ListLemmas.{every-filter}
use Rattle.vt_model.specs.declared.process.Process.{Process}
use Rattle.vt_model.specs.inside.Process.{triple_at}
use Rattle.vt_logs.specs.inside.Events.{Logged, is_above}
use Rattle.vt_pool.specs.inside.View.{Placed}
use Rattle.vt_pool.specs.inside.Forgotten.{unripe_placed, forgotten_in}
use Rattle.vt_pool.specs.inside.Inside.{IsPoolInside}
use Rattle.vt_pool.specs.inside.Logged.{placed, AreMade}
use Rattle.vt_pool.specs.inside.Share.{HeldPool}
use Rattle.vt_pool.proofs.CommitLemmas.{in-order, placed-above, pool-forgotten}
use Rattle.vt_pool.proofs.pool.Pool.forget.Goals as goal

pub forget-requires : goal.forget-requires
forget-requires g c = in-order c.self.inside.worker c.self.inside.log.events c.self.invariant.0.inside.pasts_rise

pub invariant_of-self : goal.invariant_of-self
invariant_of-self g c =
    let i = c.self.inside in
    let past : map (placed i.worker) c.forget.new.self.events ≡ unripe_placed c.args.floor (map (placed i.worker) i.log.events) =
    ap (map (placed i.worker)) c.forget.ensures.events ∙ placed-above i.worker c.args.floor i.log.events in (
      subst (λ (es : List (Placed _ _)). IsPoolInside i.config i.worker
          (record { triples = map (λ (q : Process _ _ _ _). triple_at q.state q.number q.stream) i.processes.items; past = es; pending = i.calendar; waiting = i.waiting })
          (map (λ (q : Process _ _ _ _). q.stream) i.processes.items) i.outbox i.serial i.reached i.heard.items i.kept) (sym past)
          (pool-forgotten c.args.floor c.self.invariant.0),
      subst (AreMade i.serial) (sym c.forget.ensures.events) (every-filter (λ (e : Logged _ _). e.entry.serial + length e.sends ≤ i.serial) (is_above c.args.floor) i.log.events c.self.invariant.1),
      c.forget.ensures.processes ∙ c.self.invariant.2,
    )

pub returns : goal.returns
returns g c =
    let i = c.self.inside in
    let past : map (placed i.worker) c.forget.new.self.events ≡ unripe_placed c.args.floor (map (placed i.worker) i.log.events) =
    ap (map (placed i.worker)) c.forget.ensures.events ∙ placed-above i.worker c.args.floor i.log.events in
    (λ j. record {
      worker = i.worker;
      config = i.config;
      stock = record { triples = map (λ (q : Process _ _ _ _). triple_at q.state q.number q.stream) i.processes.items; past = past j; pending = i.calendar; waiting = i.waiting };
      outbox = i.outbox.letters;
      serial = i.serial;
      heard = i.heard.items;
    })
    ∙ ap (λ (v : HeldPool _ _ _). record v { stock = forgotten_in c.args.floor v.stock }) c.self.view_is
