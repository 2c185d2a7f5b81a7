use Rattle.std.proofs.Common.{◌≡◌, ◌∙◌, List, map, sym, ap, subst}
use Rattle.std.specs.Option.{option_map_or}
use Rattle.vt_key.specs.promise.Times.{Time, earlier}
use Rattle.vt_key.specs.declared.letter.Letter.{Letter}
use Rattle.vt_key.specs.declared.letter.Sign.TheVariants.{Plus}
use Rattle.vt_model.specs.declared.process.Process.{Process}
use Rattle.vt_model.specs.inside.Process.{triple_at}
use Rattle.vt_model.specs.promise.Settings.{end_of}
use Rattle.vt_steps.specs.promise.Letters.{least_time}
use Rattle.vt_pool.specs.inside.Inside.{IsPoolInside}
use Rattle.vt_pool.specs.inside.Logged.{placed}
use Rattle.vt_pool.specs.inside.Share.{HeldPool}
use Rattle.vt_pool.proofs.LeastLemmas.{least-rising, soon-all}
use Rattle.vt_pool.proofs.pool.Pool.next_time.Goals as goal

pub invariant_of-self : goal.invariant_of-self
invariant_of-self g c =
    let i = c.self.inside in (
      subst (λ (ls : List (Letter _)). IsPoolInside i.config i.worker
          (record { triples = map (λ (q : Process _ _ _ _). triple_at q.state q.number q.stream) i.processes.items; past = map (placed i.worker) i.log.events; pending = ls; waiting = i.waiting })
          (map (λ (q : Process _ _ _ _). q.stream) i.processes.items) i.outbox i.serial i.reached i.heard.items i.kept) (sym c.first_time.ensures.unchanged) c.self.invariant.0,
      c.self.invariant.1,
      c.self.invariant.2,
    )

pub returns-clause-next : goal.returns-clause-next
returns-clause-next g c =
    let i = c.self.inside in
    let inside = c.self.invariant.0.inside in
    let end = end_of i.config in
    c.earlier_if_some.ensures ∙ (λ j. option_map_or (λ (t : Time). earlier t (c.end-end.ensures j)) (c.first_time.ensures.time j) (c.end-end.ensures j))
    ∙ least-rising end i.calendar inside.pending_rises (soon-all i.config i.worker Plus i.calendar inside.own_pending)
    ∙ ap (λ (v : HeldPool _ _ _). least_time (end_of v.config) v.stock.pending) c.self.view_is

pub returns-clause-same : goal.returns-clause-same
returns-clause-same g c =
    let i = c.self.inside in
    (λ j. record {
      worker = i.worker;
      config = i.config;
      stock = record { triples = map (λ (q : Process _ _ _ _). triple_at q.state q.number q.stream) i.processes.items; past = map (placed i.worker) i.log.events; pending = c.first_time.ensures.unchanged j; waiting = i.waiting };
      outbox = i.outbox.letters;
      serial = i.serial;
      heard = i.heard.items;
    })
    ∙ c.self.view_is
