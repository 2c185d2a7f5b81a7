use Rattle.std.proofs.Common.{rules, ◌≡◌, ◌∙◌, ◌≤◌, inr, List, map, ap, subst, sym, arith, find, Some}
use Rattle.vt_key.specs.promise.Queues.{has_rank, without_first}
use Rattle.vt_key.specs.declared.letter.Letter.{Letter}
use Rattle.vt_model.specs.declared.process.Process.{Process}
use Rattle.vt_model.specs.inside.Process.{triple_at}
use Rattle.vt_pool.specs.inside.Logged.{placed}
use Rattle.vt_pool.specs.inside.Pool.{with_waiting}
use Rattle.vt_pool.specs.inside.Share.{HeldPool}
use Rattle.vt_pool.specs.inside.Inside.{IsPoolInside}
use Rattle.vt_pool.proofs.PoolLemmas.{pool-waiting_taken}
use Rattle.vt_pool.proofs.pool.Pool.cancel.Goals as goal

pub invariant_of-self : goal.invariant_of-self
invariant_of-self g c =
    let i = c.self-2.inside in
    let first = c.keep.ensures in
    let second = c.keep-2.ensures in
    let more : i.kept ≤ c.keep-2.new.self = omega (arith, first, second) in (
      subst (λ (ls : List (Letter _)). IsPoolInside i.config i.worker
          (record { triples = map (λ (q : Process _ _ _ _). triple_at q.state q.number q.stream) i.processes.items; past = map (placed i.worker) i.log.events; pending = i.calendar; waiting = ls })
          (map (λ (q : Process _ _ _ _). q.stream) i.processes.items) i.outbox i.serial i.reached i.heard.items c.keep-2.new.self) (sym c.remove_first.ensures.others)
          (pool-waiting_taken c.self-2.invariant.0 c.args.rank.now c.keep-2.new.self more),
      c.self-2.invariant.1,
      c.self-2.invariant.2,
    )

pub returns : goal.returns
returns g c =
    let i = c.self-2.inside in
    let found : find (has_rank c.args.rank.now) c.self.inside.waiting ≡ Some c.in-Some.waiting.now = sym c.in-Some.ensures in
    inr (record {
      message = c.in-Some-take_for.message;
      anti_message = c.in-Some.waiting.now;
      pending = c.in-Some-take_for.ensures.0;
      waiting = subst (λ (v : HeldPool _ _ _). find (has_rank c.args.rank.now) v.stock.waiting ≡ Some c.in-Some.waiting.now) c.self.view_is found;
      message_dest = c.in-Some-take_for.ensures.1;
      anti_message_dest = search (rules, c.if-waiting-dest.false);
      left = (λ j. record {
        worker = i.worker;
        config = i.config;
        stock = record { triples = map (λ (q : Process _ _ _ _). triple_at q.state q.number q.stream) i.processes.items; past = map (placed i.worker) i.log.events; pending = i.calendar; waiting = c.remove_first.ensures.others j };
        outbox = i.outbox.letters;
        serial = i.serial;
        heard = i.heard.items;
      })
          ∙ ap (λ (v : HeldPool _ _ _). with_waiting (without_first (has_rank c.args.rank.now) v.stock.waiting) v) (c.self-2.view_is ∙ c.in-Some-take_for.ensures.2);
    })
