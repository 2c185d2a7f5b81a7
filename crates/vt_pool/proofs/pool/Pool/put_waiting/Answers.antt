use Rattle.std.proofs.Common.{◌≡◌, ◌∙◌, List, map, ap, subst, sym}
use Rattle.std.specs.List.{AllByRecursion}
use Rattle.vt_key.specs.promise.Queues.{letter_rank, insert_letter}
use Rattle.vt_key.specs.declared.letter.Letter.{Letter}
use Rattle.vt_key.specs.declared.letter.Sign.TheVariants.{Minus}
use Rattle.vt_model.specs.declared.process.Process.{Process}
use Rattle.vt_model.specs.inside.Process.{triple_at}
use Rattle.vt_pool.specs.inside.Logged.{placed}
use Rattle.vt_pool.specs.inside.Pool.{with_waiting}
use Rattle.vt_pool.specs.inside.Share.{HeldPool}
use Rattle.vt_pool.specs.inside.Inside.{IsWorkersLetter, IsPoolInside}
use Rattle.vt_pool.proofs.PoolLemmas.{pool-anti_message}
use Rattle.vt_pool.proofs.pool.Pool.put_waiting.Goals as goal

pub invariant_of-self : goal.invariant_of-self
invariant_of-self g c =
    let i = c.self.inside in
    let letter = c.args.letter in
    let back = sym c.self.view_is in
    let mine = subst (λ (v : HeldPool _ _ _). IsWorkersLetter v.config v.worker Minus letter) back c.requires.mine in
    let other = subst (λ (v : HeldPool _ _ _). AllByRecursion (λ (l : Letter _). (letter_rank letter).stamp ≡ (letter_rank l).stamp → ⊥) v.stock.waiting) back c.requires.new in (
      subst (λ (ls : List (Letter _)). IsPoolInside i.config i.worker
          (record { triples = map (λ (q : Process _ _ _ _). triple_at q.state q.number q.stream) i.processes.items; past = map (placed i.worker) i.log.events; pending = i.calendar; waiting = ls })
          (map (λ (q : Process _ _ _ _). q.stream) i.processes.items) i.outbox i.serial i.reached i.heard.items i.kept) (sym c.insert_ordered.ensures)
          (pool-anti_message c.self.invariant.0 letter mine other),
      c.self.invariant.1,
      c.self.invariant.2,
    )

pub returns : goal.returns
returns g c =
    let i = c.self.inside in
    (λ j. record {
      worker = i.worker;
      config = i.config;
      stock = record { triples = map (λ (q : Process _ _ _ _). triple_at q.state q.number q.stream) i.processes.items; past = map (placed i.worker) i.log.events; pending = i.calendar; waiting = c.insert_ordered.ensures j };
      outbox = i.outbox.letters;
      serial = i.serial;
      heard = i.heard.items;
    })
    ∙ ap (λ (v : HeldPool _ _ _). with_waiting (insert_letter c.args.letter v.stock.waiting) v) c.self.view_is
