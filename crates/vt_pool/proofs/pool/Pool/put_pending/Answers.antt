use Rattle.std.proofs.Common.{◌≡◌, ◌∙◌, List, map, ap, subst, sym}
use Rattle.std.specs.List.{AllByRecursion}
use Rattle.vt_key.specs.promise.Queues.{letter_rank, insert_letter}
use Rattle.vt_key.specs.declared.letter.Letter.{Letter}
use Rattle.vt_key.specs.declared.letter.Sign.TheVariants.{Plus}
use Rattle.vt_model.specs.declared.process.Process.{Process}
use Rattle.vt_model.specs.inside.Process.{triple_at}
use Rattle.vt_pool.specs.inside.View.{Placed}
use Rattle.vt_pool.specs.inside.Logged.{placed}
use Rattle.vt_pool.specs.inside.Share.{HeldPool}
use Rattle.vt_pool.specs.inside.Inside.{IsWorkersLetter, IsHeard, IsPoolInside, placed_rank}
use Rattle.vt_pool.proofs.InsideLemmas.{stamped-apart}
use Rattle.vt_pool.proofs.PoolLemmas.{pool-message}
use Rattle.vt_pool.proofs.pool.Pool.put_pending.Goals as goal

pub put-requires : goal.put-requires
put-requires g c =
    stamped-apart c.args.letter c.self.inside.calendar
    (subst (λ (v : HeldPool _ _ _). AllByRecursion (λ (l : Letter _). (letter_rank c.args.letter).stamp ≡ (letter_rank l).stamp → ⊥) v.stock.pending) (sym c.self.view_is) c.requires.new)

pub invariant_of-self : goal.invariant_of-self
invariant_of-self g c =
    let i = c.self.inside in
    let letter = c.args.letter in
    let back = sym c.self.view_is in
    let mine = subst (λ (v : HeldPool _ _ _). IsWorkersLetter v.config v.worker Plus letter) back c.requires.mine in
    let other = subst (λ (v : HeldPool _ _ _). AllByRecursion (λ (l : Letter _). (letter_rank letter).stamp ≡ (letter_rank l).stamp → ⊥) v.stock.pending) back c.requires.new in
    let other_past = subst (λ (v : HeldPool _ _ _). AllByRecursion (λ (e : Placed _ _). (letter_rank letter).stamp ≡ (placed_rank e).stamp → ⊥) v.stock.past) back c.requires.not_past in
    let heard = subst (λ (v : HeldPool _ _ _). IsHeard v.heard (letter_rank letter).stamp) back c.requires.heard in (
      subst (λ (ls : List (Letter _)). IsPoolInside i.config i.worker
          (record { triples = map (λ (q : Process _ _ _ _). triple_at q.state q.number q.stream) i.processes.items; past = map (placed i.worker) i.log.events; pending = ls; waiting = i.waiting })
          (map (λ (q : Process _ _ _ _). q.stream) i.processes.items) i.outbox i.serial i.reached i.heard.items i.kept) (sym c.put.ensures)
          (pool-message c.self.invariant.0 letter mine other other_past heard),
      c.self.invariant.1,
      c.self.invariant.2,
    )

pub returns : goal.returns
returns g c =
    let i = c.self.inside in
    (λ j. record {
      worker = i.worker;
      config = i.config;
      stock = record { triples = map (λ (q : Process _ _ _ _). triple_at q.state q.number q.stream) i.processes.items; past = map (placed i.worker) i.log.events; pending = c.put.ensures j; waiting = i.waiting };
      outbox = i.outbox.letters;
      serial = i.serial;
      heard = i.heard.items;
    })
    ∙ ap (λ (v : HeldPool _ _ _). record v { stock = record v.stock { pending = insert_letter c.args.letter v.stock.pending } }) c.self.view_is
