use Rattle.std.proofs.Common.{◌≡◌, ◌∙◌, List, map, ap, subst, sym}
use Rattle.vt_key.specs.promise.Queues.{letter_rank, has_rank, insert_letter, without_first}
use Rattle.vt_key.specs.inside.Queues.{holds_rank}
use Rattle.vt_key.specs.declared.letter.Letter.{Letter}
use Rattle.vt_model.specs.declared.process.Process.{Process}
use Rattle.vt_model.specs.inside.Process.{triple_at}
use Rattle.vt_pool.specs.inside.Logged.{placed}
use Rattle.vt_pool.specs.inside.Inside.{IsPoolInside}
use Rattle.vt_pool.proofs.PoolLemmas.{pool-taken}
use Rattle.vt_outbox.proofs.OutboxLemmas.{without-none}
use Rattle.vt_pool.proofs.TakeLemmas.{put-back, taken-apart}
use Rattle.vt_pool.proofs.pool.Pool.take_for.Given.{Over}
use Rattle.vt_pool.proofs.pool.Pool.take_for.Goals.{After-take}
use Rattle.vt_pool.proofs.pool.Pool.take_for.Goals as goal

-- the fields fit with these letters pending, where they do with those
fits-with : (g : Over) (c : After-take g) (old new : List (Letter _)) → old ≡ new → let i = c.self.inside in
    IsPoolInside i.config i.worker (record { triples = map (λ (q : Process _ _ _ _). triple_at q.state q.number q.stream) i.processes.items; past = map (placed i.worker) i.log.events; pending = old; waiting = i.waiting })
    (map (λ (q : Process _ _ _ _). q.stream) i.processes.items) i.outbox i.serial i.reached i.heard.items i.kept
    → IsPoolInside i.config i.worker (record { triples = map (λ (q : Process _ _ _ _). triple_at q.state q.number q.stream) i.processes.items; past = map (placed i.worker) i.log.events; pending = new; waiting = i.waiting })
    (map (λ (q : Process _ _ _ _). q.stream) i.processes.items) i.outbox i.serial i.reached i.heard.items i.kept
fits-with g c old new same h =
    let i = c.self.inside in
    subst (λ (ls : List (Letter _)). IsPoolInside i.config i.worker
    (record { triples = map (λ (q : Process _ _ _ _). triple_at q.state q.number q.stream) i.processes.items; past = map (placed i.worker) i.log.events; pending = ls; waiting = i.waiting })
    (map (λ (q : Process _ _ _ _). q.stream) i.processes.items) i.outbox i.serial i.reached i.heard.items i.kept) same h

-- the pool is seen as before, where its pending letters are as before
unchanged : (g : Over) (c : After-take g) (now : List (Letter _)) → now ≡ c.self.inside.calendar → let i = c.self.inside in
    record {
      worker = i.worker;
      config = i.config;
      stock = record { triples = map (λ (q : Process _ _ _ _). triple_at q.state q.number q.stream) i.processes.items; past = map (placed i.worker) i.log.events; pending = now; waiting = i.waiting };
      outbox = i.outbox.letters;
      serial = i.serial;
      heard = i.heard.items;
    } ≡ c.args.self.now
unchanged g c now is =
    let i = c.self.inside in
    (λ j. record {
      worker = i.worker;
      config = i.config;
      stock = record { triples = map (λ (q : Process _ _ _ _). triple_at q.state q.number q.stream) i.processes.items; past = map (placed i.worker) i.log.events; pending = is j; waiting = i.waiting };
      outbox = i.outbox.letters;
      serial = i.serial;
      heard = i.heard.items;
    })
    ∙ c.self.view_is

pub put-requires : goal.put-requires
put-requires g c =
    let i = c.self.inside in
    ap (λ (ls : List (Letter _)). holds_rank (letter_rank c.in-Some.message) ls) c.in-Some.ensures.others
    ∙ taken-apart c.args.rank.now c.in-Some.message i.calendar c.self.invariant.0.inside.pending_rises (sym c.in-Some.ensures.letter)

pub invariant_of-self : goal.invariant_of-self
invariant_of-self g c =
    let i = c.self.inside in
    let none = c.in_default.ensures.others ∙ without-none (has_rank c.args.rank.now) i.calendar (sym c.in_default.ensures.letter) in
    (fits-with g (goal.at.invariant_of-self g c).After-take i.calendar c.take.new.self (sym none) c.self.invariant.0, c.self.invariant.1, c.self.invariant.2)

pub returns-in_default : goal.returns-in_default
returns-in_default g c =
    let none = c.in_default.ensures.others ∙ without-none (has_rank c.args.rank.now) c.self.inside.calendar (sym c.in_default.ensures.letter) in
    unchanged g (goal.at.returns-in_default g c).After-take c.take.new.self none

pub invariant_of-self-then-get-dest : goal.invariant_of-self-then-get-dest
invariant_of-self-then-get-dest g c =
    let i = c.self.inside in
    let back = c.put.ensures ∙ ap (λ (ls : List (Letter _)). insert_letter c.in-Some.message ls) c.in-Some.ensures.others
    ∙ put-back c.args.rank.now c.in-Some.message i.calendar c.self.invariant.0.inside.pending_rises (sym c.in-Some.ensures.letter) in
    (fits-with g (goal.at.invariant_of-self-then-get-dest g c).After-take i.calendar c.put.new.self (sym back) c.self.invariant.0, c.self.invariant.1, c.self.invariant.2)

pub returns-then-get-dest : goal.returns-then-get-dest
returns-then-get-dest g c =
    let i = c.self.inside in
    let back = c.put.ensures ∙ ap (λ (ls : List (Letter _)). insert_letter c.in-Some.message ls) c.in-Some.ensures.others
    ∙ put-back c.args.rank.now c.in-Some.message i.calendar c.self.invariant.0.inside.pending_rises (sym c.in-Some.ensures.letter) in
    unchanged g (goal.at.returns-then-get-dest g c).After-take c.put.new.self back

pub invariant_of-self-else-get-dest : goal.invariant_of-self-else-get-dest
invariant_of-self-else-get-dest g c =
    let i = c.self.inside in
    (fits-with g (goal.at.invariant_of-self-else-get-dest g c).After-take (without_first (has_rank c.args.rank.now) i.calendar) c.take.new.self (sym c.in-Some.ensures.others) (pool-taken c.self.invariant.0 c.args.rank.now), c.self.invariant.1, c.self.invariant.2)
