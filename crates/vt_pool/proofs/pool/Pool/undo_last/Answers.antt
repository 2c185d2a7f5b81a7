use Rattle.std.proofs.Common.{rules, ◌≡◌, ◌∙◌, ℕ, ◌<◌, ◌≤◌, ◌+◌, ◌-◌, ◌%◌, ◌^◌, ◌++◌, length, map, sym, ap, subst, arith, Some, None, slice_get, slice_set}
use Rattle.std.specs.List.{last_or}
use Rattle.std.proofs.lemmas.List.{length-map}
use Rattle.std.proofs.lemmas.Option.{none-some, same_Some}
use Rattle.std.proofs.Math.ListN.{length-set}
use Rattle.vt_key.specs.promise.Queues.{letter_rank, insert_letter}
use Rattle.vt_key.specs.inside.Queues.{holds_rank}
use Rattle.vt_key.specs.declared.limits.TheConstants.{MAX_COUNT}
use Rattle.vt_key.specs.declared.letter.Letter.{Letter}
use Rattle.vt_key.specs.declared.letter.Sign.TheVariants.{Plus, Minus}
use Rattle.vt_key.proofs.ListLemmas.{every-weaker}
use Rattle.vt_stream.specs.inside.Words.{Stream}
use Rattle.vt_model.specs.declared.limits.TheConstants.{MAX_DRAWS}
use Rattle.vt_model.specs.declared.process.Process.{Process}
use Rattle.vt_model.specs.inside.Process.{triple_at}
use Rattle.vt_model.specs.promise.Simulation.{Triple}
use Rattle.vt_steps.specs.promise.Letters.{stamped, signed}
use Rattle.vt_lp.specs.inside.Held.{IsOwnEvent, way_back}
use Rattle.vt_lp.proofs.Stamping.{length-letters}
use Rattle.vt_kernel.proofs.ProcessLemmas.{map-put, get-map_of}
use Rattle.vt_kernel.proofs.LocalLemmas.{index-get}
use Rattle.vt_logs.specs.declared.entry.Entry.{Entry}
use Rattle.vt_logs.specs.inside.Events.{Logged}
use Rattle.vt_pool.specs.inside.Logged.{placed, AreMade}
use Rattle.vt_pool.specs.inside.Pool.{pool_after_undo}
use Rattle.vt_pool.specs.inside.Share.{HeldPool}
use Rattle.vt_pool.specs.inside.View.{past_at, number_at}
use Rattle.vt_pool.specs.inside.Steps.{undone_in}
use Rattle.vt_pool.specs.inside.Inside.{IsWorkersEvent, IsStampedApart, IsPoolInside}
use Rattle.vt_pool.proofs.InsideLemmas.{last-there, every-last_there, stamped-apart}
use Rattle.vt_pool.proofs.LoggedLemmas.{sends-of_last, entry-of_last, last-is, last-none, without-placed, every-without_last, every-last_of, nodes-last, last-within}
use Rattle.vt_pool.proofs.PoolLemmas.{pool-undone}
use Rattle.vt_pool.proofs.pool.Pool.undo_last.Given.{Over}
use Rattle.vt_pool.proofs.pool.Pool.undo_last.Goals.{After-index_mut, After-put}
use Rattle.vt_pool.proofs.pool.Pool.undo_last.Goals as goal

-- numbers alone: of the nodes that an undo takes, and of the serials of what was sent
room-for : (all rest sent made kept : ℕ) → all ≡ rest + (1 + sent) → made ≡ sent → all ≤ kept → made ≤ kept
room-for all rest sent made kept nodes is enough = omega arith

one-left : (all rest sent made old new : ℕ) → all ≡ rest + (1 + sent) → made ≡ sent → all ≤ old → old ≡ new + made → 0 < new
one-left all rest sent made old new nodes is enough left = omega arith

few-made : (s n serial sent all most : ℕ) → s ≡ serial → n ≡ sent → serial + sent ≤ all → all ≤ most → s + n ≤ most
few-made s n serial sent all most first second made few = omega arith

pub last-requires : goal.last-requires
last-requires g c =
    let i = c.self.inside in
    let there = subst (λ (v : HeldPool _ _ _). c.args.index < length v.stock.triples) (sym c.self.view_is) c.requires.there in
    let count = length-map i.processes.items (λ (q : Process _ _ _ _). triple_at q.state q.number q.stream) in
    let long = c.self.invariant.2 in
    subst (λ n. c.args.index < n) (count ∙ sym long) there

pub last_sends-sends-requires : goal.last_sends-sends-requires
last_sends-sends-requires g c =
    let i = c.self.inside in
    let there = subst (λ (v : HeldPool _ _ _). c.args.index < length v.stock.triples) (sym c.self.view_is) c.requires.there in
    let count = length-map i.processes.items (λ (q : Process _ _ _ _). triple_at q.state q.number q.stream) in
    let long = c.self.invariant.2 in
    subst (λ n. c.args.index < n) (count ∙ sym long) there

pub take_last-requires : goal.take_last-requires
take_last-requires g c =
    let i = c.self.inside in
    let there = subst (λ (v : HeldPool _ _ _). c.args.index < length v.stock.triples) (sym c.self.view_is) c.requires.there in
    let count = length-map i.processes.items (λ (q : Process _ _ _ _). triple_at q.state q.number q.stream) in
    let long = c.self.invariant.2 in
    subst (λ n. c.args.index < n) (count ∙ sym long) there

pub returns-in_default-clause-undone : goal.returns-in_default-clause-undone
returns-in_default-clause-undone g c event triple last at =
    let i = c.self.inside in
    let none = last-none i.worker c.args.index i.log.events c.in_default.ensures in
    let seen : last_or None (past_at c.args.index (map (placed i.worker) i.log.events)) ≡ Some event = subst (λ (v : HeldPool _ _ _). last_or None (past_at c.args.index v.stock.past) ≡ Some event) (sym c.self.view_is) last in
    absurd (none-some event (sym none ∙ seen))

pub put_letters-requires-clause-room : goal.put_letters-requires-clause-room
put_letters-requires-clause-room g c =
    let i = c.self.inside in
    let e = c.in-Some.ensures.0 in
    let at = c.in-Some.ensures.1 in
    let nodes = nodes-last i.worker c.args.index e i.log.events at in
    let sends = ap length (sends-of_last at c.last_sends-sends.ensures) in
    let enough = c.self.invariant.0.enough in
    room-for _ _ _ _ _ nodes sends enough

pub put_letters-requires-clause-few : goal.put_letters-requires-clause-few
put_letters-requires-clause-few g c =
    let i = c.self.inside in
    let e = c.in-Some.ensures.0 in
    let at = c.in-Some.ensures.1 in
    let sends = ap length (sends-of_last at c.last_sends-sends.ensures) in
    let serial = ap (λ (x : Entry _ _). x.serial) c.in-Some.ensures.2 in
    let made = every-last_of i.worker (λ (d : Logged _ _). d.entry.serial + length d.sends ≤ i.serial) c.args.index e i.log.events c.self.invariant.1 at in
    let few = c.self.invariant.0.few_made in
    few-made _ _ _ _ _ _ serial sends made few

pub index_mut-requires : goal.index_mut-requires
index_mut-requires g c =
    let i = c.self.inside in
    let e = c.in-Some.ensures.0 in
    let within = last-within c.args.index (placed i.worker e).event c.self.invariant.0.known c.self.invariant.0.inside (last-is i.worker c.args.index e i.log.events c.in-Some.ensures.1) in
    let count = length-map i.processes.items (λ (q : Process _ _ _ _). triple_at q.state q.number q.stream) in
    search (rules, within, count)

-- it is one of the worker's events, and no pending letter has its stamp
own : (g : Over) (c : After-index_mut g) → IsOwnEvent c.self.inside.config (number_at c.self.inside.config c.self.inside.worker c.args.index) (placed c.self.inside.worker c.in-Some.ensures.0).event
own g c =
    let i = c.self.inside in
    let past = map (placed i.worker) i.log.events in
    let event = (placed i.worker c.in-Some.ensures.0).event in
    let last = last-is i.worker c.args.index c.in-Some.ensures.0 i.log.events c.in-Some.ensures.1 in
    (every-last_there c.args.index event past (last-there c.args.index event past last) (IsWorkersEvent i.config i.worker) c.self.invariant.0.inside.own_past).own

pub undo_entry-requires-clause-few : goal.undo_entry-requires-clause-few
undo_entry-requires-clause-few g c κs within =
    let mine = own g (goal.at.undo_entry-requires-clause-few g c).After-index_mut in
    subst (λ (x : Entry _ _). x.drawn ≤ MAX_DRAWS) (sym (entry-of_last c.in-Some.ensures.1 c.in-Some-take_last.ensures.taken)) mine.few

pub put-node-requires : goal.put-node-requires
put-node-requires g c =
    let i = c.self.inside in
    let e = c.in-Some.ensures.0 in
    let at = c.in-Some.ensures.1 in
    let nodes = nodes-last i.worker c.args.index e i.log.events at in
    let sends = ap length (sends-of_last at c.last_sends-sends.ensures) in
    let enough = c.self.invariant.0.enough in
    let left = c.put_letters.ensures.taken in
    record { some = one-left _ _ _ _ _ _ nodes sends enough left }

pub put-requires : goal.put-requires
put-requires g c =
    let i = c.self.inside in
    let past = map (placed i.worker) i.log.events in
    let e = c.in-Some.ensures.0 in
    let event = (placed i.worker e).event in
    let last = last-is i.worker c.args.index e i.log.events c.in-Some.ensures.1 in
    let apart : IsStampedApart i.calendar (record { index = c.args.index; event = event }) =
    every-last_there c.args.index event past (last-there c.args.index event past last) (IsStampedApart i.calendar) c.self.invariant.0.inside.apart in
    let node : c.put-node.result ≡ event.letter = c.put-node.ensures.letter ∙ ap (λ (x : Entry _ _). signed Plus x.event) (entry-of_last c.in-Some.ensures.1 c.in-Some-take_last.ensures.taken) in
    ap (λ (l : Letter _). holds_rank (letter_rank l) i.calendar) node
    ∙ stamped-apart event.letter i.calendar (every-weaker _ _ i.calendar (λ l differs same. differs (sym same)) apart)

-- where a process stands
abbrev standing : {M S P K : Type 0} → Process M S P K → Triple S
standing q = triple_at q.state q.number q.stream

-- what is kept of the processes after it
kept-after : (g : Over) (c : After-put g)
    → undone_in c.args.index (placed c.self.inside.worker c.in-Some.ensures.0).event (standing c.undo_entry.new.process)
    (record { triples = map standing c.self.inside.processes.items; past = map (placed c.self.inside.worker) c.self.inside.log.events; pending = c.self.inside.calendar; waiting = c.self.inside.waiting })
    ≡ record { triples = map standing (slice_set c.self.inside.processes.items c.args.index c.undo_entry.new.process); past = map (placed c.self.inside.worker) c.take_last.new.self.events; pending = c.put.new.self; waiting = c.self.inside.waiting }
kept-after g c =
    let i = c.self.inside in
    let event = (placed i.worker c.in-Some.ensures.0).event in
    let node : c.put-node.result ≡ event.letter = c.put-node.ensures.letter ∙ ap (λ (x : Entry _ _). signed Plus x.event) (entry-of_last c.in-Some.ensures.1 c.in-Some-take_last.ensures.taken) in
    let events = ap (map (placed i.worker)) c.take_last.ensures.left ∙ without-placed i.worker c.args.index i.log.events in
    let pending = c.put.ensures ∙ ap (λ (l : Letter _). insert_letter l i.calendar) node in
    λ j. record { triples = sym (map-put standing i.processes.items c.args.index c.undo_entry.new.process) j; past = sym events j; pending = sym pending j; waiting = i.waiting }

-- the outbox after it
sent-after : (g : Over) (c : After-put g) → c.put_letters.new.outbox ≡ record c.self.inside.outbox { letters = c.self.inside.outbox.letters ++ (placed c.self.inside.worker c.in-Some.ensures.0).event.undo_entry.anti_messages }
sent-after g c =
    let i = c.self.inside in
    let e = c.in-Some.ensures.0 in
    let at = c.in-Some.ensures.1 in
    let serial = ap (λ (x : Entry _ _). x.serial) c.in-Some.ensures.2 in
    let sends = sends-of_last at c.last_sends-sends.ensures in
    c.put_letters.ensures.posted ∙ (λ j. record i.outbox { letters = i.outbox.letters ++ map (signed Minus) (stamped i.worker (serial j) (sends j)) })

-- the process was there
there : (g : Over) (c : After-put g) → slice_get c.self.inside.processes.items c.args.index ≡ Some c.index_mut.result.now
there g c =
    let i = c.self.inside in
    let e = c.in-Some.ensures.0 in
    let within = last-within c.args.index (placed i.worker e).event c.self.invariant.0.known c.self.invariant.0.inside (last-is i.worker c.args.index e i.log.events c.in-Some.ensures.1) in
    let count = length-map i.processes.items (λ (q : Process _ _ _ _). standing q) in
    index-get i.processes.items c.args.index c.index_mut.result.now (subst (λ n. c.args.index < n) count within) (sym c.index_mut.ensures.value)

pub invariant_of-self : goal.invariant_of-self
invariant_of-self g c =
    let i = c.self.inside in
    let e = c.in-Some.ensures.0 in
    let at = c.in-Some.ensures.1 in
    let event = (placed i.worker e).event in
    let after = c.undo_entry.new.process in
    let stream = λ (q : Process _ _ _ _). q.stream in
    let mine = own g (goal.at.invariant_of-self g c).After-index_mut in
    let number = c.undo_entry.ensures.number ∙ ap (λ (x : Entry _ _). x.number) (entry-of_last c.in-Some.ensures.1 c.in-Some-take_last.ensures.taken) in
    let moved = c.undo_entry.ensures.stream in
    let sends = ap length (sends-of_last at c.last_sends-sends.ensures) in
    let anti = length-letters Minus i.worker e.entry.serial e.sends in
    let posted = c.put_letters.ensures.taken in
    let put = c.put-node.ensures.taken in
    let pool = pool-undone c.self.invariant.0 c.args.index (standing after) event c.index_mut.result.now.stream after.stream c.put-node.new.self c.put_letters.new.outbox
    (last-is i.worker c.args.index e i.log.events at) (subst (λ n. n ≤ MAX_COUNT) (sym number) mine.numbered)
    (get-map_of stream i.processes.items c.args.index c.index_mut.result.now (there g c)) (ap (λ (s : Stream). s.key) moved) (ap (λ (s : Stream). s.process) moved) (sent-after g c)
    (omega (arith, sends, anti, posted, put)) in
    let streams = sym (map-put stream i.processes.items c.args.index after) in (
      coe 0 1 (j. IsPoolInside i.config i.worker (kept-after g c j) (streams j) c.put_letters.new.outbox i.serial i.reached i.heard.items c.put-node.new.self) pool,
      subst (AreMade i.serial) (sym c.take_last.ensures.left)
          (every-without_last i.worker (λ (d : Logged _ _). d.entry.serial + length d.sends ≤ i.serial) c.args.index i.log.events c.self.invariant.1),
      c.take_last.ensures.processes ∙ c.self.invariant.2 ∙ sym (length-set i.processes.items c.args.index after),
    )

-- where the process stands after it
back : (g : Over) (c : After-put g) → let i = c.self.inside in
    standing c.undo_entry.new.process ≡ way_back (g.M.Model.handlers c.args.model.now) (number_at i.config i.worker c.args.index) (placed i.worker c.in-Some.ensures.0).event (standing c.index_mut.result.now)
back g c =
    let i = c.self.inside in
    let handlers = g.M.Model.handlers c.args.model.now in
    let is = (entry-of_last c.in-Some.ensures.1 c.in-Some-take_last.ensures.taken) in
    let before = c.index_mut.result.now in
    let e = c.in-Some.ensures.0 in
    let event = (placed i.worker e).event in
    let past = map (placed i.worker) i.log.events in
    let last = last-is i.worker c.args.index e i.log.events c.in-Some.ensures.1 in
    let mine = every-last_there c.args.index event past (last-there c.args.index event past last) (IsWorkersEvent i.config i.worker) c.self.invariant.0.inside.own_past in
    let state = c.undo_entry.ensures.state
    ∙ (λ j. handlers.reverse (is j).event.dest (is j).event.rank.key.time (is j).event.payload before.state (is j).bits (is j).kept)
    ∙ ap (λ p. handlers.reverse p e.entry.event.rank.key.time e.entry.event.payload before.state e.entry.bits e.entry.kept) mine.own.own.dest in
    let number = c.undo_entry.ensures.number ∙ ap (λ (x : Entry _ _). x.number) is in
    let place = ap (λ (s : Stream). s.place) c.undo_entry.ensures.stream ∙ ap (λ (x : Entry _ _). (before.stream.place + (2 ^ 64 - x.drawn)) % 2 ^ 64) is in
    λ j. record { state = state j; number = number j; place = place j }

pub returns-clause-undone : goal.returns-clause-undone
returns-clause-undone g c event triple last at =
    let i = c.self.inside in
    let handlers = g.M.Model.handlers c.args.model.now in
    let e = c.in-Some.ensures.0 in
    let event0 = (placed i.worker e).event in
    let before = c.index_mut.result.now in
    let old : HeldPool _ _ _ = record {
      worker = i.worker;
      config = i.config;
      stock = record { triples = map standing i.processes.items; past = map (placed i.worker) i.log.events; pending = i.calendar; waiting = i.waiting };
      outbox = i.outbox.letters;
      serial = i.serial;
      heard = i.heard.items;
    } in
    let last0 : last_or None (past_at c.args.index old.stock.past) ≡ Some event = subst (λ (v : HeldPool _ _ _). last_or None (past_at c.args.index v.stock.past) ≡ Some event) (sym c.self.view_is) last in
    let at0 : slice_get old.stock.triples c.args.index ≡ Some triple = subst (λ (v : HeldPool _ _ _). slice_get v.stock.triples c.args.index ≡ Some triple) (sym c.self.view_is) at in
    let event_is = same_Some event0 event (sym (last-is i.worker c.args.index e i.log.events c.in-Some.ensures.1) ∙ last0) in
    let triple_is = same_Some (standing before) triple (sym (get-map_of (λ (q : Process _ _ _ _). standing q) i.processes.items c.args.index before (there g c)) ∙ at0) in
    (λ j. record old { stock = sym (kept-after g c) j; outbox = (sent-after g c j).letters })
    ∙ (λ j. record old { stock = undone_in c.args.index event0 (back g c j) old.stock; outbox = old.outbox ++ event0.undo_entry.anti_messages })
    ∙ (λ j. pool_after_undo handlers c.args.index (event_is j) (triple_is j) old)
    ∙ ap (λ (v : HeldPool _ _ _). pool_after_undo handlers c.args.index event triple v) c.self.view_is

pub returns-clause-nothing : goal.returns-clause-nothing
returns-clause-nothing g c none =
    let i = c.self.inside in
    let e = c.in-Some.ensures.0 in
    let none0 : last_or None (past_at c.args.index (map (placed i.worker) i.log.events)) ≡ None = subst (λ (v : HeldPool _ _ _). last_or None (past_at c.args.index v.stock.past) ≡ None) (sym c.self.view_is) none in
    absurd (none-some (placed i.worker e).event (sym none0 ∙ last-is i.worker c.args.index e i.log.events c.in-Some.ensures.1))
