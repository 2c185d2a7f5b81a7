use Rattle.std.proofs.Common.{rules, ◌≡◌, ◌∙◌, ◌+◌, ◌*◌, ◌/◌, ◌<◌, ◌≤◌, ◌++◌, List, [], ◌∷◌, length, map, sym, ap, subst, arith, inl, inr, refl, IfSome, Some, slice_get, slice_set}
use Rattle.std.specs.List.{sum_by, AllByRecursion}
use Rattle.std.proofs.Math.ListN.{length-set}
use Rattle.std.proofs.lemmas.Bool.{true≢false, false≢true}
use Rattle.std.proofs.lemmas.List.{length-map, map-append}
use Rattle.vt_key.specs.promise.Times.{TimeAtMost}
use Rattle.vt_key.specs.inside.Order.{RankBefore}
use Rattle.vt_key.specs.promise.Queues.{letter_rank}
use Rattle.vt_key.specs.declared.limits.TheConstants.{MAX_COUNT}
use Rattle.vt_key.specs.declared.letter.Letter.{Letter}
use Rattle.vt_key.specs.declared.letter.Sign.TheVariants.{Plus}
use Rattle.vt_key.proofs.ListLemmas.{every-append, every-get, every-weaker}
use Rattle.vt_stream.specs.inside.Words.{Stream}
use Rattle.vt_model.specs.declared.limits.TheConstants.{MAX_SENDS}
use Rattle.vt_model.specs.declared.sending.Sent.{Sent}
use Rattle.vt_model.specs.declared.process.Process.{Process}
use Rattle.vt_model.specs.inside.Process.{triple_at, IsProcessStream}
use Rattle.vt_model.specs.promise.Settings.{end_of}
use Rattle.vt_model.specs.promise.Simulation.{Triple, simulation_of}
use Rattle.vt_model.proofs.Sizes.{out_fits}
use Rattle.vt_pending.proofs.Filters.{insert-first}
use Rattle.vt_steps.specs.promise.Letters.{stamped, signed}
use Rattle.vt_steps.specs.inside.StandsFor.{IsRemembered}
use Rattle.vt_steps.specs.promise.World.{Part}
use Rattle.vt_lp.specs.inside.Held.{remembered}
use Rattle.vt_lp.specs.inside.Past.{IsAdvanceRefusal}
use Rattle.vt_lp.proofs.Ends.{none-after}
use Rattle.vt_logs.specs.inside.Events.{Logged}
use Rattle.vt_kernel.specs.inside.Held.{StandsFor}
use Rattle.vt_kernel.proofs.ProcessLemmas.{map-put, get-map_of}
use Rattle.vt_kernel.proofs.LocalLemmas.{index-get, written-same}
use Rattle.vt_pool.specs.declared.pool.Pool.TheInside.{Inside}
use Rattle.vt_pool.specs.inside.View.{Stock, number_at}
use Rattle.vt_pool.specs.inside.Steps.{executed_in}
use Rattle.vt_pool.specs.inside.Logged.{placed, AreMade}
use Rattle.vt_pool.specs.inside.Inside.{AreSettled, IsHeard, IsPoolInside, nodes_of}
use Rattle.vt_pool.specs.inside.Share.{HeldShare, HeldPool, PoolLeadsTo, with_pool, seen}
use Rattle.vt_pool.specs.inside.Executing.{AreDelivered, past_of, fired_by, pool_after_execute, IsFired, HasExecuted, IsNotExecuted}
use Rattle.vt_pool.proofs.ForceLemmas.{pool-nothing, pool-both}
use Rattle.vt_pool.proofs.SettleLemmas.{executed-settled}
use Rattle.vt_pool.proofs.PoolLemmas.{streams-get}
use Rattle.vt_pool.proofs.DeliveryLemmas.{IsWellDelivered, delivered, messages-of}
use Rattle.vt_pool.proofs.ExecutionLemmas.{pool-executed, pool-taken_back, can-be, not-executed, has-executed, executed-leads, stays-leads, nodes-logged, IsTaken, taken}
use Rattle.vt_pool.proofs.pool.Pool.execute_next.Given.{Over}
use Rattle.vt_pool.proofs.pool.Pool.execute_next.Goals.{After-index-index, After-index_mut-process, After-put, After-keep, After-write-self-inside, After-index_mut-most, After-deliver}
use Rattle.vt_pool.proofs.pool.Pool.execute_next.Goals as goal

-- where a process stands
abbrev standing : {M S P K : Type 0} → Process M S P K → Triple S
standing q = triple_at q.state q.number q.stream

abbrev stream_of : {M S P K : Type 0} → Process M S P K → Stream
stream_of q = q.stream

-- what contracts see of a pool with this inside
abbrev stock_of : {M S P K : Type 0} → Inside M S P K → Stock S P K
stock_of i = record { triples = map standing i.processes.items; past = map (placed i.worker) i.log.events; pending = i.calendar; waiting = i.waiting }

abbrev view_of : {M S P K : Type 0} → Inside M S P K → HeldPool S P K
view_of i = record { worker = i.worker; config = i.config; stock = stock_of i; outbox = i.outbox.letters; serial = i.serial; heard = i.heard.items }

-- the letter that was taken out, and the process at its index
facts : (g : Over) (c : After-index-index g)
    → IsTaken c.self.inside.config c.self.inside.worker (stock_of c.self.inside) c.in-Some.letter c.take_first.new.self c.index-index.result
facts g c =
    let i = c.self.inside in
    taken c.in-Some.letter c.take_first.new.self c.index-index.result c.self.invariant.0.known c.self.invariant.0.inside
    (subst (λ (v : HeldPool _ _ _). AreSettled v.stock) (sym c.self.view_is) c.requires.settled) c.in-Some.ensures
    (c.index-index.ensures ∙ ap (λ (l : Letter _). l.event.dest / i.config.workers) c.get-first.ensures)

within : (g : Over) (c : After-index-index g) → c.index-index.result < length c.self.inside.processes.items
within g c =
    let there = (facts g c).within in
    let count = length-map c.self.inside.processes.items (λ (q : Process _ _ _ _). standing q) in
    omega (arith, there, count)

pub index_mut-process-requires : goal.index_mut-process-requires
index_mut-process-requires g c = search (rules, within g (goal.at.index_mut-process-requires g c).After-index-index)

there : (g : Over) (c : After-index_mut-process g) → c.index-index.result < length c.self.inside.processes.items → slice_get c.self.inside.processes.items c.index-index.result ≡ Some c.index_mut-process.result.now
there g c less = index-get c.self.inside.processes.items c.index-index.result c.index_mut-process.result.now less (sym c.index_mut-process.ensures.value)

pub fire-requires-send-M-Payload : goal.fire-requires-send-M-Payload
fire-requires-send-M-Payload g c = λ _ _. c.type_bounds.send-M-Payload

pub fire-requires-after_bounds : goal.fire-requires-after_bounds
fire-requires-after_bounds g c κs within_bounds =
    let at = goal.at.fire-requires-after_bounds g c in
    let i = c.self.inside in
    let h = c.self.invariant.0 in
    let t = facts g at.After-index-index in
    let index = c.index-index.result in
    let process = c.index_mut-process.result.now in
    let got = there g at.After-index_mut-process (within g at.After-index-index) in
    let few = every-get (λ (t : Triple _). t.number ≤ MAX_COUNT) (map standing i.processes.items) index (standing process) (get-map_of (λ (q : Process _ _ _ _). standing q) i.processes.items index process got) h.inside.few_sends in
    let zero_on : 0 + index ≡ index = omega arith in
    let stream : IsProcessStream i.config.seed (number_at i.config i.worker index) process.stream =
    subst (λ n. IsProcessStream i.config.seed (number_at i.config i.worker n) process.stream) zero_on
    (streams-get i.config i.worker 0 index (map stream_of i.processes.items) process.stream h.own_streams (get-map_of (λ (q : Process _ _ _ _). stream_of q) i.processes.items index process got)) in
    let back = sym c.get-first.ensures in (
      out_fits _ _ g.met.M.Model.payload_align g.met.M.Model.payload_size,
      (
        subst (λ (l : Letter _). l.event.dest < i.config.lps) back t.mine.within.known,
        (
          subst (λ (l : Letter _). l.event.rank.key.time < end_of i.config) back t.mine.within.soon,
          (
            few,
            (
              subst (λ (l : Letter _). IsProcessStream i.config.seed l.event.dest process.stream) back (subst (λ p. IsProcessStream i.config.seed p process.stream) (sym t.number) stream),
              h.few_made,
            ),
          ),
        ),
      ),
    )

-- ---- nothing is pending

pub invariant_of-self : goal.invariant_of-self
invariant_of-self g c =
    let i = c.self.inside in
    let same : i.calendar ≡ c.take_first.new.self = c.in_default.ensures.0 ∙ sym c.in_default.ensures.1 in
    (subst (λ ls. IsPoolInside i.config i.worker (record (stock_of i) { pending = ls }) (map stream_of i.processes.items) i.outbox i.serial i.reached i.heard.items i.kept) same c.self.invariant.0, c.self.invariant.1, c.self.invariant.2)

pub returns-in_default-clause-nothing : goal.returns-in_default-clause-nothing
returns-in_default-clause-nothing g c none =
    let i = c.self.inside in
    let same : c.take_first.new.self ≡ i.calendar = c.in_default.ensures.1 ∙ sym c.in_default.ensures.0 in (
      ap (λ (v : HeldPool _ _ _). v.stock.pending) (sym c.self.view_is) ∙ c.in_default.ensures.0,
      (λ j. record (view_of i) { stock = record (stock_of i) { pending = same j } }) ∙ c.self.view_is,
    )

pub returns-in_default-clause-executed : goal.returns-in_default-clause-executed
returns-in_default-clause-executed g c some = absurd (false≢true some)

pub returns-in_default-clause-leads : goal.returns-in_default-clause-leads
returns-in_default-clause-leads g c =
    let i = c.self.inside in
    let same : c.take_first.new.self ≡ i.calendar = c.in_default.ensures.1 ∙ sym c.in_default.ensures.0 in
    let seen_same : record (view_of i) { stock = record (stock_of i) { pending = c.take_first.new.self } } ≡ c.args.self.now = (λ j. record (view_of i) { stock = record (stock_of i) { pending = same j } }) ∙ c.self.view_is in
    subst (PoolLeadsTo (g.M.Model.handlers c.args.model.now) c.args.self.now) (sym seen_same) (pool-nothing (g.M.Model.handlers c.args.model.now) c.args.self.now)

pub returns-in_default-clause-settled : goal.returns-in_default-clause-settled
returns-in_default-clause-settled g c =
    let i = c.self.inside in
    let same : c.take_first.new.self ≡ i.calendar = c.in_default.ensures.1 ∙ sym c.in_default.ensures.0 in
    let seen_same : record (view_of i) { stock = record (stock_of i) { pending = c.take_first.new.self } } ≡ c.args.self.now = (λ j. record (view_of i) { stock = record (stock_of i) { pending = same j } }) ∙ c.self.view_is in
    subst (λ (v : HeldPool _ _ _). AreSettled v.stock) (sym seen_same) c.requires.settled

pub returns-in_default-clause-same : goal.returns-in_default-clause-same
returns-in_default-clause-same g c = (ap (λ (v : HeldPool _ _ _). v.worker) c.self.view_is, ap (λ (v : HeldPool _ _ _). v.config) c.self.view_is)

-- ---- a refusal

pub put-requires : goal.put-requires
put-requires g c = none-after (letter_rank c.in-Some.letter) c.take_first.new.self (facts g (goal.at.put-requires g c).After-index-index).before

-- what is kept of the processes then, by where these stand
stock-again : (g : Over) (c : After-put g) (triples : List (Triple _)) → AllByRecursion (λ l. RankBefore (letter_rank c.in-Some.letter) (letter_rank l)) c.take_first.new.self
    → record { triples = triples; past = map (placed c.self.inside.worker) c.make_room-has_room.new.log.events; pending = c.put.new.self; waiting = c.self.inside.waiting } ≡ record (stock_of c.self.inside) { triples = triples }
stock-again g c triples before =
    let i = c.self.inside in
    let past = ap (map (placed i.worker)) c.make_room-has_room.ensures.same.0 in
    let pending = c.put.ensures ∙ insert-first c.in-Some.letter c.take_first.new.self before ∙ sym c.in-Some.ensures in
    λ j. record { triples = triples; past = past j; pending = pending j; waiting = i.waiting }

pub invariant_of-self-in-Err : goal.invariant_of-self-in-Err
invariant_of-self-in-Err g c =
    let at = goal.at.invariant_of-self-in-Err g c in
    let i = c.self.inside in
    let index = c.index-index.result in
    let process = c.index_mut-process.result.now in
    let after = c.fire.new.process in
    let t = facts g at.After-index-index in
    let got = there g at.After-index_mut-process (within g at.After-index-index) in
    let few = every-get (λ (t : Triple _). t.number ≤ MAX_COUNT) (map standing i.processes.items) index (standing process) (get-map_of (λ (q : Process _ _ _ _). standing q) i.processes.items index process got)
    c.self.invariant.0.inside.few_sends in
    let same = c.in-Err.ensures.but_state in
    let pool = pool-taken_back (g.M.Model.handlers c.args.model.now) c.self.invariant.0 index (standing after) process.stream after.stream c.make_room-has_room.new.kept
    (subst (λ n. n ≤ MAX_COUNT) (sym same.0) few) (get-map_of (λ (q : Process _ _ _ _). stream_of q) i.processes.items index process got)
    c.fire.ensures.stream.0 c.fire.ensures.stream.1 c.make_room-has_room.ensures.more in
    let triples = sym (map-put standing i.processes.items index after) in
    let streams = sym (map-put stream_of i.processes.items index after) in
    let fits = coe 0 1 (j. IsPoolInside i.config i.worker (record (stock_of i) { triples = triples j }) (streams j) i.outbox i.serial i.reached i.heard.items c.make_room-has_room.new.kept) pool in (
      subst (λ (stock : Stock _ _ _). IsPoolInside i.config i.worker stock (map stream_of (slice_set i.processes.items index after)) i.outbox i.serial i.reached i.heard.items c.make_room-has_room.new.kept)
          (sym (stock-again g at.After-put (map standing (slice_set i.processes.items index after)) t.before)) fits,
      subst (AreMade i.serial) (sym c.make_room-has_room.ensures.same.0) c.self.invariant.1,
      c.make_room-has_room.ensures.same.1 ∙ c.self.invariant.2 ∙ sym (length-set i.processes.items index after),
    )

-- what contracts see then, by where the processes stand
seen-again : (g : Over) (c : After-put g) (triples : List (Triple _)) → AllByRecursion (λ l. RankBefore (letter_rank c.in-Some.letter) (letter_rank l)) c.take_first.new.self
    → record (view_of c.self.inside) { stock = record { triples = triples; past = map (placed c.self.inside.worker) c.make_room-has_room.new.log.events; pending = c.put.new.self; waiting = c.self.inside.waiting } }
    ≡ record c.args.self.now { stock = record c.args.self.now.stock { triples = triples } }
seen-again g c triples before =
    (λ j. record (view_of c.self.inside) { stock = stock-again g c triples before j })
    ∙ ap (λ (v : HeldPool _ _ _). record v { stock = record v.stock { triples = triples } }) c.self.view_is

pub returns-in-Err-clause-but_triples : goal.returns-in-Err-clause-but_triples
returns-in-Err-clause-but_triples g c =
    let at = goal.at.returns-in-Err-clause-but_triples g c in
    seen-again g at.After-put (map standing (slice_set c.self.inside.processes.items c.index-index.result c.fire.new.process)) (facts g at.After-index-index).before

-- where the pool stands for a part, the state of the letter's process can be
is-state : (g : Over) (c : After-index_mut-process g) (t : IsTaken c.self.inside.config c.self.inside.worker (stock_of c.self.inside) c.in-Some.letter c.take_first.new.self c.index-index.result)
    → slice_get c.self.inside.processes.items c.index-index.result ≡ Some c.index_mut-process.result.now
    → (rest : HeldShare _ _ _) (part : Part _) → StandsFor (g.M.Model.handlers c.args.model.now) (seen (with_pool rest (view_of c.self.inside))) part → g.M.Model.IsState c.args.model.now c.index_mut-process.result.now.state
is-state g c t got rest part s =
    let i = c.self.inside in
    can-be (g.M.Model.handlers c.args.model.now) (view_of i) c.self.invariant.0.known c.self.invariant.0.inside c.index-index.result (standing c.index_mut-process.result.now) c.in-Some.letter c.take_first.new.self
    (get-map_of (λ (q : Process _ _ _ _). standing q) i.processes.items c.index-index.result c.index_mut-process.result.now got) c.in-Some.ensures t.number t.later
    (g.M.Model.IsState c.args.model.now) (g.met.M.Model.start_state c.args.model.now) (g.met.M.Model.forward_state c.args.model.now) rest part s

-- and then it is as before
unchanged : (g : Over) (c : After-put g) → AllByRecursion (λ l. RankBefore (letter_rank c.in-Some.letter) (letter_rank l)) c.take_first.new.self
    → slice_get c.self.inside.processes.items c.index-index.result ≡ Some c.index_mut-process.result.now → c.fire.new.process ≡ c.index_mut-process.result.now
    → record (view_of c.self.inside) { stock = record { triples = map standing (slice_set c.self.inside.processes.items c.index-index.result c.fire.new.process); past = map (placed c.self.inside.worker) c.make_room-has_room.new.log.events; pending = c.put.new.self; waiting = c.self.inside.waiting } }
    ≡ c.args.self.now
unchanged g c before got same =
    let i = c.self.inside in
    let items = written-same i.processes.items c.index-index.result c.index_mut-process.result.now c.fire.new.process got same in
    (λ j. record (view_of i) { stock = stock-again g c (map standing (items j)) before j }) ∙ c.self.view_is

pub returns-in-Err-clause-unchanged : goal.returns-in-Err-clause-unchanged
returns-in-Err-clause-unchanged g c rest part s =
    let at = goal.at.returns-in-Err-clause-unchanged g c in
    let handlers = g.M.Model.handlers c.args.model.now in
    let t = facts g at.After-index-index in
    let got = there g at.After-index_mut-process (within g at.After-index-index) in
    let here = subst (λ (v : HeldPool _ _ _). StandsFor handlers (seen (with_pool rest v)) part) (sym c.self.view_is) s in
    unchanged g at.After-put t.before got (c.in-Err.ensures.unchanged (is-state g at.After-index_mut-process t got rest part here))

pub returns-in-Err-clause-leads : goal.returns-in-Err-clause-leads
returns-in-Err-clause-leads g c =
    let at = goal.at.returns-in-Err-clause-leads g c in
    let handlers = g.M.Model.handlers c.args.model.now in
    let t = facts g at.After-index-index in
    let got = there g at.After-index_mut-process (within g at.After-index-index) in
    stays-leads handlers c.args.self.now _ (ap (λ (v : HeldPool _ _ _). v.worker) c.self.view_is) (ap (λ (v : HeldPool _ _ _). v.config) c.self.view_is)
    (λ rest part s.
    (let here = subst (λ (v : HeldPool _ _ _). StandsFor handlers (seen (with_pool rest v)) part) (sym c.self.view_is) s in
    unchanged g at.After-put t.before got (c.in-Err.ensures.unchanged (is-state g at.After-index_mut-process t got rest part here))))

pub returns-in-Err-clause-refused : goal.returns-in-Err-clause-refused
returns-in-Err-clause-refused g c =
    let at = goal.at.returns-in-Err-clause-refused g c in
    let i = c.self.inside in
    let handlers = g.M.Model.handlers c.args.model.now in
    let t = facts g at.After-index-index in
    let index = c.index-index.result in
    let process = c.index_mut-process.result.now in
    let got = there g at.After-index_mut-process (within g at.After-index-index) in
    let why = subst (λ p. IsAdvanceRefusal (fired_by handlers i.config p (standing process) c.in-Some.letter.event) i.serial c.in-Err.fault) t.number
    (subst (λ (l : Letter _). IsAdvanceRefusal (fired_by handlers i.config l.event.dest (standing process) l.event) i.serial c.in-Err.fault) c.get-first.ensures c.in-Err.ensures.refused) in
    subst (λ (v : HeldPool _ _ _). IsNotExecuted handlers v c.in-Err.fault) c.self.view_is
    (not-executed handlers (view_of i) c.self.invariant.0.known c.self.invariant.0.inside index (standing process) c.in-Some.letter c.take_first.new.self
    (get-map_of (λ (q : Process _ _ _ _). standing q) i.processes.items index process got) c.in-Some.ensures t.number t.later c.in-Err.fault why)

pub returns-in-Err-clause-faults : goal.returns-in-Err-clause-faults
returns-in-Err-clause-faults g c = elim c.in-Err.ensures.refused [ inl x ↦ inl x.0 | inr x ↦ inr x.0 ]

pub returns-in-Err-clause-settled : goal.returns-in-Err-clause-settled
returns-in-Err-clause-settled g c =
    let at = goal.at.returns-in-Err-clause-settled g c in
    let triples = map standing (slice_set c.self.inside.processes.items c.index-index.result c.fire.new.process) in
    subst (λ (v : HeldPool _ _ _). AreSettled v.stock) (sym (seen-again g at.After-put triples (facts g at.After-index-index).before)) c.requires.settled

pub returns-in-Err-clause-same : goal.returns-in-Err-clause-same
returns-in-Err-clause-same g c = (ap (λ (v : HeldPool _ _ _). v.worker) c.self.view_is, ap (λ (v : HeldPool _ _ _). v.config) c.self.view_is)

-- ---- it is executed

-- what the event left, said of the letter and its process
fires : (g : Over) (c : After-write-self-inside g) → c.in-Some.letter.event.dest ≡ number_at c.self.inside.config c.self.inside.worker c.index-index.result
    → IsFired (g.M.Model.handlers c.args.model.now) c.self.inside.config (number_at c.self.inside.config c.self.inside.worker c.index-index.result) c.in-Some.letter.event c.self.inside.serial
    (standing c.index_mut-process.result.now) (standing c.fire.new.process) c.in-Ok.entry c.fire.new.out.sends c.fire.new.out.records
fires g c number =
    let i = c.self.inside in
    let handlers = g.M.Model.handlers c.args.model.now in
    subst (λ p. IsFired handlers i.config p c.in-Some.letter.event i.serial (standing c.index_mut-process.result.now) (standing c.fire.new.process) c.in-Ok.entry c.fire.new.out.sends c.fire.new.out.records) number
    (subst (λ (l : Letter _). IsFired handlers i.config l.event.dest l.event i.serial (standing c.index_mut-process.result.now) (standing c.fire.new.process) c.in-Ok.entry c.fire.new.out.sends c.fire.new.out.records) c.get-first.ensures c.in-Ok.ensures.fired)

-- the nodes that are there before it is written
nodes-before : (g : Over) (c : After-keep g) → sum_by nodes_of (map (placed c.self.inside.worker) c.self.inside.log.events) + 2 * MAX_SENDS + 1 ≤ c.keep.new.self
nodes-before g c =
    let nodes = c.make_room-has_room.ensures.nodes c.in-Ok.ensures.room in
    let logged = nodes-logged c.self.inside.worker c.self.inside.log.events in
    let kept = c.keep.ensures in
    omega (arith, nodes, logged, kept)

pub write-self-inside-requires : goal.write-self-inside-requires
write-self-inside-requires g c =
    let at = goal.at.write-self-inside-requires g c in
    let fired = c.in-Ok.ensures.fired in
    let less = within g at.After-index-index in
    let same = c.make_room-has_room.ensures.same.1 in
    let all = c.self.invariant.2 in
    let counted = fired.counted in
    let serial = fired.serial_is in (
      out_fits _ _ g.met.M.Model.payload_align g.met.M.Model.payload_size,
      (c.make_room-has_room.ensures.room c.in-Ok.ensures.room, (omega (arith, less, same, all), (fired.few_sends, (fired.few_records, omega (arith, counted, serial))))),
    )

-- the past events then
past-then : (g : Over) (c : After-write-self-inside g)
    → map (placed c.self.inside.worker) c.write-self-inside.new.log.events
    ≡ map (placed c.self.inside.worker) c.self.inside.log.events ++ record { index = c.index-index.result; event = past_of c.self.inside.worker c.in-Ok.entry c.fire.new.out.sends c.fire.new.out.records } ∷ []
past-then g c =
    let i = c.self.inside in
    let e : Logged _ _ = record { process = c.index-index.result; entry = c.in-Ok.entry; sends = c.fire.new.out.sends; records = c.fire.new.out.records } in
    ap (map (placed i.worker)) (c.write-self-inside.ensures.events ∙ ap (λ (es : List (Logged _ _)). es ++ e ∷ []) c.make_room-has_room.ensures.same.0)
    ∙ map-append (placed i.worker) i.log.events (e ∷ [])

serial-then : (g : Over) (c : After-write-self-inside g) → c.write-self-inside.result ≡ c.self.inside.serial + length c.fire.new.out.sends
serial-then g c = c.write-self-inside.ensures.next ∙ ap (λ n. n + length c.fire.new.out.sends) c.in-Ok.ensures.fired.serial_is

-- ---- its messages are delivered

-- the greatest serial that was noted of the worker
pub index_mut-most-requires : goal.index_mut-most-requires
index_mut-most-requires g c =
    let known = c.self.invariant.0.known in
    let each = c.self.invariant.0.heard_each in
    search (rules, known, each)

most-there : (g : Over) (c : After-index_mut-most g) → slice_get c.self.inside.heard.items c.self.inside.worker ≡ Some c.index_mut-most.result.now
most-there g c =
    let known = c.self.invariant.0.known in
    let each = c.self.invariant.0.heard_each in
    index-get c.self.inside.heard.items c.self.inside.worker c.index_mut-most.result.now (omega (arith, known, each)) (sym c.index_mut-most.ensures.value)

pub deliver-requires : goal.deliver-requires
deliver-requires g c =
    let at = goal.at.deliver-requires g c in
    let i = c.self.inside in
    let fired = c.in-Ok.ensures.fired in
    let few = fired.few_sends in
    let counted = fired.counted in
    let sends = ap length c.sends-sends.ensures in
    let nodes = nodes-before g at.After-keep in
    let there = most-there g at.After-index_mut-most in
    let heard = (subst (AllByRecursion (λ (l : Letter _). IsHeard i.heard.items (letter_rank l).stamp)) c.in-Some.ensures c.self.invariant.0.heard_pending).1 in
    record {
      room = omega (arith, few, nodes, sends);
      few = omega (arith, counted, sends);
      sorted = c.self.invariant.0.by_worker;
      heard = every-weaker (λ (l : Letter _). IsHeard i.heard.items (letter_rank l).stamp)
          (λ (l : Letter _). (letter_rank l).stamp.worker ≡ i.worker → (letter_rank l).stamp.serial ≤ c.index_mut-most.result.now) c.take_first.new.self
          (λ l before own. subst (λ o. IfSome o (λ most. (letter_rank l).stamp.serial ≤ most)) (ap (slice_get i.heard.items) own ∙ there) before) heard;
    }

-- where that leads
well : (g : Over) (c : After-deliver g) (t : IsTaken c.self.inside.config c.self.inside.worker (stock_of c.self.inside) c.in-Some.letter c.take_first.new.self c.index-index.result)
    → slice_get c.self.inside.processes.items c.index-index.result ≡ Some c.index_mut-process.result.now
    → IsFired (g.M.Model.handlers c.args.model.now) c.self.inside.config (number_at c.self.inside.config c.self.inside.worker c.index-index.result) c.in-Some.letter.event c.self.inside.serial
    (standing c.index_mut-process.result.now) (standing c.fire.new.process) c.in-Ok.entry c.fire.new.out.sends c.fire.new.out.records
    → sum_by nodes_of (map (placed c.self.inside.worker) c.self.inside.log.events) + 2 * MAX_SENDS + 1 ≤ c.keep.new.self
    → slice_get c.self.inside.heard.items c.self.inside.worker ≡ Some c.index_mut-most.result.now → AreSettled (stock_of c.self.inside)
    → IsWellDelivered (g.M.Model.handlers c.args.model.now) c.self.inside.config c.self.inside.worker (slice_set (map stream_of c.self.inside.processes.items) c.index-index.result c.fire.new.process.stream)
    c.self.inside.outbox.config (c.self.inside.serial + length c.fire.new.out.sends) c.later-self-inside.result c.deliver.new.kept
    (executed_in c.index-index.result (past_of c.self.inside.worker c.in-Ok.entry c.fire.new.out.sends c.fire.new.out.records) c.take_first.new.self (standing c.fire.new.process) (stock_of c.self.inside))
    (map (signed Plus) (stamped c.self.inside.worker c.self.inside.serial c.fire.new.out.sends)) c.self.inside.outbox.letters c.self.inside.heard.items c.deliver.new.calendar c.deliver.new.outbox.letters c.deliver.new.most
well g c t got fired nodes there settled =
    let i = c.self.inside in
    let handlers = g.M.Model.handlers c.args.model.now in
    let index = c.index-index.result in
    let process = c.index_mut-process.result.now in
    let after = c.fire.new.process in
    let letter = c.in-Some.letter in
    let rest = c.take_first.new.self in
    let sends = c.fire.new.out.sends in
    let event = past_of i.worker c.in-Ok.entry sends c.fire.new.out.records in
    let few = fired.few_sends in
    let count = ap length c.sends-sends.ensures in
    let used = c.deliver.ensures.taken in
    let soon : TimeAtMost letter.event.rank.key.time c.later-self-inside.result =
    subst (λ (l : Letter _). TimeAtMost l.event.rank.key.time c.later-self-inside.result) c.get-first.ensures (subst (λ n. TimeAtMost n c.later-self-inside.result) c.when.ensures c.later-self-inside.ensures.second) in
    let letters = map (signed Plus) (stamped i.worker i.serial sends) in
    let pool = pool-executed handlers c.self.invariant.0 index (standing process) (standing after) letter rest c.in-Ok.entry sends c.fire.new.out.records process.stream after.stream c.later-self-inside.result
    (record i.outbox { letters = i.outbox.letters ++ letters }) (i.serial + length sends) c.deliver.new.kept fired t.known t.mine.signed c.in-Some.ensures t.later
    (get-map_of (λ (q : Process _ _ _ _). stream_of q) i.processes.items index process got) c.fire.ensures.stream.0 c.fire.ensures.stream.1 c.later-self-inside.ensures.first soon refl refl (omega (arith, nodes, few, used, count)) in
    let brought : event.letter ≡ letter = λ j. record { event = fired.event_is j; sign = sym t.mine.signed j } in
    let calm = executed-settled c.self.invariant.0.known c.self.invariant.0.inside index letter rest event (standing after) c.in-Some.ensures brought settled in
    let done = subst (λ (xs : List (Sent _)). AreDelivered i.config i.worker c.later-self-inside.result (map (signed Plus) (stamped i.worker i.serial xs)) rest i.outbox.letters c.index_mut-most.result.now c.deliver.new.calendar c.deliver.new.outbox.letters c.deliver.new.most)
    c.sends-sends.ensures c.deliver.ensures.delivered in
    delivered handlers i.config i.worker (slice_set (map stream_of i.processes.items) index after.stream) i.outbox.config (i.serial + length sends) c.later-self-inside.result c.deliver.new.kept letters
    (executed_in index event rest (standing after) (stock_of i)) i.outbox.letters i.heard.items c.index_mut-most.result.now pool calm there (messages-of i.worker i.serial sends) c.deliver.new.calendar c.deliver.new.outbox.letters c.deliver.new.most done

-- what is kept of the processes then
stock-then : (g : Over) (c : After-write-self-inside g) (pending : List (Letter _))
    → record { triples = map standing (slice_set c.self.inside.processes.items c.index-index.result c.fire.new.process); past = map (placed c.self.inside.worker) c.write-self-inside.new.log.events; pending = pending; waiting = c.self.inside.waiting }
    ≡ executed_in c.index-index.result (past_of c.self.inside.worker c.in-Ok.entry c.fire.new.out.sends c.fire.new.out.records) pending (standing c.fire.new.process) (stock_of c.self.inside)
stock-then g c pending =
    let i = c.self.inside in
    let triples = map-put standing i.processes.items c.index-index.result c.fire.new.process in
    let past = past-then g c in
    λ j. record { triples = triples j; past = past j; pending = pending; waiting = i.waiting }

pub invariant_of-self-2 : goal.invariant_of-self-2
invariant_of-self-2 g c =
    let at = goal.at.invariant_of-self-2 g c in
    let i = c.self.inside in
    let index = c.index-index.result in
    let after = c.fire.new.process in
    let t = facts g at.After-index-index in
    let got = there g at.After-index_mut-process (within g at.After-index-index) in
    let settled = subst (λ (v : HeldPool _ _ _). AreSettled v.stock) (sym c.self.view_is) c.requires.settled in
    let d = well g at.After-deliver t got (fires g at.After-write-self-inside t.number) (nodes-before g at.After-keep) (most-there g at.After-index_mut-most) settled in
    let stock = sym (stock-then g at.After-write-self-inside c.deliver.new.calendar) in
    let streams = sym (map-put stream_of i.processes.items index after) in
    let next = serial-then g at.After-write-self-inside in
    let serial = sym next in
    let config = sym c.deliver.ensures.sorted in
    let e : Logged _ _ = record { process = index; entry = c.in-Ok.entry; sends = c.fire.new.out.sends; records = c.fire.new.out.records } in
    let events = c.write-self-inside.ensures.events ∙ ap (λ (es : List (Logged _ _)). es ++ e ∷ []) c.make_room-has_room.ensures.same.0 in
    let made = every-append (λ (d : Logged _ _). d.entry.serial + length d.sends ≤ c.write-self-inside.result) i.log.events (e ∷ [])
    (every-weaker (λ (d : Logged _ _). d.entry.serial + length d.sends ≤ i.serial) (λ (d : Logged _ _). d.entry.serial + length d.sends ≤ c.write-self-inside.result) i.log.events (λ d early. omega (arith, early, next))
    c.self.invariant.1) ((let last = c.write-self-inside.ensures.next in omega (arith, last)), tt) in (
      coe 0 1 (j. IsPoolInside i.config i.worker (stock j) (streams j) (record { config = config j; letters = c.deliver.new.outbox.letters }) (serial j) c.later-self-inside.result (slice_set i.heard.items i.worker c.deliver.new.most)
          c.deliver.new.kept) d.inside,
      subst (AreMade c.write-self-inside.result) (sym events) made,
      c.write-self-inside.ensures.processes ∙ c.make_room-has_room.ensures.same.1 ∙ c.self.invariant.2 ∙ sym (length-set i.processes.items index after),
    )

pub home_left-requires-clause-settled : goal.home_left-requires-clause-settled
home_left-requires-clause-settled g c κs within_bounds =
    let at = goal.at.home_left-requires-clause-settled g c in
    let t = facts g at.After-index-index in
    let got = there g at.After-index_mut-process (within g at.After-index-index) in
    let settled = subst (λ (v : HeldPool _ _ _). AreSettled v.stock) (sym c.self.view_is) c.requires.settled in
    let d = well g at.After-deliver t got (fires g at.After-write-self-inside t.number) (nodes-before g at.After-keep) (most-there g at.After-index_mut-most) settled in
    subst AreSettled (sym (stock-then g at.After-write-self-inside c.deliver.new.calendar)) d.settled

-- the event is remembered rightly, where the pool stands for a part
kept-rightly : (g : Over) (c : After-write-self-inside g) (t : IsTaken c.self.inside.config c.self.inside.worker (stock_of c.self.inside) c.in-Some.letter c.take_first.new.self c.index-index.result)
    → g.M.Model.IsState c.args.model.now c.index_mut-process.result.now.state
    → IsRemembered (simulation_of (g.M.Model.handlers c.args.model.now) c.self.inside.config) (number_at c.self.inside.config c.self.inside.worker c.index-index.result) (standing c.index_mut-process.result.now)
    (remembered (g.M.Model.handlers c.args.model.now) (number_at c.self.inside.config c.self.inside.worker c.index-index.result) (past_of c.self.inside.worker c.in-Ok.entry c.fire.new.out.sends c.fire.new.out.records))
kept-rightly g c t ok =
    let i = c.self.inside in
    let handlers = g.M.Model.handlers c.args.model.now in
    let event = past_of i.worker c.in-Ok.entry c.fire.new.out.sends c.fire.new.out.records in
    subst (λ p. IsRemembered (simulation_of handlers i.config) p (standing c.index_mut-process.result.now) (remembered handlers p event)) t.number
    (subst (λ (l : Letter _). IsRemembered (simulation_of handlers i.config) l.event.dest (standing c.index_mut-process.result.now) (remembered handlers l.event.dest event)) c.get-first.ensures (c.in-Ok.ensures.remembered ok i.worker))

pub returns-clause-executed : goal.returns-clause-executed
returns-clause-executed g c some =
    let at = goal.at.returns-clause-executed g c in
    let i = c.self.inside in
    let handlers = g.M.Model.handlers c.args.model.now in
    let index = c.index-index.result in
    let process = c.index_mut-process.result.now in
    let t = facts g at.After-index-index in
    let got = there g at.After-index_mut-process (within g at.After-index-index) in
    let settled = subst (λ (v : HeldPool _ _ _). AreSettled v.stock) (sym c.self.view_is) c.requires.settled in
    let d = well g at.After-deliver t got (fires g at.After-write-self-inside t.number) (nodes-before g at.After-keep) (most-there g at.After-index_mut-most) settled in
    let mid : HeldPool _ _ _ = record (view_of i) {
      stock = executed_in index (past_of i.worker c.in-Ok.entry c.fire.new.out.sends c.fire.new.out.records) c.deliver.new.calendar (standing c.fire.new.process) (stock_of i);
      outbox = c.deliver.new.outbox.letters;
      serial = i.serial + length c.fire.new.out.sends;
      heard = slice_set i.heard.items i.worker c.deliver.new.most;
    } in
    let stock = stock-then g at.After-write-self-inside c.deliver.new.calendar in
    let serial = serial-then g at.After-write-self-inside in
    let left = coe 0 1 (j. PoolLeadsTo handlers (record mid { stock = stock j; serial = serial j }) c.home_left.new.self) c.home_left.ensures.leads in
    let home = pool-both handlers (pool_after_execute index c.in-Ok.entry c.fire.new.out.sends c.fire.new.out.records c.take_first.new.self (standing c.fire.new.process) (view_of i)) mid c.home_left.new.self d.leads left in
    subst (λ (v : HeldPool _ _ _). HasExecuted handlers v c.home_left.new.self) c.self.view_is
    (has-executed handlers (view_of i) c.self.invariant.0.known c.self.invariant.0.inside index (standing process) c.in-Some.letter c.take_first.new.self (get-map_of (λ (q : Process _ _ _ _). standing q) i.processes.items index process got)
    c.in-Some.ensures t.number t.later (standing c.fire.new.process) c.in-Ok.entry c.fire.new.out.sends c.fire.new.out.records (fires g at.After-write-self-inside t.number)
    (λ rest part s. kept-rightly g at.After-write-self-inside t (is-state g at.After-index_mut-process t got rest part s)) c.home_left.new.self home)

pub returns-clause-leads : goal.returns-clause-leads
returns-clause-leads g c =
    let at = goal.at.returns-clause-leads g c in
    let i = c.self.inside in
    let handlers = g.M.Model.handlers c.args.model.now in
    let index = c.index-index.result in
    let process = c.index_mut-process.result.now in
    let t = facts g at.After-index-index in
    let got = there g at.After-index_mut-process (within g at.After-index-index) in
    let settled = subst (λ (v : HeldPool _ _ _). AreSettled v.stock) (sym c.self.view_is) c.requires.settled in
    let d = well g at.After-deliver t got (fires g at.After-write-self-inside t.number) (nodes-before g at.After-keep) (most-there g at.After-index_mut-most) settled in
    let mid : HeldPool _ _ _ = record (view_of i) {
      stock = executed_in index (past_of i.worker c.in-Ok.entry c.fire.new.out.sends c.fire.new.out.records) c.deliver.new.calendar (standing c.fire.new.process) (stock_of i);
      outbox = c.deliver.new.outbox.letters;
      serial = i.serial + length c.fire.new.out.sends;
      heard = slice_set i.heard.items i.worker c.deliver.new.most;
    } in
    let stock = stock-then g at.After-write-self-inside c.deliver.new.calendar in
    let serial = serial-then g at.After-write-self-inside in
    let left = coe 0 1 (j. PoolLeadsTo handlers (record mid { stock = stock j; serial = serial j }) c.home_left.new.self) c.home_left.ensures.leads in
    let home = pool-both handlers (pool_after_execute index c.in-Ok.entry c.fire.new.out.sends c.fire.new.out.records c.take_first.new.self (standing c.fire.new.process) (view_of i)) mid c.home_left.new.self d.leads left in
    subst (λ (v : HeldPool _ _ _). PoolLeadsTo handlers v c.home_left.new.self) c.self.view_is
    (executed-leads handlers (view_of i) c.self.invariant.0.known c.self.invariant.0.inside index (standing process) c.in-Some.letter c.take_first.new.self (get-map_of (λ (q : Process _ _ _ _). standing q) i.processes.items index process got)
    c.in-Some.ensures t.number t.later (standing c.fire.new.process) c.in-Ok.entry c.fire.new.out.sends c.fire.new.out.records (fires g at.After-write-self-inside t.number)
    (λ rest part s. kept-rightly g at.After-write-self-inside t (is-state g at.After-index_mut-process t got rest part s)) c.home_left.new.self home)

pub returns-clause-nothing : goal.returns-clause-nothing
returns-clause-nothing g c none = absurd (true≢false none)

pub returns-clause-same : goal.returns-clause-same
returns-clause-same g c =
    (c.home_left.ensures.same.0 ∙ ap (λ (v : HeldPool _ _ _). v.worker) c.self.view_is, c.home_left.ensures.same.1 ∙ ap (λ (v : HeldPool _ _ _). v.config) c.self.view_is)

pub returns-clause-settled : goal.returns-clause-settled
returns-clause-settled g c = c.home_left.ensures.settled
