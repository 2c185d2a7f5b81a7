-- Execute of the first pending letter: how the fields of a pool go together after it, that it is a step, and why it is refused.
use Rattle.std.proofs.Common.{◌≡◌, ◌∙◌, ℕ, ◌+◌, ◌*◌, ◌/◌, ◌<◌, ◌≤◌, Bool, if◌then◌else◌, List, [], ◌∷◌, ◌++◌, map, length, refl, sym, ap, subst, arith, Some, None, slice_get, slice_set}
use Rattle.std.specs.List.{All, sum_by, AllByRecursion}
use Rattle.std.specs.Option.{option_and_then}
use Rattle.std.proofs.Math.ListN.{length-set}
use Rattle.std.proofs.lemmas.List.Sums.{sum_by-cons}
use Rattle.std.proofs.lemmas.List.Elements.{All-append, All-nil, All-cons, All-head, All-tail}
use Rattle.vt_key.specs.promise.Times.{Time, TimeAtMost}
use Rattle.vt_key.specs.inside.Order.{RankBefore}
use Rattle.vt_key.specs.promise.Queues.{letter_rank}
use Rattle.vt_key.specs.inside.Queues.{IsRising}
use Rattle.vt_key.specs.declared.limits.TheConstants.{MAX_COUNT}
use Rattle.vt_key.specs.declared.fault.Fault.{Fault}
use Rattle.vt_key.specs.declared.letter.Event.{Event}
use Rattle.vt_key.specs.declared.letter.Letter.{Letter}
use Rattle.vt_key.specs.declared.letter.Sign.TheVariants.{Plus, Minus}
use Rattle.vt_key.proofs.ListLemmas.{every-append, every-put, every-weaker}
use Rattle.vt_stream.specs.inside.Words.{Stream}
use Rattle.vt_model.specs.declared.rows.Record.{Record}
use Rattle.vt_model.specs.declared.sending.Sent.{Sent}
use Rattle.vt_model.specs.declared.settings.Config.{Config}
use Rattle.vt_model.specs.promise.Handler.{Handlers}
use Rattle.vt_model.specs.promise.Settings.{end_of}
use Rattle.vt_model.specs.promise.Simulation.{Triple, simulation_of}
use Rattle.vt_model.proofs.LawLemmas.{after_state}
use Rattle.vt_steps.specs.declared.step.Step.{Step}
use Rattle.vt_steps.specs.declared.step.Step.TheVariants.{Execute}
use Rattle.vt_steps.specs.promise.Letters.{stamped, signed}
use Rattle.vt_steps.specs.promise.World.{LogicalProcess, Part, entry_events}
use Rattle.vt_steps.specs.promise.ProcessSteps.{execute_process}
use Rattle.vt_steps.specs.inside.StandsFor.{IsRemembered}
use Rattle.vt_steps.specs.inside.Cells.{local_steps}
use Rattle.vt_steps.proofs.steps.MemoryLemmas.{is_where}
use Rattle.vt_past.specs.declared.event.PastEvent.{PastEvent}
use Rattle.vt_past.specs.declared.event.UndoEntry.{UndoEntry}
use Rattle.vt_past.specs.inside.Events.{past_event}
use Rattle.vt_lp.specs.inside.Held.{HeldProcess, AllWithinRun, IsWithinRun, IsReady, StandsFor as ProcessStandsFor, process_memory, remembered}
use Rattle.vt_lp.specs.inside.Guards.{IsExecuteRefusal as ProcessRefusal}
use Rattle.vt_lp.specs.inside.Past.{IsAdvanceRefusal, ready_event}
use Rattle.vt_lp.proofs.ExecuteLemmas.{refuses}
use Rattle.vt_lp.proofs.Stamping.{length-letters}
use Rattle.vt_logs.specs.declared.entry.Entry.{Entry}
use Rattle.vt_outbox.specs.inside.Outbox.{HeldOutbox}
use Rattle.vt_kernel.specs.inside.Held.{HeldWorker, StandsFor}
use Rattle.vt_kernel.specs.inside.Guards.{IsDone, IsExecuteRefusal}
use Rattle.vt_kernel.specs.inside.Steps.{part_after}
use Rattle.vt_kernel.proofs.OwnSteps.{IsFound, own-execute, own-step, refusal-at}
use Rattle.vt_kernel.proofs.LocalLemmas.{found-at, execute-step}
use Rattle.vt_logs.specs.inside.Events.{Logged, all_nodes, nodes_of as nodes_logged}
use Rattle.vt_pool.specs.inside.Logged.{placed}
use Rattle.vt_pool.specs.inside.View.{Placed, Stock, letters_to, number_at, process_in}
use Rattle.vt_pool.specs.inside.Steps.{executed_in, LeadsTo}
use Rattle.vt_pool.specs.inside.Inside.{IsWorkersLetter, IsHeard, ComesAfter, AreSettled, nodes_of, placed_rank, IsStockInside, IsPoolInside}
use Rattle.vt_pool.specs.inside.Share.{HeldShare, HeldPool, with_pool, seen, PoolLeadsTo}
use Rattle.vt_pool.specs.inside.Executing.{past_of, fired_by, pool_after_execute, IsFired, IsLedBy, HasExecuted, IsNotExecuted}
use Rattle.vt_pool.proofs.ViewLemmas.{number-index, number-own, index-own, get-in, are-from, to-first}
use Rattle.vt_pool.proofs.GuardLemmas.{may-execute}
use Rattle.vt_pool.proofs.InsideLemmas.{executed-inside}
use Rattle.vt_pool.proofs.KeptLemmas.{nodes-more}
use Rattle.vt_pool.proofs.PoolLemmas.{streams-moved}
use Rattle.vt_pool.proofs.ReceiveLemmas.{number-of, index-there}
use Rattle.vt_pool.proofs.StepLemmas.{execute-done}
use Rattle.vt_pool.proofs.ShareLemmas.{IsIndexOf}

-- ---- how the fields of a pool go together

-- messages are for processes of the run, and below its end, where their anti-messages are
messages-within : {P : Type 0} (lps : ℕ) (end : Time) (es : List (Event P)) → All (IsReady lps end) (map (signed Minus) es) → All (IsWithinRun lps end) (map (signed Plus) es)
messages-within lps end [] ready = All-nil (IsWithinRun lps end)
messages-within lps end (e ∷ es) ready =
    let here = All-head (IsReady lps end) (signed Minus e) (map (signed Minus) es) ready in
    All-cons (IsWithinRun lps end) (signed Plus e) (map (signed Plus) es) (record { known = here.within.known; soon = here.within.soon })
    (messages-within lps end es (All-tail (IsReady lps end) (signed Minus e) (map (signed Minus) es) ready))

module _ {S P K : Type 0} (handlers : Handlers S P K) {config : Config} {w : ℕ} {stock : Stock S P K} {streams : List Stream} {outbox : HeldOutbox P} {serial : ℕ} {reached : Time} {heard : List ℕ} {kept : ℕ}
    (h : IsPoolInside config w stock streams outbox serial reached heard kept) where
  -- after Execute
  pub pool-executed : (i : ℕ) (triple now : Triple S) (letter : Letter P) (rest : List (Letter P)) (entry : Entry P K) (sends : List (Sent P)) (records : List Record) (before after : Stream) (until : Time) (letters : HeldOutbox P)
      (next left : ℕ) → IsFired handlers config (number_at config w i) letter.event serial triple now entry sends records → number_at config w i < config.lps → letter.sign ≡ Plus
      → stock.pending ≡ letter ∷ rest → ComesAfter stock.past letter
      → slice_get streams i ≡ Some before → after.key ≡ before.key → after.process ≡ before.process → TimeAtMost reached until → TimeAtMost letter.event.rank.key.time until
      → letters ≡ record outbox { letters = outbox.letters ++ map (signed Plus) (stamped w serial sends) } → next ≡ serial + length sends → sum_by nodes_of stock.past + (1 + length sends) ≤ left
      → IsPoolInside config w (executed_in i (past_of w entry sends records) rest now stock) (slice_set streams i after) letters next until heard left
  pool-executed i triple now letter rest entry sends records before after until letters next left fired known plus first later at key process late soon posted count room =
      let event : PastEvent P K = past_of w entry sends records in
      let e : Placed P K = record { index = i; event = event } in
      let own = fired.own w in
      let brought : event.letter ≡ letter = λ j. record { event = fired.event_is j; sign = sym plus j } in
      let was_heard : AllByRecursion (λ (l : Letter P). IsHeard heard (letter_rank l).stamp) (letter ∷ rest) =
      subst (AllByRecursion (λ (l : Letter P). IsHeard heard (letter_rank l).stamp)) first h.heard_pending in
      let nodes = nodes-more i event stock.past in
      let anti = length-letters Minus w entry.serial sends in
      let few = fired.counted in
      let ready = subst (λ n. All (IsReady config.lps (end_of config)) (map (signed Minus) (stamped w n sends))) fired.serial_is own.ready in
      record {
        known = h.known;
        inside = executed-inside h.inside i now letter rest event first brought later fired.numbered known own;
        own_streams = streams-moved config w i streams before after h.own_streams at key process;
        reached_all = every-append (λ (d : Placed P K). TimeAtMost (placed_rank d).key.time until) stock.past (e ∷ [])
            (every-weaker (λ (d : Placed P K). TimeAtMost (placed_rank d).key.time reached) (λ (d : Placed P K). TimeAtMost (placed_rank d).key.time until) stock.past (λ d early. omega (arith, early, late)) h.reached_all)
            (subst (λ (l : Letter P). TimeAtMost l.event.rank.key.time until) (sym brought) soon, tt);
        heard_each = h.heard_each;
        heard_pending = was_heard.1;
        heard_past = every-append (λ (d : Placed P K). IsHeard heard (placed_rank d).stamp) stock.past (e ∷ []) h.heard_past
            (subst (λ (l : Letter P). IsHeard heard (letter_rank l).stamp) (sym brought) was_heard.0, tt);
        enough = omega (arith, nodes, anti, room);
        sendable = subst (λ (o : HeldOutbox P). AllWithinRun config o.letters) (sym posted)
            (All-append (IsWithinRun config.lps (end_of config)) outbox.letters (map (signed Plus) (stamped w serial sends)) h.sendable (messages-within config.lps (end_of config) (stamped w serial sends) ready));
        by_worker = ap (λ (o : HeldOutbox P). o.config) posted ∙ h.by_worker;
        few_made = omega (arith, few, count);
      }

  -- after an event that was taken back, whose process may stand elsewhere
  pub pool-taken_back : (i : ℕ) (now : Triple S) (before after : Stream) (left : ℕ) → now.number ≤ MAX_COUNT → slice_get streams i ≡ Some before → after.key ≡ before.key → after.process ≡ before.process → kept ≤ left
      → IsPoolInside config w (record stock { triples = slice_set stock.triples i now }) (slice_set streams i after) outbox serial reached heard left
  pool-taken_back i now before after left few at key process more =
      let s = h.inside in
      let enough = h.enough in
      record {
        known = h.known;
        inside = record {
          all_there = length-set stock.triples i now ∙ s.all_there;
          few_sends = every-put (λ (t : Triple S). t.number ≤ MAX_COUNT) stock.triples i now s.few_sends few;
          own_pending = s.own_pending;
          own_waiting = s.own_waiting;
          own_past = s.own_past;
          pending_rises = s.pending_rises;
          waiting_rises = s.waiting_rises;
          pasts_rise = s.pasts_rise;
          pending_stamps = s.pending_stamps;
          waiting_stamps = s.waiting_stamps;
          past_stamps = s.past_stamps;
          apart = s.apart;
        };
        own_streams = streams-moved config w i streams before after h.own_streams at key process;
        reached_all = h.reached_all;
        heard_each = h.heard_each;
        heard_pending = h.heard_pending;
        heard_past = h.heard_past;
        enough = omega (arith, enough, more);
        sendable = h.sendable;
        by_worker = h.by_worker;
        few_made = h.few_made;
      }

-- ---- the step

-- a step that is done, and then others
pub led-by : {S P K : Type 0} (handlers : Handlers S P K) (old mid new : HeldWorker S P K) (step : Step) (part : Part P) → mid.worker ≡ old.worker → mid.config ≡ old.config
    → IsDone handlers mid (part_after handlers old step part) → LeadsTo handlers mid new → IsLedBy handlers step old part new
led-by {P = P} handlers old mid new step part worker config done leads =
    let more = leads.steps done.part done.stands in
    let there = λ (c : Config) (w : ℕ). local_steps (simulation_of handlers c) w more.steps done.part in
    record {
      more = more.steps;
      after = more.after;
      led = ap (option_and_then (local_steps (simulation_of handlers old.config) old.worker more.steps)) done.lawful ∙ (λ j. there (sym config j) (sym worker j)) ∙ more.led;
      stands = more.stands;
    }

module _ {S P K : Type 0} (handlers : Handlers S P K) (old : HeldShare S P K) (known : old.worker < old.config.workers) (inside : IsStockInside old.config old.worker old.stock)
    (i : ℕ) (triple : Triple S) (letter : Letter P) (rest : List (Letter P)) (at : slice_get old.stock.triples i ≡ Some triple) (first : old.stock.pending ≡ letter ∷ rest) (index : IsIndexOf old i letter)
    (after : ComesAfter old.stock.past letter) where
  abbrev pub number : ℕ
  number = number_at old.config old.worker i

  mine : IsWorkersLetter old.config old.worker Plus letter
  mine = (subst (AllByRecursion (IsWorkersLetter old.config old.worker Plus)) first inside.own_pending).0

  within : number < old.config.lps
  within = subst (λ q. q < old.config.lps) index mine.within.known

  -- its process, in memory and in the part
  there : (part : Part P) → StandsFor handlers (seen old) part → IsFound handlers (seen old) part number (process_in old.config old.worker i triple old.stock)
  there part s =
      found-at handlers (seen old) (are-from old.config old.worker 0 old.stock.triples old.stock) part s (index-own old.config old.worker known i within) (get-in old.config old.worker i triple old.stock at)

  -- the process stands for one of the part
  pub stands-there : (part : Part P) → StandsFor handlers (seen old) part → (process : LogicalProcess P) × ProcessStandsFor handlers (process_in old.config old.worker i triple old.stock) process
  stands-there part s = (let f = there part s in (f.process, f.stands))

  -- why the step is refused
  pub execute-refused : (part : Part P) (fault : Fault) → StandsFor handlers (seen old) part → IsAdvanceRefusal (fired_by handlers old.config number triple letter.event) old.serial fault
      → IsExecuteRefusal (simulation_of handlers old.config) number (part_after handlers (seen old) (Execute number) part) fault
  execute-refused part fault s why =
      let config = old.config in
      let w = old.worker in
      let sim = simulation_of handlers config in
      let held = seen old in
      let q : HeldProcess S P K = process_in config w i triple old.stock in
      let f = there part s in
      let may = may-execute config w i letter old.stock.past inside.own_past after index in
      let pending : q.pending ≡ letter ∷ letters_to number rest = ap (letters_to number) first ∙ to-first number letter rest index in
      let ready : Some letter.event ≡ ready_event q.pending q.past =
      sym (ap (λ ls. ready_event ls q.past) pending ∙ ap (λ (b : Bool). if b then Some letter.event else None) may) in
      let at_process : ProcessRefusal sim number old.serial (execute_process sim number w old.serial f.process) fault = refuses handlers q w old.serial f.process number letter.event fault f.stands ready refl why in
      let one : execute_process sim number w old.serial f.process ≡ execute-step handlers held part number f.process =
      λ j. execute_process sim (sym (number-index config w known i) j * config.workers + w) w (sym s.serial j) f.process in
      let own = number-own config w known i in
      subst (λ x. IsExecuteRefusal sim number x fault) (sym (own-execute sim w number part ∙ own-step sim w number (execute-step handlers held part number) part f.process own f.there))
      (refusal-at handlers held part number (execute-step handlers held part number f.process) f.process fault s f.there (subst (λ x. ProcessRefusal sim number old.serial x fault) one at_process))

  -- it is a step
  pub execute-first : (now : Triple S) (entry : Entry P K) (sends : List (Sent P)) (records : List Record) → IsFired handlers old.config number letter.event old.serial triple now entry sends records
      → ((process : LogicalProcess P) → ProcessStandsFor handlers (process_in old.config old.worker i triple old.stock) process
      → IsRemembered (simulation_of handlers old.config) number triple (remembered handlers number (past_of old.worker entry sends records)))
      → (part : Part P) → StandsFor handlers (seen old) part
      → IsDone handlers (seen (record old { stock = executed_in i (past_of old.worker entry sends records) rest now old.stock; outbox = old.outbox ++ map (signed Plus) (stamped old.worker old.serial sends); serial = old.serial + length sends }))
      (part_after handlers (seen old) (Execute number) part)
  execute-first now entry sends records fired kept part s =
      let w = old.worker in
      let sim = simulation_of handlers old.config in
      let step = part_after handlers (seen old) (Execute number) part in
      let outbox : List (Letter P) = old.outbox ++ map (signed Plus) (stamped w old.serial sends) in
      let serial : ℕ = old.serial + length sends in
      let undo_entry : UndoEntry P K = record { kept = entry.kept; bits = entry.bits; drawn = entry.drawn; number = entry.number; anti_messages = map (signed Minus) (stamped w entry.serial sends) } in
      let event_is : past_of w entry sends records ≡ past_event letter undo_entry records = λ j. past_event (record { event = fired.event_is j; sign = sym mine.signed j }) undo_entry records in
      let anti : undo_entry.anti_messages ≡ map (signed Minus) (stamped w old.serial (fired_by handlers old.config number triple letter.event).sends) = λ j. map (signed Minus) (stamped w (fired.serial_is j) (fired.sends_are j)) in
      subst (λ (e : PastEvent P K). IsDone handlers (seen (record old { stock = executed_in i e rest now old.stock; outbox = outbox; serial = serial })) step) (sym event_is)
      (execute-done handlers (seen old) old.stock refl known part s i triple now letter rest undo_entry records outbox serial within at first index mine.signed
      (may-execute old.config w i letter old.stock.past inside.own_past after index) fired.triple
      (λ process st. subst (λ (ev : Event P). IsRemembered sim number triple (remembered handlers number (past_event (signed Plus ev) undo_entry records))) fired.event_is (kept process st))
      anti (ap (λ (xs : List (Sent P)). old.outbox ++ map (signed Plus) (stamped w old.serial xs)) fired.sends_are) (ap (λ (xs : List (Sent P)). old.serial + length xs) fired.sends_are))

-- ---- a pool

module _ {S P K : Type 0} (handlers : Handlers S P K) (pool : HeldPool S P K) (known : pool.worker < pool.config.workers) (inside : IsStockInside pool.config pool.worker pool.stock)
    (i : ℕ) (triple : Triple S) (letter : Letter P) (later : List (Letter P)) (at : slice_get pool.stock.triples i ≡ Some triple) (first : pool.stock.pending ≡ letter ∷ later)
    (index : letter.event.dest ≡ number_at pool.config pool.worker i) (after : ComesAfter pool.stock.past letter) where
  -- the state of the letter's process can be, where the pool stands for a part
  pub can-be : (IsState : S → Type 0) → ((lps lp : ℕ) (words : ℕ → ℕ) → IsState (handlers.start lps lp words).state)
      → ((lps lp now : ℕ) (payload : P) (s : S) (words : ℕ → ℕ) → IsState s → IsState (handlers.forward lps lp now payload s words).state)
      → (rest : HeldShare S P K) (part : Part P) → StandsFor handlers (seen (with_pool rest pool)) part → IsState triple.state
  can-be IsState start_state forward_state rest part s =
      let sim = simulation_of handlers pool.config in
      let q : HeldProcess S P K = process_in pool.config pool.worker i triple pool.stock in
      let f = stands-there handlers (with_pool rest pool) known inside i triple letter later at first index after part s in
      subst (λ (t : Triple S). IsState t.state) (is_where sim q.lp (process_memory handlers q) f.0 f.1)
      (after_state handlers pool.config IsState start_state forward_state q.lp (entry_events (f.0.done ++ f.0.past)))

  -- why it isn't executed
  pub not-executed : (fault : Fault) → IsAdvanceRefusal (fired_by handlers pool.config (number_at pool.config pool.worker i) triple letter.event) pool.serial fault → IsNotExecuted handlers pool fault
  not-executed fault why = record {
    letter = letter;
    later = later;
    first = first;
    refused = λ rest part s.
        let held = seen (with_pool rest pool) in
        subst (λ p. IsExecuteRefusal (simulation_of handlers pool.config) p (part_after handlers held (Execute p) part) fault) (sym index)
        (execute-refused handlers (with_pool rest pool) known inside i triple letter later at first index after part fault s why);
  }

  module _ (now : Triple S) (entry : Entry P K) (sends : List (Sent P)) (records : List Record) (fired : IsFired handlers pool.config (number_at pool.config pool.worker i) letter.event pool.serial triple now entry sends records)
      (kept : (rest : HeldShare S P K) (part : Part P) → StandsFor handlers (seen (with_pool rest pool)) part
      → IsRemembered (simulation_of handlers pool.config) (number_at pool.config pool.worker i) triple (remembered handlers (number_at pool.config pool.worker i) (past_of pool.worker entry sends records)))
      (new : HeldPool S P K) (home : PoolLeadsTo handlers (pool_after_execute i entry sends records later now pool) new) where
    led : (rest : HeldShare S P K) (part : Part P) → StandsFor handlers (seen (with_pool rest pool)) part
        → IsLedBy handlers (Execute letter.event.dest) (seen (with_pool rest pool)) part (seen (with_pool rest new))
    led rest part s =
        let old = with_pool rest pool in
        let mid = with_pool rest (pool_after_execute i entry sends records later now pool) in
        subst (λ p. IsLedBy handlers (Execute p) (seen old) part (seen (with_pool rest new))) (sym index)
        (led-by handlers (seen old) (seen mid) (seen (with_pool rest new)) (Execute (number_at pool.config pool.worker i)) part refl refl
        (execute-first handlers old known inside i triple letter later at first index after now entry sends records fired (λ process st. kept rest part s) part s) (home rest))

    pub has-executed : HasExecuted handlers pool new
    has-executed = record { letter = letter; later = later; first = first; steps = led }

    pub executed-leads : PoolLeadsTo handlers pool new
    executed-leads rest = record {
      worker = (home rest).worker;
      config = (home rest).config;
      steps = λ part s. (let l = led rest part s in record { steps = Execute letter.event.dest ∷ l.more; after = l.after; led = l.led; stands = l.stands });
    }

-- a pool that is as before, where it stood for a part
pub stays-leads : {S P K : Type 0} (handlers : Handlers S P K) (old new : HeldPool S P K) → new.worker ≡ old.worker → new.config ≡ old.config
    → ((rest : HeldShare S P K) (part : Part P) → StandsFor handlers (seen (with_pool rest old)) part → new ≡ old) → PoolLeadsTo handlers old new
stays-leads handlers old new worker config same rest = record {
  worker = worker;
  config = config;
  steps = λ part s. record { steps = []; after = part; led = refl; stands = subst (λ (v : HeldPool _ _ _). StandsFor handlers (seen (with_pool rest v)) part) (sym (same rest part s)) s };
}

-- how many nodes the undo of all events takes
pub nodes-logged : {P K : Type 0} (w : ℕ) (es : List (Logged P K)) → sum_by nodes_of (map (placed w) es) ≡ all_nodes es
nodes-logged w [] = refl
nodes-logged w (e ∷ es) =
    let rest = nodes-logged w es in
    let count = length-letters Minus w e.entry.serial e.sends in
    omega (arith, rest, count, sum_by-cons nodes_of (placed w e) (map (placed w) es), sum_by-cons nodes_logged e es)

-- ---- the letter that is taken out

-- what the first pending letter is, whose process is at this index
pub record IsTaken {S P K : Type 0} (config : Config) (w : ℕ) (stock : Stock S P K) (letter : Letter P) (rest : List (Letter P)) (i : ℕ) : Type 0 where
  pub mine : IsWorkersLetter config w Plus letter
  pub number : letter.event.dest ≡ number_at config w i
  pub known : number_at config w i < config.lps
  pub within : i < length stock.triples
  pub later : ComesAfter stock.past letter
  pub before : AllByRecursion (λ l. RankBefore (letter_rank letter) (letter_rank l)) rest

pub taken : {S P K : Type 0} {config : Config} {w : ℕ} {stock : Stock S P K} (letter : Letter P) (rest : List (Letter P)) (i : ℕ) → w < config.workers → IsStockInside config w stock → AreSettled stock
    → stock.pending ≡ letter ∷ rest → i ≡ letter.event.dest / config.workers → IsTaken config w stock letter rest i
taken {P = P} {config = config} {w = w} {stock = stock} letter rest i known inside settled first index =
    let mine : IsWorkersLetter config w Plus letter = (subst (AllByRecursion (IsWorkersLetter config w Plus)) first inside.own_pending).0 in
    let number = number-of config w letter.event.dest i index mine.own in
    record {
      mine = mine;
      number = number;
      known = subst (λ p. p < config.lps) number mine.within.known;
      within = index-there letter.event.dest i known inside index mine.own mine.within.known;
      later = (subst (AllByRecursion (ComesAfter stock.past)) first settled).0;
      before = (subst IsRising first inside.pending_rises).0;
    }
