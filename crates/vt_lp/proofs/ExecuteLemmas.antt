-- Execute: what the code does is the step of each process that it stands for.
use Rattle.std.proofs.Common.{◌≡◌, ℕ, ◌+◌, ◌<◌, ◌≤◌, inl, inr, List, [], ◌∷◌, ◌++◌, map, length, Bool, true, false, Option, Some, None, if◌then◌else◌, refl, sym, subst, ap, ◌∙◌, arith}
use Rattle.std.specs.List.{All, last_or}
use Rattle.std.proofs.lemmas.List.{map-append}
use Rattle.std.proofs.lemmas.List.Elements.{All-head, All-tail, All-cons, All-nil, All-append, All-weaker}
use Rattle.vt_key.proofs.RisingLemmas.{second-false}
use Rattle.vt_key.specs.promise.Times.{Time, TimeBefore}
use Rattle.vt_key.specs.inside.Order.{RankBefore}
use Rattle.vt_key.specs.promise.Queues.{letter_rank, has_rank}
use Rattle.vt_key.specs.inside.Queues.{holds_rank, IsRising}
use Rattle.vt_key.specs.declared.limits.TheConstants.{MAX_COUNT}
use Rattle.vt_key.specs.declared.fault.Fault.{Fault}
use Rattle.vt_key.specs.declared.letter.Event.{Event}
use Rattle.vt_key.specs.declared.letter.Letter.{Letter}
use Rattle.vt_key.specs.declared.letter.Sign.TheVariants.{Plus, Minus}
use Rattle.vt_key.proofs.ListLemmas.{every-append}
use Rattle.vt_key.proofs.OrderLemmas.{rank-transitive, rank_before-true}
use Rattle.vt_model.specs.declared.sending.Sent.{Sent}
use Rattle.vt_model.specs.declared.rows.Record.{Record}
use Rattle.vt_model.specs.declared.settings.Config.{Config}
use Rattle.vt_model.specs.promise.Handler.{Handlers}
use Rattle.vt_model.specs.declared.limits.TheConstants.{MAX_DRAWS}
use Rattle.vt_model.specs.inside.Process.{IsProcessStream}
use Rattle.vt_stream.specs.inside.Words.{Stream}
use Rattle.vt_model.specs.promise.Simulation.{Simulation, Triple, Fired, simulation_of}
use Rattle.vt_model.specs.promise.Settings.{end_of}
use Rattle.vt_steps.specs.promise.Letters.{unstamped, stamped, signed}
use Rattle.vt_steps.specs.promise.World.{Entry, LogicalProcess, triple_after, entry_rank}
use Rattle.vt_steps.specs.promise.ProcessSteps.{may_follow, effect_of_execute, execute_least, execute_process}
use Rattle.vt_steps.specs.inside.StandsFor.{entry_of, IsRemembered, LeadTo}
use Rattle.vt_steps.proofs.steps.MemoryLemmas.{is_where, goes_on, after-append}
use Rattle.vt_steps.proofs.letters.Stamped.{length-stamped}
use Rattle.vt_past.specs.declared.event.PastEvent.{PastEvent}
use Rattle.vt_past.specs.declared.event.UndoEntry.{UndoEntry}
use Rattle.vt_lp.specs.inside.Held.{HeldProcess, StandsFor, process_memory, remembered, way_back, IsOwnLetter, IsOwnEvent, IsReady, IsRisingPast, IsNotPending, IsProcessInside}
use Rattle.vt_lp.specs.inside.Guards.{IsDone, IsExecuteRefusal, may_come_after}
use Rattle.vt_past.specs.inside.Events.{past_event}
use Rattle.vt_lp.specs.inside.Past.{ready_event, IsAdvanceRefusal}
use Rattle.vt_lp.proofs.Ends.{none-after}
use Rattle.vt_lp.proofs.Advancing.{events-signed}

if-some : {A : Type 0} (b : Bool) (x y : A) → Some y ≡ (if b then Some x else None) → (b ≡ true) × (y ≡ x)
if-some b x y = elim b as (λ c. Some y ≡ (if c then Some x else None) → (c ≡ true) × (y ≡ x)) [
  | true ↦ λ e. (refl, (let h : Some y ≡ Some x = e in cc))
  | false ↦ λ e. absurd (let h : Some y ≡ None = e in cc)
]

if-none : {A : Type 0} (b : Bool) (x : A) → None ≡ (if b then Some x else None) → b ≡ false
if-none b x = elim b as (λ c. None ≡ (if c then Some x else None) → c ≡ false) [
  | true ↦ λ e. absurd (let h : None ≡ Some x = e in cc)
  | false ↦ λ e. refl
]

module _ {P K : Type 0} where
  -- the ready event is that of the least pending letter
  pub ready-least : (l : Letter P) (ls : List (Letter P)) (past : List (PastEvent P K)) (e : Event P) → Some e ≡ ready_event (l ∷ ls) past → e ≡ l.event
  ready-least l ls past e h = (if-some (may_come_after (last_or None past) l.event.rank) l.event e h).1

  pub ready-may : (l : Letter P) (ls : List (Letter P)) (past : List (PastEvent P K)) (e : Event P) → Some e ≡ ready_event (l ∷ ls) past → may_come_after (last_or None past) l.event.rank ≡ true
  ready-may l ls past e h = (if-some (may_come_after (last_or None past) l.event.rank) l.event e h).0

  pub ready-some : (pending : List (Letter P)) (past : List (PastEvent P K)) (e : Event P) → Some e ≡ ready_event pending past → 0 < length pending
  ready-some [] past e h = absurd (let k : Some e ≡ None = h in cc)
  ready-some (l ∷ ls) past e h = omega arith

  -- it is for the process, and before the end
  pub ready-own : (p : ℕ) (end : Time) (pending : List (Letter P)) (past : List (PastEvent P K)) (e : Event P) → All (IsOwnLetter p end Plus) pending → Some e ≡ ready_event pending past →
      (e.dest ≡ p) × TimeBefore e.rank.key.time end
  ready-own p end [] past e own h = absurd (let k : Some e ≡ None = h in cc)
  ready-own p end (l ∷ ls) past e own h =
      let o : IsOwnLetter p end Plus l = All-head (IsOwnLetter p end Plus) l ls own in
      subst (λ (x : Event P). (x.dest ≡ p) × TimeBefore x.rank.key.time end) (sym (ready-least l ls past e h)) (o.dest, o.soon)

module _ {S P K : Type 0} (handlers : Handlers S P K) where
  -- what may follow the last entry of a process may come after the last past event of the value
  last-may : (p : ℕ) (o : Option (PastEvent P K)) (r : Option (Entry P)) (es : List (PastEvent P K)) (event : Event P) →
      may_follow entry_rank r event.rank ≡ may_come_after o event.rank → may_follow entry_rank (last_or r (map entry_of (map (remembered handlers p) es))) event.rank ≡ may_come_after (last_or o es) event.rank
  last-may p o r [] event h = h
  last-may p o r (e ∷ es) event h = last-may p (Some e) (Some (entry_of (remembered handlers p e))) es event refl

  pub may-is : (held : HeldProcess S P K) (h : LogicalProcess P) (event : Event P) → StandsFor handlers held h → may_follow entry_rank (last_or None h.past) event.rank ≡ may_come_after (last_or None held.past) event.rank
  may-is held h event s = ap (λ (es : List (Entry P)). may_follow entry_rank (last_or None es) event.rank) s.past ∙ last-may held.lp None None held.past event refl

  -- Execute is not lawful
  pub execute-none : (held : HeldProcess S P K) (w serial : ℕ) (h : LogicalProcess P) → None ≡ ready_event held.pending held.past → StandsFor handlers held h →
      execute_process (simulation_of handlers held.config) held.lp w serial h ≡ None
  execute-none held w serial h none s =
      ap (λ ls. execute_least (simulation_of handlers held.config) held.lp w serial h ls) s.pending ∙ from held.pending none
    where
      from : (ls : List (Letter P)) → None ≡ ready_event ls held.past → execute_least (simulation_of handlers held.config) held.lp w serial h ls ≡ None
      from [] e = refl
      from (l ∷ ls) e =
          ap (λ b. if b then Some (effect_of_execute (simulation_of handlers held.config) held.lp w serial h l ls) else None)
          (may-is held h l.event s ∙ if-none (may_come_after (last_or None held.past) l.event.rank) l.event e)

  -- Execute is lawful
  pub execute-some : (held : HeldProcess S P K) (w serial : ℕ) (h : LogicalProcess P) (l : Letter P) (ls : List (Letter P)) (e : Event P) → held.pending ≡ l ∷ ls →
      Some e ≡ ready_event held.pending held.past → StandsFor handlers held h →
      execute_process (simulation_of handlers held.config) held.lp w serial h ≡ Some (effect_of_execute (simulation_of handlers held.config) held.lp w serial h l ls)
  execute-some held w serial h l ls e is ready s =
      ap (λ xs. execute_least (simulation_of handlers held.config) held.lp w serial h xs) (s.pending ∙ is)
      ∙ ap (λ b. if b then Some (effect_of_execute (simulation_of handlers held.config) held.lp w serial h l ls) else None)
      (may-is held h l.event s ∙ ready-may l ls held.past e (ready ∙ ap (λ xs. ready_event xs held.past) is))

  -- a process that an event took on and back stands where it stood
  pub came-back : (config : Config) (p : ℕ) (before now : Triple S) (event : Event P) (undo_entry : UndoEntry P K) (records : List Record) →
      now ≡ ((simulation_of handlers config).fire p before (unstamped event)).triple →
      IsRemembered (simulation_of handlers config) p before (remembered handlers p (past_event (signed Plus event) undo_entry records)) →
      way_back handlers p (past_event (signed Plus event) undo_entry records) now ≡ before
  came-back config p before now event undo_entry records triple kept = ap (way_back handlers p (past_event (signed Plus event) undo_entry records)) triple ∙ kept.back

  -- the step of each process that the value stands for
  pub executes : (held : HeldProcess S P K) (w serial : ℕ) (h : LogicalProcess P) (l : Letter P) (ls : List (Letter P)) (q : ℕ) (event : Event P) (now : Triple S) (undo_entry : UndoEntry P K) (records : List Record)
      (past : List (PastEvent P K)) (outbox new_outbox messages : List (Letter P)) (new_serial : ℕ) →
      StandsFor handlers held h → held.pending ≡ l ∷ ls → Some event ≡ ready_event held.pending held.past → l.sign ≡ Plus → q ≡ held.lp →
      past ≡ held.past ++ past_event l undo_entry records ∷ [] →
      now ≡ ((simulation_of handlers held.config).fire q held.triple (unstamped event)).triple →
      IsRemembered (simulation_of handlers held.config) q held.triple (remembered handlers q (past_event (signed Plus event) undo_entry records)) →
      undo_entry.anti_messages ≡ map (signed Minus) (stamped w serial ((simulation_of handlers held.config).fire q held.triple (unstamped event)).sends) →
      messages ≡ map (signed Plus) (stamped w serial ((simulation_of handlers held.config).fire q held.triple (unstamped event)).sends) →
      new_outbox ≡ outbox ++ messages →
      new_serial ≡ serial + length ((simulation_of handlers held.config).fire q held.triple (unstamped event)).sends →
      IsDone handlers (record { lp = held.lp; config = held.config; triple = now; past = past; pending = ls; waiting = held.waiting })
      (execute_process (simulation_of handlers held.config) held.lp w serial h) outbox new_outbox serial new_serial
  unfolding effect_of_execute
  executes held w serial h l ls q event now undo_entry records past outbox new_outbox messages new_serial s is ready plus own longer triple kept anti mess box next =
      let p : ℕ = held.lp in
      let sim : Simulation S P = simulation_of handlers held.config in
      let first : event ≡ l.event = ready-least l ls held.past event (ready ∙ ap (λ xs. ready_event xs held.past) is) in
      let letter : signed Plus event ≡ l = λ j. record { event = first j; sign = sym plus j } in
      let fired : Fired S P = sim.fire p held.triple (unstamped l.event) in
      let same : sim.fire q held.triple (unstamped event) ≡ fired = λ j. sim.fire (own j) held.triple (unstamped (first j)) in
      let at : triple_after sim p (h.done ++ h.past) ≡ held.triple = is_where sim p (process_memory handlers held) h s in
      let e : PastEvent P K = past_event l undo_entry records in
      let kept_own : IsRemembered sim p held.triple (remembered handlers p e) =
      coe 0 1 (j. IsRemembered sim (own j) held.triple (remembered handlers (own j) (past_event (letter j) undo_entry records))) kept in
      let gone = goes_on sim p (process_memory handlers held) h (remembered handlers p e) s kept_own in
      let grown : map (remembered handlers p) held.past ++ remembered handlers p e ∷ [] ≡ map (remembered handlers p) past =
      sym (map-append (remembered handlers p) held.past (e ∷ [])) ∙ ap (map (remembered handlers p)) (sym longer) in
      let sent : map (λ x. x.event) undo_entry.anti_messages ≡ stamped w serial fired.sends =
      ap (map (λ x. x.event)) (anti ∙ ap (λ (f : Fired S P). map (signed Minus) (stamped w serial f.sends)) same) ∙ events-signed Minus (stamped w serial fired.sends) in
      let there : fired ≡ sim.fire p (triple_after sim p (h.done ++ h.past)) (unstamped l.event) = ap (λ (t : Triple S). sim.fire p t (unstamped l.event)) (sym at) in
      let now_is : fired.triple ≡ now = ap (λ (f : Fired S P). f.triple) (sym same) ∙ sym triple in
      record {
        effect = effect_of_execute sim p w serial h l ls;
        lawful = execute-some held w serial h l ls event is ready s;
        stands = record {
          past = (λ j. h.past ++ record { event = l.event; sent = stamped w serial (sym there j).sends } ∷ [])
              ∙ (λ j. h.past ++ record { event = l.event; sent = sym sent j } ∷ [])
              ∙ gone.past
              ∙ ap (map entry_of) grown;
          pending = refl;
          waiting = s.waiting;
          leads = coe 0 1 (j. LeadTo sim p (triple_after sim p h.done) (grown j) (now_is j)) gone.leads;
        };
        letters = box ∙ ap (λ (xs : List (Letter P)). outbox ++ xs) (mess ∙ ap (λ (f : Fired S P). map (signed Plus) (stamped w serial f.sends)) (same ∙ there));
        serials = next ∙ ap (λ (f : Fired S P). serial + length f.sends) (same ∙ there)
            ∙ ap (λ (n : ℕ). serial + n) (sym (length-stamped w serial (sim.fire p (triple_after sim p (h.done ++ h.past)) (unstamped l.event)).sends));
      }

  -- why it is refused where it is lawful
  pub refuses : (held : HeldProcess S P K) (w serial : ℕ) (h : LogicalProcess P) (q : ℕ) (event : Event P) (fault : Fault) →
      StandsFor handlers held h → Some event ≡ ready_event held.pending held.past → q ≡ held.lp →
      IsAdvanceRefusal ((simulation_of handlers held.config).fire q held.triple (unstamped event)) serial fault →
      IsExecuteRefusal (simulation_of handlers held.config) held.lp serial (execute_process (simulation_of handlers held.config) held.lp w serial h) fault
  unfolding effect_of_execute
  refuses held w serial h q event fault s ready own refused = from held.pending refl ready
    where
      sim : Simulation S P
      sim = simulation_of handlers held.config

      lawful-refusal : (l : Letter P) (ls : List (Letter P)) → IsAdvanceRefusal (sim.fire held.lp held.triple (unstamped l.event)) serial fault →
          IsExecuteRefusal sim held.lp serial (Some (effect_of_execute sim held.lp w serial h l ls)) fault
      lawful-refusal l ls r =
          let at : triple_after sim held.lp (h.done ++ h.past) ≡ held.triple = is_where sim held.lp (process_memory handlers held) h s in
          let sends : List (Sent P) = (sim.fire held.lp (triple_after sim held.lp (h.done ++ h.past)) (unstamped l.event)).sends in
          let e : Entry P = record { event = l.event; sent = stamped w serial sends } in
          let same : sim.fire held.lp held.triple (unstamped l.event) ≡ sim.fire held.lp (triple_after sim held.lp (h.done ++ h.past)) (unstamped l.event) =
          ap (λ (t : Triple S). sim.fire held.lp t (unstamped l.event)) (sym at) in
          let after : triple_after sim held.lp (h.done ++ (h.past ++ e ∷ [])) ≡ (sim.fire held.lp (triple_after sim held.lp (h.done ++ h.past)) (unstamped l.event)).triple =
          after-append sim held.lp (sim.start held.lp).triple h.done (h.past ++ e ∷ [])
          ∙ after-append sim held.lp (triple_after sim held.lp h.done) h.past (e ∷ [])
          ∙ ap (λ (t : Triple S). (sim.fire held.lp t (unstamped l.event)).triple) (sym (after-append sim held.lp (sim.start held.lp).triple h.done h.past)) in
          let number : (triple_after sim held.lp (h.done ++ (h.past ++ e ∷ []))).number ≡ (sim.fire held.lp held.triple (unstamped l.event)).triple.number =
          ap (λ (t : Triple S). t.number) after ∙ ap (λ (f : Fired S P). f.triple.number) (sym same) in
          let count : length (stamped w serial sends) ≡ length (sim.fire held.lp held.triple (unstamped l.event)).sends =
          length-stamped w serial sends ∙ ap (λ (f : Fired S P). length f.sends) (sym same) in
          elim r [
            | inl x ↦ inl (
              x.0,
              elim x.1 [
                | inl m ↦ inl (subst (λ n. MAX_COUNT < n) (sym number) m)
                | inr m ↦ inr (subst (λ n. MAX_COUNT < serial + n) (sym count) m)
              ],
            )
            | inr x ↦ inr (
              x.0,
              λ over.
                  (let few = x.1 in
                  let few_serials = x.2 in
                  elim over [
                    | inl m ↦ omega (arith, m, number, few)
                    | inr m ↦ omega (arith, m, count, few_serials)
                  ]),
            )
          ]

      from : (ls : List (Letter P)) → held.pending ≡ ls → Some event ≡ ready_event ls held.past →
          IsExecuteRefusal sim held.lp serial (execute_process sim held.lp w serial h) fault
      from [] is r = absurd (let k : Some event ≡ None = r in cc)
      from (l ∷ ls) is r =
          let first : event ≡ l.event = ready-least l ls held.past event r in
          subst (λ step. IsExecuteRefusal sim held.lp serial step fault) (sym (execute-some held w serial h l ls event is ready s))
          (lawful-refusal l ls (coe 0 1 (j. IsAdvanceRefusal (sim.fire (own j) held.triple (unstamped (first j))) serial fault) refused))

-- ---- what a process keeps to

module _ {P K : Type 0} where
  before-end : (d e : PastEvent P K) (ds : List (PastEvent P K)) → IsRisingPast (d ∷ ds) → may_come_after (last_or (Some d) ds) e.letter.event.rank ≡ true →
      RankBefore d.letter.event.rank e.letter.event.rank
  before-end d e [] rises h = rank_before-true d.letter.event.rank e.letter.event.rank h
  before-end d e (c ∷ cs) rises h = rank-transitive d.letter.event.rank c.letter.event.rank e.letter.event.rank rises.0.0 (before-end c e cs rises.1 h)

  rising-more : (es : List (PastEvent P K)) (e : PastEvent P K) → IsRisingPast es → may_come_after (last_or None es) e.letter.event.rank ≡ true → IsRisingPast (es ++ e ∷ [])
  rising-more [] e rises h = (tt, tt)
  rising-more (d ∷ []) e rises h = ((before-end d e [] rises h, tt), (tt, tt))
  rising-more (d ∷ c ∷ cs) e rises h = (every-append _ (c ∷ cs) (e ∷ []) rises.0 (before-end d e (c ∷ cs) rises h, tt), rising-more (c ∷ cs) e rises.1 h)

  -- another place in the stream and another send number
  pub inside-at : (config : Config) (p number new_number : ℕ) (stream new_stream : Stream) (past : List (PastEvent P K)) (pending waiting new_pending : List (Letter P)) (new_past : List (PastEvent P K)) →
      IsProcessInside config p number stream past pending waiting → new_number ≤ MAX_COUNT → IsProcessStream config.seed p new_stream → new_pending ≡ pending → new_past ≡ past →
      IsProcessInside config p new_number new_stream new_past new_pending waiting
  inside-at config p number new_number stream new_stream past pending waiting new_pending new_past inside few own same same_past =
      coe 0 1 (j. IsProcessInside config p new_number new_stream (sym same_past j) (sym same j) waiting) (record {
        known = inside.known;
        few_sends = few;
        own_stream = own;
        own_pending = inside.own_pending;
        own_waiting = inside.own_waiting;
        own_past = inside.own_past;
        rising = inside.rising;
        apart = inside.apart;
      })

  -- the least pending event became the last past one
  pub inside-more : (config : Config) (p number new_number : ℕ) (stream new_stream : Stream) (past : List (PastEvent P K)) (pending waiting : List (Letter P)) (event : Event P)
      (l : Letter P) (ls : List (Letter P)) (undo_entry : UndoEntry P K) (records : List Record) (new_past : List (PastEvent P K)) →
      IsProcessInside config p number stream past pending waiting → IsRising pending → pending ≡ l ∷ ls → Some event ≡ ready_event pending past → new_number ≤ MAX_COUNT →
      IsProcessStream config.seed p new_stream → undo_entry.drawn ≤ MAX_DRAWS → undo_entry.number ≤ MAX_COUNT → All (IsReady config.lps (end_of config)) undo_entry.anti_messages →
      new_past ≡ past ++ past_event l undo_entry records ∷ [] → IsProcessInside config p new_number new_stream new_past ls waiting
  inside-more config p number new_number stream new_stream past pending waiting event l ls undo_entry records new_past inside rises is ready few own few_words few_sends anti longer =
      let e : PastEvent P K = past_event l undo_entry records in
      let mine : All (IsOwnLetter p (end_of config) Plus) (l ∷ ls) = subst (λ (xs : List (Letter P)). All (IsOwnLetter p (end_of config) Plus) xs) is inside.own_pending in
      let up : IsRising (l ∷ ls) = subst IsRising is rises in
      let apart : All (IsNotPending (l ∷ ls)) past = subst (λ (xs : List (Letter P)). All (IsNotPending xs) past) is inside.apart in
      subst (λ (es : List (PastEvent P K)). IsProcessInside config p new_number new_stream es ls waiting) (sym longer) (record {
        known = inside.known;
        few_sends = few;
        own_stream = own;
        own_pending = All-tail (IsOwnLetter p (end_of config) Plus) l ls mine;
        own_waiting = inside.own_waiting;
        own_past = All-append (IsOwnEvent config p) past (e ∷ []) inside.own_past (All-cons (IsOwnEvent config p) e [] (record {
          own = All-head (IsOwnLetter p (end_of config) Plus) l ls mine;
          few = few_words;
          numbered = few_sends;
          ready = anti;
        }) (All-nil (IsOwnEvent config p)));
        rising = rising-more past e inside.rising (ready-may l ls past event (ready ∙ ap (λ xs. ready_event xs past) is));
        apart = All-append (IsNotPending ls) past (e ∷ [])
            (All-weaker (IsNotPending (l ∷ ls)) (IsNotPending ls) (λ d h. second-false (has_rank d.letter.event.rank l) (holds_rank d.letter.event.rank ls) h) past apart)
            (All-cons (IsNotPending ls) e [] (none-after (letter_rank l) ls up.0) (All-nil (IsNotPending ls)));
      })
