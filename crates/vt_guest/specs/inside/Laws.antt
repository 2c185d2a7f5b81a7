-- The laws of programs.
use Rattle.std.proofs.Common.{◌≡◌, ℕ, zero, suc, ◌^◌, ◌<◌, ◌≤◌, List, [], ◌∷◌, ◌++◌, length, Bool, true, false, ◌&&◌, ◌||◌, not, nat_eq, nat_lt, nat_le, if◌then◌else◌, All, inl, inr, refl, arith, Result, Ok, Err}
use Rattle.std.proofs.lemmas.List.{length-append, nil_from_length}
use Rattle.std.proofs.lemmas.List.Elements.{All-nil, All-cons, All-append}
use Rattle.std.proofs.lemmas.Bool.{ltb-true, leb-false, not-false, and_parts, or_cases}
use Rattle.vt_key.specs.promise.Times.{Time, ticks_of, priority_of}
use Rattle.vt_model.specs.promise.Sends.{SendRequest, RecordRequest}
use Rattle.vt_model.specs.inside.Handler.{IsSendable, AreWords}
use Rattle.vt_model.specs.inside.Within.{IsStartWithin, IsEventWithin, one_few, few_within}
use Rattle.vt_model.specs.declared.limits.TheConstants.{MAX_DRAWS, MAX_SENDS, MAX_RECORDS}
use Rattle.vt_riscv.specs.declared.code.Code.{Code}
use Rattle.vt_riscv.specs.declared.machine.Stop.{Stop}
use Rattle.vt_riscv.specs.declared.machine.Stop.TheVariants as stops
use Rattle.vt_riscv.specs.promise.Steps.{run_of}
use Rattle.vt_guest.specs.declared.trap.TheConstants.{TRAP}
use Rattle.vt_guest.specs.declared.trap.Reason.{Reason}
use Rattle.vt_guest.specs.declared.trap.Reason.TheVariants.{BadCall, TooMany, BadSend}
use Rattle.vt_guest.specs.declared.calls.Handler.{Handler}
use Rattle.vt_guest.specs.declared.calls.Handler.TheVariants.{Start, Forward, Finish}
use Rattle.vt_guest.specs.declared.calls.Host.{Host}
use Rattle.vt_guest.specs.declared.calls.Next.{Next}
use Rattle.vt_guest.specs.declared.calls.Next.TheVariants.{On, Draw, Send, Emit, Ended, Trapped}
use Rattle.vt_guest.specs.declared.process.Words.{Words}
use Rattle.vt_guest.specs.declared.process.Process.{Process}
use Rattle.vt_guest.specs.declared.guest.Guest.{Guest}
use Rattle.vt_guest.specs.promise.Calls.{Handling, Turn, most_draws, most_sends, most_records, unless, trapped, register, answers, passed, draws, below_of, may_send, request_of, send_of, note_of, emit_of, lps_of, call_of, low, answered_by}
use Rattle.vt_guest.specs.promise.Handling.{Handled, Rest, begun, stopped, turn_of, fails, followed, handled}
use Rattle.vt_guest.specs.promise.Handlers.{alarm, start_gives, trap_gives, event_gives, host_of, no_words, start_run, event_run, guest_start, guest_forward}

-- no handler has higher limits than the model's
draws_few : (h : Handler) → most_draws h ≤ MAX_DRAWS
draws_few Start = omega arith
draws_few Forward = omega arith
draws_few Finish = omega arith

sends_few : (h : Handler) → most_sends h ≤ MAX_SENDS
sends_few Start = omega arith
sends_few Forward = omega arith
sends_few Finish = omega arith

records_few : (h : Handler) → most_records h ≤ MAX_RECORDS
records_few Start = omega arith
records_few Forward = omega arith
records_few Finish = omega arith

-- a turn by itself draws no word, and an event is to be sent only where it may be
pub record IsTurnLawful {N : ℕ} (h : Host) (x : Handling N) (turn : Turn N) : Type 0 where
  pub drawn : turn.handling.drawn ≡ x.drawn
  pub may : turn.next ≡ Send → may_send h turn.handling ≡ true

module _ {N : ℕ} (h : Host) where
  unless_lawful : (b : Bool) (why : Reason) (x : Handling N) (turn : Turn N) → (b ≡ false → IsTurnLawful h x turn) → IsTurnLawful h x (unless b why x turn)
  unless_lawful true why x turn more = record { drawn = refl; may = λ e. absurd cc }
  unless_lawful false why x turn more = more refl

  answers_lawful : (x : Handling N) (v : ℕ) → IsTurnLawful h x (answers x v)
  answers_lawful x v = record { drawn = refl; may = λ e. absurd cc }

  draws_lawful : (x : Handling N) → IsTurnLawful h x (draws x)
  draws_lawful x = record { drawn = refl; may = λ e. absurd cc }

  chosen_lawful : (x : Handling N) (a b c d e f : Bool)
      → IsTurnLawful h x (if a then below_of x else (if b then draws x else (if c then send_of h x else (if d then emit_of x else (if e then lps_of h x else (if f then answers x h.data_size else trapped BadCall x))))))
  unfolding lps_of
  chosen_lawful x true b c d e f = unless_lawful (nat_eq (register x 10) 0 || nat_lt (2 ^ 32) (register x 10)) BadCall x (draws x) (λ _. draws_lawful x)
  chosen_lawful x false true c d e f = draws_lawful x
  chosen_lawful x false false true d e f =
      unless_lawful (not (may_send h x)) BadSend x (record { next = Send; handling = x }) (λ may. record { drawn = refl; may = λ _. not-false (may_send h x) may })
  chosen_lawful x false false false true e f =
      unless_lawful (nat_eq (low (register x 10)) TRAP) BadCall x (record { next = Emit; handling = x }) (λ _. record { drawn = refl; may = λ e. absurd cc })
  chosen_lawful x false false false false true f = unless_lawful (nat_eq h.lps 0) BadCall x (answers x h.lps) (λ _. answers_lawful x h.lps)
  chosen_lawful x false false false false false true = answers_lawful x h.data_size
  chosen_lawful x false false false false false false = record { drawn = refl; may = λ e. absurd cc }

  stopped_lawful : (x : Handling N) (stop : Stop) → IsTurnLawful h x (stopped h x stop)
  unfolding call_of
  stopped_lawful x stops.Called =
      let n = register x 17 in
      chosen_lawful x (nat_eq n 0) (nat_eq n 1) (nat_eq n 2) (nat_eq n 3) (nat_eq n 4) (nat_eq n 5)
  stopped_lawful x stops.Ended = record { drawn = refl; may = λ e. absurd cc }
  stopped_lawful x (stops.Trapped why) = record { drawn = refl; may = λ e. absurd cc }
  stopped_lawful x stops.Spent = record { drawn = refl; may = λ e. absurd cc }

  pub turn_lawful : (code : Code) (x : Handling N) → IsTurnLawful h x (turn_of code h x)
  turn_lawful code x =
      let ran = run_of code x.left x.machine in
      let turn = stopped_lawful (record x { machine = ran.machine; left = ran.outcome.left }) ran.outcome.stop in
      record { drawn = turn.drawn; may = turn.may }

module _ {N : ℕ} (h : Host) (now : Time) (at : h.priority ≡ priority_of now) where
  -- what a handler has drawn, sent and recorded is within the limits
  pub record IsLawful (x : Handling N) (sends : List (SendRequest Words)) (notes : List RecordRequest) : Type 0 where
    pub words : x.drawn ≤ MAX_DRAWS
    pub few_sends : length sends ≤ most_sends h.handler
    pub few_records : length notes ≤ most_records h.handler
    pub sendable : All (IsSendable h.lps now) sends

  -- a send that passed the test is sendable
  pub may_sendable : (x : Handling N) → may_send h x ≡ true → IsSendable h.lps now (request_of x)
  may_sendable x e =
      let dest = low (register x 10) in
      let delay = register x 11 in
      let priority = low (register x 12) in
      let parts = and_parts (nat_lt dest h.lps) (nat_lt priority 256 && (nat_lt 0 delay || nat_lt h.priority priority)) e in
      let more = and_parts (nat_lt priority 256) (nat_lt 0 delay || nat_lt h.priority priority) parts.1 in
      let some : priority < 256 = ltb-true priority 256 more.0 in
      record {
        known = ltb-true dest h.lps parts.0;
        some_priority = some;
        later = elim (or_cases (nat_lt 0 delay) (nat_lt h.priority priority) more.1) [
          | inl w ↦ (let long : 0 < delay = ltb-true 0 delay w in omega (arith, long))
          | inr w ↦ (let high : h.priority < priority = ltb-true h.priority priority w in omega (arith, high, at))
        ];
      }

  abbrev IsRunLawful : Handled N → Type 0
  IsRunLawful run = IsLawful run.handling run.sends run.notes

  -- one thing more, if there is room for it
  room_lawful : (full : Bool) (x : Handling N) (sends : List (SendRequest Words)) (notes : List RecordRequest) (run : Handled N) → IsLawful x sends notes → (full ≡ false → IsRunLawful run)
      → IsRunLawful (if full then fails TooMany x sends notes else run)
  room_lawful true x sends notes run l more = l
  room_lawful false x sends notes run l more = more refl

  drawn_lawful : (x : Handling N) (sends : List (SendRequest Words)) (notes : List RecordRequest) (word : ℕ) → IsLawful x sends notes → x.drawn < most_draws h.handler → IsLawful (answered_by x word) sends notes
  drawn_lawful x sends notes word l room = record { words = omega (arith, room, draws_few h.handler); few_sends = l.few_sends; few_records = l.few_records; sendable = l.sendable }

  sent_lawful : (x : Handling N) (sends : List (SendRequest Words)) (notes : List RecordRequest) → IsLawful x sends notes → may_send h x ≡ true → length sends < most_sends h.handler
      → IsLawful (passed x) (sends ++ request_of x ∷ []) notes
  sent_lawful x sends notes l may room = record {
    words = l.words;
    few_sends = simp length-append (omega (arith, room));
    few_records = l.few_records;
    sendable = All-append (IsSendable h.lps now) sends (request_of x ∷ []) l.sendable (All-cons (IsSendable h.lps now) (request_of x) [] (may_sendable x may) (All-nil (IsSendable h.lps now)));
  }

  noted_lawful : (x : Handling N) (sends : List (SendRequest Words)) (notes : List RecordRequest) → IsLawful x sends notes → length notes < most_records h.handler
      → IsLawful (passed x) sends (notes ++ note_of x ∷ [])
  noted_lawful x sends notes l room = record { words = l.words; few_sends = l.few_sends; few_records = simp length-append (omega (arith, room)); sendable = l.sendable }

  followed_lawful : (more : Rest N) (words : ℕ → ℕ) → ((x : Handling N) (sends : List (SendRequest Words)) (notes : List RecordRequest) → IsLawful x sends notes → IsRunLawful (more x sends notes))
      → (next : Next) (x : Handling N) (sends : List (SendRequest Words)) (notes : List RecordRequest) → (next ≡ Send → may_send h x ≡ true) → IsLawful x sends notes → IsRunLawful (followed more h words next x sends notes)
  followed_lawful more words on On x sends notes may l = on x sends notes l
  followed_lawful more words on Draw x sends notes may l =
      room_lawful (nat_le (most_draws h.handler) x.drawn) x sends notes _ l
      (λ room. on _ _ _ (drawn_lawful x sends notes (words x.drawn) l (leb-false (most_draws h.handler) x.drawn room)))
  followed_lawful more words on Send x sends notes may l =
      room_lawful (nat_le (most_sends h.handler) (length sends)) x sends notes _ l
      (λ room. on _ _ _ (sent_lawful x sends notes l (may refl) (leb-false (most_sends h.handler) (length sends) room)))
  followed_lawful more words on Emit x sends notes may l =
      room_lawful (nat_le (most_records h.handler) (length notes)) x sends notes _ l
      (λ room. on _ _ _ (noted_lawful x sends notes l (leb-false (most_records h.handler) (length notes) room)))
  followed_lawful more words on Ended x sends notes may l = l
  followed_lawful more words on (Trapped why) x sends notes may l = l

  handled_lawful : (code : Code) (words : ℕ → ℕ) (calls : ℕ) (x : Handling N) (sends : List (SendRequest Words)) (notes : List RecordRequest) → IsLawful x sends notes → IsRunLawful (handled code h words calls x sends notes)
  unfolding handled
  handled_lawful code words zero x sends notes l = l
  handled_lawful code words (suc calls) x sends notes l =
      let turn = turn_lawful h code x in
      followed_lawful (handled code h words calls) words (λ y s n k. handled_lawful code words calls y s n k) (turn_of code h x).next (turn_of code h x).handling sends notes turn.may
      (record { words = omega (arith, turn.drawn, l.words); few_sends = l.few_sends; few_records = l.few_records; sendable = l.sendable })

  -- a handler that has drawn nothing yet is lawful to its end
  run_lawful : (code : Code) (words : ℕ → ℕ) (calls : ℕ) (x : Handling N) → x.drawn ≡ 0 → IsRunLawful (handled code h words calls x [] [])
  run_lawful code words calls x none =
      handled_lawful code words calls x [] [] (record { words = omega (arith, none); few_sends = omega arith; few_records = omega arith; sendable = All-nil (IsSendable h.lps now) })

  trap_within : (s : Process N) (drawn value : ℕ) → drawn ≤ MAX_DRAWS → IsEventWithin h.lps now (trap_gives s drawn value)
  trap_within s drawn value few = record { few_words = few; few_sends = omega arith; few_records = omega arith; sendable = All-nil (IsSendable h.lps now) }

  event_within : (s : Process N) (end : Result (Unit {0}) Reason) (run : Handled N) → IsRunLawful run → IsEventWithin h.lps now (event_gives s end run.handling run.sends run.notes)
  event_within s (Ok _) run l = record { few_words = l.words; few_sends = omega (arith, l.few_sends, sends_few h.handler); few_records = omega (arith, l.few_records, records_few h.handler); sendable = l.sendable }
  event_within s (Err why) run l = trap_within s run.handling.drawn _ l.words

  forward_either : (s : Process N) (whole : Bool) (run : Handled N) → IsRunLawful run
      → IsEventWithin h.lps now (if whole then event_gives s run.end run.handling run.sends run.notes else trap_gives s 0 s.failed)
  forward_either s true run l = event_within s run.end run l
  forward_either s false run l = trap_within s 0 s.failed (omega arith)

-- the alarm may be sent
alarm_sendable : (lps lp : ℕ) → lp < lps → IsSendable lps 0 (alarm lp)
alarm_sendable lps lp known = record { known = known; some_priority = omega arith; later = omega arith }

module _ {N : ℕ} where
  -- a run of a start is lawful
  start_lawful : (g : Guest N) (lps lp : ℕ) (words : ℕ → ℕ)
      → IsLawful (host_of g.program Start lps 0) 0 refl (start_run g lps lp words).handling (start_run g lps lp words).sends (start_run g lps lp words).notes
  start_lawful g lps lp words = run_lawful (host_of g.program Start lps 0) 0 refl g.program.code words g.program.fuel (begun g.program.start g.program.fuel lp 0 0 no_words g.first) refl

  -- a start makes no record
  pub start_notes : (g : Guest N) (lps lp : ℕ) (words : ℕ → ℕ) → (start_run g lps lp words).notes ≡ []
  start_notes g lps lp words = nil_from_length (start_run g lps lp words).notes (omega (arith, (start_lawful g lps lp words).few_records))

  started_within : (h : Host) (lp : ℕ) (first : List ℕ) (end : Result (Unit {0}) Reason) (run : Handled N) (at : h.priority ≡ priority_of 0) → lp < h.lps → IsLawful h 0 at run.handling run.sends run.notes
      → IsStartWithin h.lps (start_gives lp first end run.handling run.sends)
  started_within h lp first (Ok _) run at known l = record { few_words = l.words; few_sends = omega (arith, l.few_sends, sends_few h.handler); few_records = omega arith; sendable = l.sendable }
  started_within h lp first (Err why) run at known l = few_within (one_few (alarm_sendable h.lps lp known) (omega arith)) l.words (omega arith)

  pub start_within : (g : Guest N) (lps lp : ℕ) (words : ℕ → ℕ) → lp < lps → AreWords words → IsStartWithin lps (guest_start g lps lp words)
  start_within g lps lp words known are =
      let run = start_run g lps lp words in
      started_within (host_of g.program Start lps 0) lp g.first run.end run refl known (start_lawful g lps lp words)

  pub forward_within : (g : Guest N) (lps lp : ℕ) (now : Time) (w : Words) (s : Process N) (words : ℕ → ℕ) → lp < lps → AreWords words → IsEventWithin lps now (guest_forward g lps lp now w s words)
  forward_within g lps lp now w s words known are =
      let host = host_of g.program Forward lps (priority_of now) in
      forward_either host now refl s (nat_eq s.failed 0) (event_run g lps lp now w s words)
      (run_lawful host now refl g.program.code words g.program.fuel (begun g.program.forward g.program.fuel lp (ticks_of now) (priority_of now) w s.bytes) refl)

  -- whatever became of an event, the state from before it is kept
  event_keeps : (s : Process N) (whole : Bool) (end : Result (Unit {0}) Reason) (run : Handled N) → (if whole then event_gives s end run.handling run.sends run.notes else trap_gives s 0 s.failed).kept ≡ s
  event_keeps s true (Ok _) run = refl
  event_keeps s true (Err why) run = refl
  event_keeps s false end run = refl

  pub undoes : (g : Guest N) (lps lp : ℕ) (now : Time) (w : Words) (s : Process N) (words : ℕ → ℕ) → Unit {0} → (guest_forward g lps lp now w s words).kept ≡ s
  undoes g lps lp now w s words fits =
      let run = event_run g lps lp now w s words in
      event_keeps s (nat_eq s.failed 0) run.end run
