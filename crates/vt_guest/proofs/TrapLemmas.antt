-- A trap is a result, and one in a start shows.
use Rattle.std.proofs.Common.{◌≡◌, ℕ, ◌<◌, List, [], ◌∷◌, ◌++◌, Bool, true, false, nat_eq, nat_lt, if◌then◌else◌, map, inl, inr, Err, refl, sym, subst, ap, ◌∙◌, arith}
use Rattle.std.proofs.lemmas.Bool.{lt-ltb, eq-eqb, ne_eqb}
use Rattle.vt_key.specs.promise.Times.{Time, at}
use Rattle.vt_key.specs.promise.Lists.{Among}
use Rattle.vt_key.proofs.ListLemmas.{among-left, among-right, among-map, among-filter, filter-among}
use Rattle.vt_model.specs.declared.sending.Sent.{Sent}
use Rattle.vt_model.specs.declared.settings.Config.{Config}
use Rattle.vt_model.specs.declared.rows.Row.{Row}
use Rattle.vt_model.specs.declared.rows.Record.{Record}
use Rattle.vt_model.specs.promise.Sends.{RecordRequest, sent_event, sent_events, requested_records}
use Rattle.vt_model.specs.promise.Handler.{StartResult, ForwardResult}
use Rattle.vt_model.specs.promise.Simulation.{Simulation, Triple, words_at, start_of, fire_of, rows_of, simulation_of, after}
use Rattle.vt_model.specs.promise.Sequential.{fired_after, events_of, whole_run, rows_after, rows_before, seq_records}
use Rattle.vt_model.specs.promise.Settings.{end_of}
use Rattle.vt_model.specs.promise.Histories.{IsLawful}
use Rattle.vt_model.proofs.RunLemmas.{after_from}
use Rattle.vt_model.proofs.LawLemmas.{lawful_of}
use Rattle.vt_model.proofs.EndLemmas.{whole_is_history}
use Rattle.vt_guest.specs.declared.trap.TheConstants.{TRAP}
use Rattle.vt_guest.specs.declared.trap.Reason.{Reason}
use Rattle.vt_guest.specs.declared.trap.Reason.TheVariants.{BadJump, BadInstruction, BadAddress, BadCall, TooMany, BadSend, Spent, Breakpoint}
use Rattle.vt_guest.specs.declared.process.Words.{Words}
use Rattle.vt_guest.specs.declared.process.Process.{Process}
use Rattle.vt_guest.specs.declared.guest.Guest.{Guest}
use Rattle.vt_guest.specs.promise.Traps.{number_of, trap_value}
use Rattle.vt_guest.specs.promise.Handlers.{alarm, no_words, start_gives, trap_gives, event_gives, start_run, event_run, guest_start, guest_forward, guest_handlers}
use Rattle.vt_guest.specs.inside.Laws.{start_within, forward_within}
use Rattle.vt_guest.specs.inside.Showing.{IsTrapEvent, IsFailedStart}

-- the value of a trap's record isn't 0
numbered : (why : Reason) → 0 < number_of why
numbered BadJump = omega arith
numbered BadInstruction = omega arith
numbered BadAddress = omega arith
numbered BadCall = omega arith
numbered TooMany = omega arith
numbered BadSend = omega arith
numbered Spent = omega arith
numbered Breakpoint = omega arith

pub marked : (why : Reason) (address : ℕ) → 0 < trap_value why address
marked why address = omega (arith, numbered why)

-- the test of a state that is whole, and of one that failed
pub whole-test : (n : ℕ) → n ≡ 0 → nat_eq n 0 ≡ true
whole-test n e = eq-eqb n 0 e

failed-test : (n : ℕ) → 0 < n → nat_eq n 0 ≡ false
failed-test n some = ne_eqb n 0 (λ e. absurd (omega (arith, e, some)))

module _ {N : ℕ} where
  pub trapped-event : (g : Guest N) (lps lp : ℕ) (now : Time) (w : Words) (s : Process N) (words : ℕ → ℕ) (why : Reason) → s.failed ≡ 0 → (event_run g lps lp now w s words).end ≡ Err why
      → guest_forward g lps lp now w s words ≡ trap_gives s (event_run g lps lp now w s words).handling.drawn (trap_value why (event_run g lps lp now w s words).handling.machine.pc)
  trapped-event g lps lp now w s words why whole e =
      let run = event_run g lps lp now w s words in
      (λ j. if whole-test s.failed whole j then event_gives s (e j) run.handling run.sends run.notes else trap_gives s 0 s.failed)

  pub failed-event : (g : Guest N) (lps lp : ℕ) (now : Time) (w : Words) (s : Process N) (words : ℕ → ℕ) → 0 < s.failed → guest_forward g lps lp now w s words ≡ trap_gives s 0 s.failed
  failed-event g lps lp now w s words some =
      let run = event_run g lps lp now w s words in
      ap (λ (b : Bool). if b then event_gives s run.end run.handling run.sends run.notes else trap_gives s 0 s.failed) (failed-test s.failed some)

  pub trap_gives-event : (s : Process N) (drawn value : ℕ) (gives : ForwardResult (Process N) Words (Process N)) → gives ≡ trap_gives s drawn value → IsTrapEvent s value gives
  trap_gives-event s drawn value gives e = record {
    state = ap (λ (r : ForwardResult (Process N) Words (Process N)). r.state) e;
    sends = ap (λ (r : ForwardResult (Process N) Words (Process N)). r.send_requests) e;
    records = ap (λ (r : ForwardResult (Process N) Words (Process N)). r.record_requests) e;
  }

  failed-start : (g : Guest N) (lps lp : ℕ) (words : ℕ → ℕ) (why : Reason) → (start_run g lps lp words).end ≡ Err why
      → guest_start g lps lp words ≡ start_gives lp g.first (Err why) (start_run g lps lp words).handling (start_run g lps lp words).sends
  failed-start g lps lp words why e = ap (λ end. start_gives lp g.first end (start_run g lps lp words).handling (start_run g lps lp words).sends) e

  pub start-fails : (g : Guest N) (lps lp : ℕ) (words : ℕ → ℕ) (why : Reason) → (start_run g lps lp words).end ≡ Err why
      → IsFailedStart g lp (trap_value why (start_run g lps lp words).handling.machine.pc) (guest_start g lps lp words)
  start-fails g lps lp words why e =
      let gives = failed-start g lps lp words why e in
      record {
        bytes = ap (λ (r : StartResult (Process N) Words). r.state.bytes) gives;
        marked = ap (λ (r : StartResult (Process N) Words). r.state.failed) gives;
        sends = ap (λ (r : StartResult (Process N) Words). r.send_requests) gives;
      }

  -- an event at a process that failed leaves it so
  stays-failed : (g : Guest N) (lps lp : ℕ) (now : Time) (w : Words) (s : Process N) (words : ℕ → ℕ) → 0 < s.failed → (guest_forward g lps lp now w s words).state.failed ≡ s.failed
  stays-failed g lps lp now w s words some = ap (λ (r : ForwardResult (Process N) Words (Process N)). r.state.failed) (failed-event g lps lp now w s words some)

-- the row that an event makes is among those of the events
among-rows : {S P : Type 0} (sim : Simulation S P) (row : Row) (e : Sent P) (done es : List (Sent P)) → Among e es
    → ((before : List (Sent P)) → Among row (fired_after sim before e).rows) → Among row (rows_after sim done es)
among-rows sim row e done [] m own = elim m [ ]
among-rows sim row e done (x ∷ es) m own =
    elim m [
      | inl at ↦ among-left row (fired_after sim done x).rows (rows_after sim (done ++ x ∷ []) es) (subst (λ y. Among row (fired_after sim done y).rows) at (own done))
      | inr k ↦ among-right row (fired_after sim done x).rows (rows_after sim (done ++ x ∷ []) es) (among-rows sim row e (done ++ x ∷ []) es k own)
    ]

-- the alarm of a process as an event, the record of a trap in its start, and the row of that record
abbrev alarm_event : ℕ → Sent Words
alarm_event lp = record { key = record { time = at 0 1; source = lp; number = 0 }; dest = lp; payload = no_words }

abbrev trap_record : ℕ → ℕ → Record
trap_record lp value = record { time = 0; priority = 1; lp = lp; kind = TRAP; value = value }

abbrev trap_row : ℕ → ℕ → Row
trap_row lp value = record { key = record { time = at 0 1; source = lp; number = 0 }; index = 0; rec = trap_record lp value }

-- the alarm is below every end, so it is sent
alarm-sent : (end lp : ℕ) → at 0 1 < end → sent_events end lp 0 0 (alarm lp ∷ []) ≡ alarm_event lp ∷ []
unfolding sent_events
alarm-sent end lp early = ap (λ (b : Bool). map (sent_event lp 0) (if b then (0, alarm lp) ∷ [] else [])) (lt-ltb (at 0 1) end early)

module _ {N : ℕ} (g : Guest N) (c : Config) (lp value : ℕ) (some : 0 < value) where
  abbrev sim : Simulation (Process N) Words
  sim = simulation_of (guest_handlers g) c

  -- wherever a process that failed stands, it has failed
  failed_from : (t : Triple (Process N)) (es : List (Sent Words)) → t.state.failed ≡ value → (after_from sim lp t es).state.failed ≡ value
  unfolding fire_of
  failed_from t [] failed = failed
  failed_from t (e ∷ es) failed =
      let words = words_at c.seed lp t.place in
      failed_from (fire_of (end_of c) lp t e (guest_forward g c.lps lp e.key.time e.payload t.state words)).triple es
      (stays-failed g c.lps lp e.key.time e.payload t.state words (subst (λ n. 0 < n) (sym failed) some) ∙ failed)

  module _ (failed : (sim.start lp).triple.state.failed ≡ value) where
    -- its alarm makes the trap's row
    alarm-row : (before : List (Sent Words)) → Among (trap_row lp value) (fired_after sim before (alarm_event lp)).rows
    unfolding fire_of rows_of requested_records fired_after
    alarm-row before =
        let t : Triple (Process N) = after sim lp (events_of lp before) in
        let words = words_at c.seed lp t.place in
        let was : t.state.failed ≡ value = failed_from (sim.start lp).triple (events_of lp before) failed in
        let gives : guest_forward g c.lps lp (at 0 1) no_words t.state words ≡ trap_gives t.state 0 t.state.failed = failed-event g c.lps lp (at 0 1) no_words t.state words (subst (λ n. 0 < n) (sym was) some) in
        let requests : (guest_forward g c.lps lp (at 0 1) no_words t.state words).record_requests ≡ record { kind = TRAP; value = value } ∷ [] =
        ap (λ (r : ForwardResult (Process N) Words (Process N)). r.record_requests) gives ∙ ap (λ (v : ℕ). (trap_gives t.state 0 v).record_requests) was in
        subst (λ (rs : List RecordRequest). Among (trap_row lp value) (rows_of (alarm_event lp).key (requested_records lp (at 0 1) rs))) (sym requests) (inl refl)

-- a trap in a start shows in the records before every time past (0, 1)
pub shows : {N : ℕ} (g : Guest N) (c : Config) (lp : ℕ) (why : Reason) (t : Time) → lp < c.lps → at 0 1 < t
    → (start_run g c.lps lp (words_at c.seed lp 0)).end ≡ Err why
    → Among (trap_record lp (trap_value why (start_run g c.lps lp (words_at c.seed lp 0)).handling.machine.pc)) (seq_records (simulation_of (guest_handlers g) c) t)
unfolding start_of
shows {N} g c lp why t known early e =
    let words = words_at c.seed lp 0 in
    let value : ℕ = trap_value why (start_run g c.lps lp words).handling.machine.pc in
    let sim : Simulation (Process N) Words = simulation_of (guest_handlers g) c in
    let start = start-fails g c.lps lp words why e in
    let lawful : IsLawful sim = lawful_of (guest_handlers g) c (start_within g) (forward_within g) in
    let sends : (sim.start lp).sends ≡ alarm_event lp ∷ [] =
    ap (sent_events (end_of c) lp 0 0) start.sends ∙ alarm-sent (end_of c) lp (omega (arith, c.some_time)) in
    let sent : Among (alarm_event lp) (sim.start lp).sends = subst (Among (alarm_event lp)) (sym sends) (inl refl) in
    let has : Among (alarm_event lp) (events_of lp (whole_run sim)) =
    (whole_is_history sim lawful t).had (alarm_event lp) early (lp, known, among-left (alarm_event lp) (sim.start lp).sends _ sent) in
    let run : Among (alarm_event lp) (whole_run sim) = (filter-among (λ d. nat_eq d.dest lp) (alarm_event lp) (whole_run sim) has).0 in
    let rows : Among (trap_row lp value) (rows_after sim [] (whole_run sim)) =
    among-rows sim (trap_row lp value) (alarm_event lp) [] (whole_run sim) run (alarm-row g c lp value (marked why _) start.marked) in
    among-map (λ (r : Row). r.rec) (trap_row lp value) (rows_before t (rows_after sim [] (whole_run sim)))
    (among-filter (λ (r : Row). nat_lt r.key.time t) (trap_row lp value) (rows_after sim [] (whole_run sim)) rows (lt-ltb (at 0 1) t early))
