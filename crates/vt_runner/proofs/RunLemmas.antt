-- What a run in threads writes that stops: what comes before a time begins the text of the whole run.
use Rattle.std.proofs.Common.{◌≡◌, ◌∙◌, ◌++◌, ◌<◌, ◌≤◌, ◌+◌, ◌⊎◌, ℕ, Bool, true, false, List, [], ◌∷◌, length, drop, Option, inl, inr, sym, ap, subst, map, append-nil, append_assoc, length-append, refl, arith}
use Rattle.std.specs.Io.KnownBytes.{Appends}
use Rattle.std.proofs.KnownBytes.{Appends-trans}
use Rattle.std.proofs.Math.Seq.{drop-append_seam}
use Rattle.std.proofs.lemmas.Bool.{cases_lt}
use Rattle.vt_key.specs.promise.Times.{Time, opening_time}
use Rattle.vt_key.specs.declared.fault.Fault.{Fault}
use Rattle.vt_key.specs.declared.fault.Fault.TheVariants.{Memory, Output, TurnsSpent}
use Rattle.vt_key.specs.promise.Lists.{Among}
use Rattle.vt_model.specs.declared.rows.Row.{Row}
use Rattle.vt_model.specs.declared.rows.Record.{Record}
use Rattle.vt_model.specs.declared.sending.Sent.{Sent}
use Rattle.vt_model.specs.declared.settings.Config.{Config}
use Rattle.vt_model.specs.promise.Handler.{Handlers}
use Rattle.vt_model.specs.promise.Histories.{IsLawful}
use Rattle.vt_model.specs.promise.Simulation.{Simulation, simulation_of}
use Rattle.vt_model.specs.promise.Sequential.{opening, weight, after_steps, whole_run, rows_after, seq_records, seq_finals}
use Rattle.vt_model.specs.promise.Settings.{end_of}
use Rattle.vt_model.proofs.RowLemmas.{all_before}
use Rattle.vt_model.proofs.RunLemmas.{known_sent, lists_of, reached}
use Rattle.vt_steps.proofs.book.SequentialRows.{seq_records-begin}
use Rattle.vt_station.specs.declared.pieces.Standing.{Standing}
use Rattle.vt_station.specs.declared.pieces.Standing.TheVariants.{GoesOn, Whole, Stopped}
use Rattle.vt_station.specs.promise.Crew.{IsStop}
use Rattle.vt_station.specs.inside.Crew.{AtJob, IsPieceOf, IsHandOutRefusal, StandsBy, wanted_finals}
use Rattle.vt_station.specs.promise.Turns.{IsLasting}
use Rattle.vt_station.proofs.CrewLemmas.{none-at-first}
use Rattle.vt_text.specs.declared.version.Version.{Version}
use Rattle.vt_text.specs.promise.Writing.{AppendsBeginning}
use Rattle.vt_text.specs.inside.Writing.{AppendsAllButHeld}
use Rattle.vt_text.proofs.TextLemmas.{written, flush_fails, of_longer, put_fails}
use Rattle.vt_tasks.specs.promise.Printed.{final_lines, finals_text, printed_lines, printed_text}
use Rattle.vt_tasks.specs.promise.Runs.{text_below, run_text, WritesBelow}
use Rattle.vt_tasks.specs.inside.Runs.{StopsWork}
use Rattle.vt_tasks.proofs.PrintLemmas.{printed_text-append}
use Rattle.vt_runner.specs.inside.Pieces.{AreWritten, IsUnread, IsOverBy, wanted_of}

module _ {S P : Type 0} (sim : Simulation S P) (lawful : IsLawful sim) where
  -- each event of the whole run is before the end
  whole-early : (e : Sent P) → Among e (whole_run sim) → e.key.time < sim.end
  unfolding whole_run
  whole-early e m =
      let n = weight sim (opening sim).pending in
      (known_sent sim lawful (lists_of sim lawful (after_steps sim n).executed) e ((reached sim lawful n).made e (inr m))).1

  -- so the records before a later time are those of the whole run
  late-same : (t : Time) → sim.end ≤ t → seq_records sim t ≡ seq_records sim sim.end
  late-same t le =
      let rows = rows_after sim [] (whole_run sim) in
      let all = all_before sim lawful.rows t [] (whole_run sim) (λ e m. let early = whole-early e m in omega arith) in
      let until = all_before sim lawful.rows sim.end [] (whole_run sim) whole-early in
      ap (map (λ (r : Row). r.rec)) (all ∙ sym until)

  -- the records before any time begin those of the whole run
  records-begin : (t : Time) → (rest : List Record) × (seq_records sim sim.end ≡ seq_records sim t ++ rest)
  records-begin t = elim (cases_lt t sim.end) [
    | inl soon ↦ seq_records-begin sim lawful t sim.end (omega arith)
    | inr late ↦ ([], sym (append-nil (seq_records sim t) ∙ late-same t late))
  ]

-- the final values that are wanted are those that are printed
pub wanted-printed : {S P : Type 0} (finals : Bool) (sim : Simulation S P) → final_lines 0 (wanted_finals (wanted_of finals) sim) ≡ finals_text finals sim
wanted-printed true sim = refl
wanted-printed false sim = refl

module _ (shown : Option Version) (finals : Bool) {S P K : Type 0} (handlers : Handlers S P K) (config : Config) where
  -- the records and the final values of a whole run are its text
  pub kept-text : (records : List Record) (values : List ℕ) → records ≡ seq_records (simulation_of handlers config) (end_of config) → values ≡ wanted_finals (wanted_of finals) (simulation_of handlers config)
      → printed_text shown records ++ final_lines 0 values ≡ run_text shown finals handlers config
  kept-text records values all are =
      ap (λ (rs : List Record). printed_text shown rs ++ final_lines 0 values) all
      ∙ ap (λ l. text_below shown handlers config (end_of config) ++ l) (ap (final_lines 0) are ∙ wanted-printed finals (simulation_of handlers config))

module _ (shown : Option Version) (finals : Bool) {S P K : Type 0} (handlers : Handlers S P K) (config : Config) (lawful : IsLawful (simulation_of handlers config)) where
  -- the text below any time begins that of the whole run
  text-begins : (t : Time) → (rest : List ℕ) × (run_text shown finals handlers config ≡ text_below shown handlers config t ++ rest)
  text-begins t =
      let sim = simulation_of handlers config in
      let last = finals_text finals sim in
      let r = records-begin sim lawful t in (
        printed_lines shown r.0 ++ last,
        ap (λ (rs : List Record). printed_text shown rs ++ last) r.1 ∙ ap (λ l. l ++ last) (printed_text-append shown (seq_records sim t) r.0)
            ∙ append_assoc (text_below shown handlers config t) (printed_lines shown r.0) last,
      )

  module _ (stopped : List Record) (is : (t : Time) × (stopped ≡ seq_records (simulation_of handlers config) t)) (old new : Option (List ℕ)) where
    -- their text, with no final values
    alone : printed_text shown stopped ++ final_lines 0 [] ≡ text_below shown handlers config is.0
    alone = append-nil (printed_text shown stopped) ∙ ap (printed_text shown) is.1

    -- records of a run that stopped were written
    part_written : Appends old new (printed_text shown stopped ++ final_lines 0 []) → WritesBelow (text_below shown handlers config) (run_text shown finals handlers config) old new
    part_written h = record {
      time = is.0;
      written = subst (λ (l : List ℕ). Appends old new l) alone h;
      rest = (text-begins is.0).0;
      begins = (text-begins is.0).1;
    }

    -- with any of the reasons for which a run stops
    pub work_stops : (fault : Fault) → IsStop config fault stopped → Appends old new (printed_text shown stopped ++ final_lines 0 []) → StopsWork config.workers (text_below shown handlers config) (run_text shown finals handlers config) old new fault
    work_stops fault stop h =
        let below = text_below shown handlers config in
        let whole = run_text shown finals handlers config in
        elim stop [
          | inl (inl e) ↦ subst (StopsWork config.workers below whole old new) (sym e) (part_written h)
          | inl (inr e) ↦ subst (StopsWork config.workers below whole old new) (sym e) (part_written h)
          | inr (inl e) ↦ subst (StopsWork config.workers below whole old new) (sym e) (part_written h)
          | inr (inr e) ↦ subst (StopsWork config.workers below whole old new) (sym e.0) (e.1, part_written h)
        ]

    -- a beginning of these records was written
    pub part_begun : AppendsBeginning old new (printed_text shown stopped ++ final_lines 0 []) → AppendsBeginning old new (run_text shown finals handlers config)
    part_begun h =
        let begins = text-begins is.0 in
        subst (λ (l : List ℕ). AppendsBeginning old new l) (sym begins.1)
        (of_longer old new (text_below shown handlers config is.0) begins.0 (subst (λ (l : List ℕ). AppendsBeginning old new l) alone h))

-- where the writer failed, a beginning of the text was written
pub output_begun : (workers : ℕ) (below : Time → List ℕ) (whole : List ℕ) (old new : Option (List ℕ)) (fault : Fault) → fault ≡ Output → AppendsBeginning old new whole → StopsWork workers below whole old new fault
output_begun workers below whole old new fault is h = subst (StopsWork workers below whole old new) (sym is) h

-- ---- a run in pieces

-- what a run is told by whose records couldn't be read is due
pub unread-due : {S P : Type 0} (sim : Simulation S P) (standing : Standing) (refusal told : Fault) → IsHandOutRefusal sim refusal → IsUnread standing refusal told → IsOverBy sim standing told
unread-due sim (Stopped fault) refusal told refused is = is
unread-due sim Whole refusal told refused is = inl (subst (IsHandOutRefusal sim) (sym is) refused)
unread-due sim GoesOn refusal told refused is = inl (subst (IsHandOutRefusal sim) (sym is) refused)

-- the beginning of one list is the other
joined : {X : Type 0} (n : ℕ) (before all rest : List X) → n ≡ length before → all ≡ before ++ rest → all ≡ before ++ drop n all
joined n before all rest count is =
    is ∙ ap (λ l. before ++ l) (sym (drop-append_seam before rest) ∙ ap (λ k. drop k (before ++ rest)) (sym count) ∙ ap (drop n) (sym is))

-- a longer list that begins a list is that list
no-longer : {X : Type 0} (before all rest : List X) → before ≡ all ++ rest → length before ≤ length all → all ≡ before ++ []
no-longer before all [] is few = sym (append-nil all) ∙ sym is ∙ sym (append-nil before)
no-longer before all (x ∷ rest) is few = absurd (omega (arith, ap length is, length-append all (x ∷ rest), few))

module _ {S P : Type 0} (sim : Simulation S P) (lawful : IsLawful sim) where
  -- the records below a time, and then a piece that begins behind them, are those below a later one
  pub piece-joins : (t floor : Time) (from : ℕ) (records : List Record) → from ≡ length (seq_records sim t) → IsPieceOf sim from records floor → seq_records sim floor ≡ seq_records sim t ++ records
  piece-joins t floor from records count piece =
      let before = seq_records sim t in
      let all = seq_records sim floor in
      let whole : all ≡ before ++ drop from all = elim (cases_lt floor t) [
        | inl sooner ↦
            let begins = seq_records-begin sim lawful floor t (omega arith) in
            joined from before all [] count (no-longer before all begins.0 begins.1 (omega (arith, piece.beginning, count)))
        | inr later ↦
            let begins = seq_records-begin sim lawful t floor (omega arith) in
            joined from before all begins.0 count begins.1
      ] in
      whole ∙ ap (λ l. before ++ l) (sym piece.rest)

module _ {shown : Option Version} {S P K : Type 0} {handlers : Handlers S P K} {config : Config} where
  -- before the first piece nothing is written
  pub none-written : (old now : Option (List ℕ)) → Appends old now (printed_text shown [] ++ final_lines 0 []) → AreWritten shown handlers config old now 0
  none-written old now h =
      let none = none-at-first (simulation_of handlers config) in
      record { time = opening_time; count = ap length none; text = subst (λ (l : List ℕ). Appends old now l) (append-nil (printed_text shown []) ∙ ap (printed_text shown) none) h }

  module _ (lawful : IsLawful (simulation_of handlers config)) {old now : Option (List ℕ)} {n : ℕ} (before : AreWritten shown handlers config old now n) where
    -- what was written is the text below some time
    pub written-below : (finals : Bool) → WritesBelow (text_below shown handlers config) (run_text shown finals handlers config) old now
    written-below finals =
        let begins = text-begins shown finals handlers config lawful before.time in
        record { time = before.time; written = before.text; rest = begins.0; begins = begins.1 }

    -- a run stops for what no later turn mends, or since all turns were made
    pub stops-lasting : (finals : Bool) (fault : Fault) → IsLasting fault ⊎ (fault ≡ TurnsSpent) → StopsWork config.workers (text_below shown handlers config) (run_text shown finals handlers config) old now fault
    stops-lasting finals fault why = elim why [
      | inl (inl e) ↦ subst (StopsWork config.workers (text_below shown handlers config) (run_text shown finals handlers config) old now) (sym e) (written-below finals)
      | inl (inr e) ↦ subst (StopsWork config.workers (text_below shown handlers config) (run_text shown finals handlers config) old now) (sym e) (written-below finals)
      | inr e ↦ subst (StopsWork config.workers (text_below shown handlers config) (run_text shown finals handlers config) old now) (sym e) (written-below finals)
    ]

    -- or since the records couldn't be read
    stops-refused : (finals : Bool) (refusal fault : Fault) → 1 < config.workers → IsHandOutRefusal (simulation_of handlers config) refusal → fault ≡ refusal → StopsWork config.workers (text_below shown handlers config) (run_text shown finals handlers config) old now fault
    stops-refused finals refusal fault many refused is = elim refused [
      | inl alone ↦ absurd (omega (arith, alone.1, many))
      | inr (inl busy) ↦ subst (StopsWork config.workers (text_below shown handlers config) (run_text shown finals handlers config) old now) (sym (is ∙ busy.0)) (many, written-below finals)
      | inr (inr spent) ↦ stops-lasting finals fault (inl (inr (is ∙ spent.0)))
    ]

    -- unless it had been stopped before
    pub stops-unread : (finals : Bool) {M : Type 0} (jobs : List (AtJob M)) (standing : Standing) (refusal fault : Fault) → StandsBy jobs standing → 1 < config.workers → IsHandOutRefusal (simulation_of handlers config) refusal → IsUnread standing refusal fault
        → StopsWork config.workers (text_below shown handlers config) (run_text shown finals handlers config) old now fault
    stops-unread finals jobs (Stopped stopped) refusal fault stands many refused is = stops-lasting finals fault (inl (subst IsLasting (sym is) stands.2))
    stops-unread finals jobs GoesOn refusal fault stands many refused is = stops-refused finals refusal fault many refused is
    stops-unread finals jobs Whole refusal fault stands many refused is = stops-refused finals refusal fault many refused is

    -- a crew hands out a piece of this run, of which these records are given to be written
    module _ {own : Simulation S P} {floor : Time} {records given : List Record} (same : own ≡ simulation_of handlers config) (handed : IsPieceOf own n records floor) (is : given ≡ records) where
      piece : IsPieceOf (simulation_of handlers config) n given floor
      piece = subst (λ (r : List Record). IsPieceOf (simulation_of handlers config) n r floor) (sym is) (subst (λ (s : Simulation S P). IsPieceOf s n records floor) same handed)

      joins : seq_records (simulation_of handlers config) floor ≡ seq_records (simulation_of handlers config) before.time ++ given
      joins = piece-joins (simulation_of handlers config) lawful before.time floor n given before.count piece

      -- its lines are left to be written
      held : AppendsAllButHeld old now (printed_lines shown given) (text_below shown handlers config floor)
      held = record {
        sent = text_below shown handlers config before.time;
        whole = ap (printed_text shown) joins ∙ printed_text-append shown (seq_records (simulation_of handlers config) before.time) given;
        appends = before.text;
      }

      -- they are written
      pub all-written : (new : Option (List ℕ)) → Appends now new (printed_lines shown given) → Appends old new (text_below shown handlers config floor)
      all-written new h = written old now new (printed_lines shown given) (text_below shown handlers config floor) held h

      pub piece-written : (new : Option (List ℕ)) → Appends now new (printed_lines shown given) → AreWritten shown handlers config old new (n + length records)
      piece-written new h = record {
        time = floor;
        count = ap (λ k. k + length records) before.count ∙ ap (λ r. length (seq_records (simulation_of handlers config) before.time) + length r) (sym is)
            ∙ sym (length-append (seq_records (simulation_of handlers config) before.time) given) ∙ ap length (sym joins);
        text = all-written new h;
      }

      -- or a beginning of them
      pub piece-stops : (finals : Bool) {new : Option (List ℕ)} → AppendsBeginning now new (printed_lines shown given) → AppendsBeginning old new (run_text shown finals handlers config)
      piece-stops finals {new} h =
          let begins = text-begins shown finals handlers config lawful floor in
          subst (λ (l : List ℕ). AppendsBeginning old new l) (sym begins.1)
          (of_longer old new (text_below shown handlers config floor) begins.0 (flush_fails old now new (printed_lines shown given) (text_below shown handlers config floor) held h))

-- ---- the final values of a run in pieces

-- those of a crew of this run
last-is : {S P : Type 0} (finals : Bool) (own sim : Simulation S P) → own ≡ sim → final_lines 0 (wanted_finals (wanted_of finals) own) ≡ finals_text finals sim
last-is finals own sim same = wanted-printed finals own ∙ ap (finals_text finals) same

module _ (shown : Option Version) (finals : Bool) {S P K : Type 0} (handlers : Handlers S P K) (config : Config) (start now new : Option (List ℕ)) (before : Appends start now (text_below shown handlers config (end_of config)))
    (own : Simulation S P) (same : own ≡ simulation_of handlers config) where
  -- their lines are written
  pub last-written : Appends now new (final_lines 0 (wanted_finals (wanted_of finals) own)) → Appends start new (run_text shown finals handlers config)
  last-written h =
      let below = text_below shown handlers config (end_of config) in
      subst (λ (l : List ℕ). Appends start new (below ++ l)) (last-is finals own (simulation_of handlers config) same) (Appends-trans start now new below (final_lines 0 (wanted_finals (wanted_of finals) own)) before h)

  -- all records were written, and nothing is held
  records-held : AppendsAllButHeld start now [] (text_below shown handlers config (end_of config))
  records-held = record { sent = text_below shown handlers config (end_of config); whole = sym (append-nil (text_below shown handlers config (end_of config))); appends = before }

  -- or they aren't, for want of memory or since the writer failed
  pub last-stops : (fault : Fault) → ((fault ≡ Memory) × (new ≡ now)) ⊎ ((fault ≡ Output) × AppendsBeginning now new (final_lines 0 (wanted_finals (wanted_of finals) own)))
      → StopsWork config.workers (text_below shown handlers config) (run_text shown finals handlers config) start new fault
  last-stops fault (inl refused) =
      subst (StopsWork config.workers (text_below shown handlers config) (run_text shown finals handlers config) start new) (sym refused.0) (record {
        time = end_of config;
        written = subst (λ (out : Option (List ℕ)). Appends start out (text_below shown handlers config (end_of config))) (sym refused.1) before;
        rest = finals_text finals (simulation_of handlers config);
        begins = refl;
      })
  last-stops fault (inr failed) =
      output_begun config.workers (text_below shown handlers config) (run_text shown finals handlers config) start new fault failed.0
      (subst (λ (l : List ℕ). AppendsBeginning start new (text_below shown handlers config (end_of config) ++ l)) (last-is finals own (simulation_of handlers config) same)
      (put_fails start now new [] (text_below shown handlers config (end_of config)) (final_lines 0 (wanted_finals (wanted_of finals) own)) records-held failed.1))
