-- What a sequential run writes while it goes on.
use Rattle.std.proofs.Common.{◌≡◌, ◌∙◌, ◌++◌, ℕ, suc, inl, inr, refl, Bool, List, [], Option, Some, None, sym, ap, subst, append-nil, append_assoc}
use Rattle.std.specs.Io.KnownBytes.{Appends}
use Rattle.std.proofs.lemmas.List.Concat.{flat_map-append}
use Rattle.vt_key.specs.declared.fault.Fault.{Fault}
use Rattle.vt_key.specs.declared.fault.Fault.TheVariants.{Memory, Output}
use Rattle.vt_model.specs.declared.rows.Record.{Record}
use Rattle.vt_model.specs.declared.settings.Config.{Config}
use Rattle.vt_model.specs.promise.Handler.{Handlers}
use Rattle.vt_model.specs.promise.Settings.{end_of}
use Rattle.vt_model.specs.promise.Simulation.{Simulation, simulation_of}
use Rattle.vt_model.specs.promise.Sequential.{seq_records}
use Rattle.vt_seq.specs.inside.Given.{records_to, BeginRun, AddsStep}
use Rattle.vt_seq.specs.inside.Limits.{IsRunStepRefusal}
use Rattle.vt_seq.specs.inside.Standing.{Standing, IsAt}
use Rattle.vt_text.specs.declared.version.Version.{Version}
use Rattle.vt_text.specs.promise.Records.{record_text}
use Rattle.vt_text.specs.promise.Writing.{AppendsBeginning}
use Rattle.vt_text.specs.inside.Writing.{AppendsAllButHeld}
use Rattle.vt_text.proofs.TextLemmas.{written, put_on, put_fails, of_longer, flush_fails}
use Rattle.vt_tasks.specs.promise.Printed.{final_lines, finals_text, printed_first, printed_lines, printed_text}
use Rattle.vt_tasks.specs.promise.Runs.{run_text, text_below, PassesInRun, WritesBeginning}
use Rattle.vt_tasks.specs.inside.Runs.{StopsRun}

-- the lines of records begin those of more records
pub printed_lines-append : (shown : Option Version) (records more : List Record) → printed_lines shown (records ++ more) ≡ printed_lines shown records ++ printed_lines shown more
printed_lines-append None records more = refl
printed_lines-append (Some version) records more = flat_map-append (record_text version) records more

-- and so does their text
pub printed_text-append : (shown : Option Version) (records more : List Record) → printed_text shown (records ++ more) ≡ printed_text shown records ++ printed_lines shown more
printed_text-append shown records more =
    ap (λ l. printed_first shown ++ l) (printed_lines-append shown records more) ∙ sym (append_assoc (printed_first shown) (printed_lines shown records) (printed_lines shown more))

-- no records have no lines
pub no_lines : (shown : Option Version) → printed_lines shown [] ≡ []
no_lines None = refl
no_lines (Some version) = refl

-- a model and a config that are the same make the same simulation
pub one_run : {M S P K : Type 0} (handlers : M → Handlers S P K) {m m' : M} {c c' : Config} → m ≡ m' → c ≡ c' → simulation_of (handlers m) c ≡ simulation_of (handlers m') c'
one_run handlers model config = λ j. simulation_of (handlers (model j)) (config j)

module _ (shown : Option Version) {S P K : Type 0} (handlers : Handlers S P K) (config : Config) (old : Option (List ℕ)) where
  -- an execution has made some steps: the text of the first of their records was put, of which some is held, and the other records
  -- are gathered
  pub record IsPrinting {M : Type 0} (now : Option (List ℕ)) (held : List ℕ) (execution : Standing M S P) (gathered : List Record) : Type 0 where
    pub steps : ℕ
    pub at : IsAt (simulation_of handlers config) steps execution
    pub put : List Record
    pub all : records_to (simulation_of handlers config) steps ≡ put ++ gathered
    pub begins : BeginRun (simulation_of handlers config) (records_to (simulation_of handlers config) steps)
    pub text : AppendsAllButHeld old now held (printed_text shown put)

-- before the first step the first line is put
first_put : (shown : Option Version) {start line : List ℕ} → start ≡ [] → line ≡ printed_first shown → start ++ line ≡ printed_first shown
first_put shown {line} empty is = ap (λ (l : List ℕ). l ++ line) empty ∙ is

pub opened : {shown : Option Version} {M S P K : Type 0} {handlers : Handlers S P K} {config : Config} {old now : Option (List ℕ)} {held : List ℕ} {execution : Standing M S P} {gathered : List Record}
    {start line : List ℕ} → start ≡ [] → line ≡ printed_first shown → IsAt (simulation_of handlers config) 0 execution → gathered ≡ []
    → AppendsAllButHeld old now held (start ++ line) → IsPrinting shown handlers config old now held execution gathered
opened {shown} {handlers} {config} {old} {now} {held} empty is at none first = record {
  steps = 0;
  at = at;
  put = [];
  all = sym none;
  begins = record { rest = seq_records (simulation_of handlers config) (end_of config); whole = refl };
  text = subst (λ (l : List ℕ). AppendsAllButHeld old now held l) (first_put shown empty is ∙ sym (ap (λ l. printed_first shown ++ l) (no_lines shown) ∙ append-nil (printed_first shown))) first;
}

-- or can't be
pub first_stops : (shown : Option Version) (finals : Bool) {S P K : Type 0} (handlers : Handlers S P K) (config : Config) {old now : Option (List ℕ)} {start line : List ℕ} {fault : Fault}
    → start ≡ [] → line ≡ printed_first shown → fault ≡ Output → AppendsBeginning old now (start ++ line) → StopsRun (PassesInRun handlers config) old now (run_text shown finals handlers config) fault
first_stops shown finals handlers config {old} {now} empty is failed h =
    let last = finals_text finals (simulation_of handlers config) in
    let records = text_below shown handlers config (end_of config) in
    subst (StopsRun (PassesInRun handlers config) old now (run_text shown finals handlers config)) (sym failed)
    (of_longer old now records last
    (of_longer old now (printed_first shown) (printed_lines shown (seq_records (simulation_of handlers config) (end_of config)))
    (subst (λ (l : List ℕ). AppendsBeginning old now l) (first_put shown empty is) h)))

module _ {shown : Option Version} {M S P K : Type 0} {handlers : Handlers S P K} {config : Config} {old now : Option (List ℕ)} {held : List ℕ} {execution : Standing M S P} {gathered : List Record}
    (g : IsPrinting shown handlers config old now held execution gathered) where
  -- what is put, and then what is gathered and what follows, is the text of the whole run
  module _ (finals : Bool) where
    abbrev last : List ℕ
    last = finals_text finals (simulation_of handlers config)

    whole : run_text shown finals handlers config ≡ printed_text shown g.put ++ (printed_lines shown gathered ++ (printed_lines shown g.begins.rest ++ last))
    whole =
        let rest : List Record = g.begins.rest in
        ap (λ (rs : List Record). printed_text shown rs ++ last) (g.begins.whole ∙ ap (λ (l : List Record). l ++ rest) g.all)
        ∙ ap (λ (l : List ℕ). l ++ last) (printed_text-append shown (g.put ++ gathered) rest)
        ∙ append_assoc (printed_text shown (g.put ++ gathered)) (printed_lines shown rest) last
        ∙ ap (λ (l : List ℕ). l ++ (printed_lines shown rest ++ last)) (printed_text-append shown g.put gathered)
        ∙ append_assoc (printed_text shown g.put) (printed_lines shown gathered) (printed_lines shown rest ++ last)

    -- a beginning was written
    begun : WritesBeginning (run_text shown finals handlers config) old now
    begun =
        let behind : List ℕ = printed_lines shown gathered ++ (printed_lines shown g.begins.rest ++ last) in record {
          beginning = g.text.sent;
          written = g.text.appends;
          rest = held ++ behind;
          begins = whole ∙ ap (λ (l : List ℕ). l ++ behind) g.text.whole ∙ append_assoc g.text.sent held behind;
        }

  module _ {own : Simulation S P} (same : own ≡ simulation_of handlers config) where
    own_at : IsAt own g.steps execution
    own_at = subst (λ (s : Simulation S P). IsAt s g.steps execution) (sym same) g.at

    -- a step's records are gathered
    pub stepped : {later : Standing M S P} {more : List Record} → ((n : ℕ) → IsAt own n execution → IsAt own (suc n) later)
        → ((n : ℕ) → IsAt own n execution → AddsStep own n gathered more) → IsPrinting shown handlers config old now held later more
    stepped {later} {more} steps adds =
        let n : ℕ = g.steps in
        let added : AddsStep (simulation_of handlers config) n gathered more = subst (λ (s : Simulation S P). AddsStep s n gathered more) same (adds n own_at) in
        record {
          steps = suc n;
          at = subst (λ (s : Simulation S P). IsAt s (suc n) later) same (steps n own_at);
          put = g.put;
          all = added.next ∙ ap (λ (l : List Record). l ++ added.fresh) g.all ∙ append_assoc g.put gathered added.fresh ∙ ap (λ (l : List Record). g.put ++ l) (sym added.added);
          begins = added.begins;
          text = g.text;
        }

    -- a step was refused
    pub step_stops : (finals : Bool) {fault : Fault} → ((n : ℕ) → IsAt own n execution → IsRunStepRefusal own n fault) → StopsRun (PassesInRun handlers config) old now (run_text shown finals handlers config) fault
    step_stops finals {fault} refused =
        let n : ℕ = g.steps in
        let why : IsRunStepRefusal (simulation_of handlers config) n fault = subst (λ (s : Simulation S P). IsRunStepRefusal s n fault) same (refused n own_at) in
        elim why [
          | inl h ↦ subst (StopsRun (PassesInRun handlers config) old now (run_text shown finals handlers config)) (sym h.0) ((suc n, h.1), begun finals)
          | inr h ↦ subst (StopsRun (PassesInRun handlers config) old now (run_text shown finals handlers config)) (sym h.0) (begun finals)
        ]

  -- the lines of the gathered records are put
  module _ {new : Option (List ℕ)} {given : List Record} (is : given ≡ gathered) where
    gathered_put : {held' : List ℕ} → AppendsAllButHeld now new held' (held ++ printed_lines shown given) → AppendsAllButHeld old new held' (printed_text shown (g.put ++ gathered))
    gathered_put {held'} h =
        subst (λ (l : List ℕ). AppendsAllButHeld old new held' l) (sym (printed_text-append shown g.put gathered))
        (put_on old now new held held' (printed_text shown g.put) (printed_lines shown gathered) g.text
        (subst (λ (rs : List Record). AppendsAllButHeld now new held' (held ++ printed_lines shown rs)) is h))

    pub emptied : {held' : List ℕ} {none : List Record} → AppendsAllButHeld now new held' (held ++ printed_lines shown given) → none ≡ []
        → IsPrinting shown handlers config old new held' execution none
    emptied h empty = record {
      steps = g.steps;
      at = g.at;
      put = g.put ++ gathered;
      all = g.all ∙ sym (append-nil (g.put ++ gathered)) ∙ ap (λ (l : List Record). (g.put ++ gathered) ++ l) (sym empty);
      begins = g.begins;
      text = gathered_put h;
    }

    -- or can't be
    pub put_stops : (finals : Bool) {fault : Fault} → fault ≡ Output → AppendsBeginning now new (held ++ printed_lines shown given) → StopsRun (PassesInRun handlers config) old new (run_text shown finals handlers config) fault
    put_stops finals failed h =
        let behind : List ℕ = printed_lines shown g.begins.rest ++ last finals in
        subst (StopsRun (PassesInRun handlers config) old new (run_text shown finals handlers config)) (sym failed)
        (subst (λ (l : List ℕ). AppendsBeginning old new l) (append_assoc (printed_text shown g.put) (printed_lines shown gathered) behind ∙ sym (whole finals))
        (of_longer old new (printed_text shown g.put ++ printed_lines shown gathered) behind
        (put_fails old now new held (printed_text shown g.put) (printed_lines shown gathered) g.text
        (subst (λ (rs : List Record). AppendsBeginning now new (held ++ printed_lines shown rs)) is h))))

    -- at the end, when nothing is pending, they are the last
    pub last_put : {own : Simulation S P} {held' : List ℕ} → own ≡ simulation_of handlers config → execution.pending ≡ []
        → ((n : ℕ) → IsAt own n execution → execution.pending ≡ [] → records_to own n ≡ seq_records own own.end)
        → AppendsAllButHeld now new held' (held ++ printed_lines shown given) → AppendsAllButHeld old new held' (text_below shown handlers config (end_of config))
    last_put {own} {held'} same none all h =
        let ended : records_to (simulation_of handlers config) g.steps ≡ seq_records (simulation_of handlers config) (end_of config) =
        subst (λ (s : Simulation S P). records_to s g.steps ≡ seq_records s s.end) same (all g.steps (own_at same) none) in
        subst (λ (l : List ℕ). AppendsAllButHeld old new held' l) (ap (printed_text shown) (sym g.all ∙ ended)) (gathered_put h)

-- all records are put, of whose text some is held, and then final values
module _ (shown : Option Version) (finals : Bool) {S P K : Type 0} (handlers : Handlers S P K) (config : Config) {old now : Option (List ℕ)} {held : List ℕ}
    (put : AppendsAllButHeld old now held (text_below shown handlers config (end_of config))) where
  -- they were refused
  pub finals_refused : {fault : Fault} → fault ≡ Memory → StopsRun (PassesInRun handlers config) old now (run_text shown finals handlers config) fault
  finals_refused is =
      let last = finals_text finals (simulation_of handlers config) in
      subst (StopsRun (PassesInRun handlers config) old now (run_text shown finals handlers config)) (sym is) (record {
        beginning = put.sent;
        written = put.appends;
        rest = held ++ last;
        begins = ap (λ (l : List ℕ). l ++ last) put.whole ∙ append_assoc put.sent held last;
      })

  module _ (values : List ℕ) {own : Simulation S P} (same : own ≡ simulation_of handlers config) (are : final_lines 0 values ≡ finals_text finals own) where
    lines_are : final_lines 0 values ≡ finals_text finals (simulation_of handlers config)
    lines_are = are ∙ ap (λ (s : Simulation S P). finals_text finals s) same

    -- their lines are put
    pub finals_put : {new : Option (List ℕ)} {held' : List ℕ} → AppendsAllButHeld now new held' (held ++ final_lines 0 values) → AppendsAllButHeld old new held' (run_text shown finals handlers config)
    finals_put {new} {held'} h =
        put_on old now new held held' (text_below shown handlers config (end_of config)) (finals_text finals (simulation_of handlers config)) put
        (subst (λ (l : List ℕ). AppendsAllButHeld now new held' (held ++ l)) lines_are h)

    -- or can't be
    pub finals_stop : {new : Option (List ℕ)} {fault : Fault} → fault ≡ Output → AppendsBeginning now new (held ++ final_lines 0 values) → StopsRun (PassesInRun handlers config) old new (run_text shown finals handlers config) fault
    finals_stop {new} failed h =
        subst (StopsRun (PassesInRun handlers config) old new (run_text shown finals handlers config)) (sym failed)
        (put_fails old now new held (text_below shown handlers config (end_of config)) (finals_text finals (simulation_of handlers config)) put
        (subst (λ (l : List ℕ). AppendsBeginning now new (held ++ l)) lines_are h))

-- records and final values that are there at once: the first line is put, the lines of the records, and then those of the values
module _ (shown : Option Version) (records : List Record) (values : List ℕ) {old now : Option (List ℕ)} {start line : List ℕ} (empty : start ≡ []) (is : line ≡ printed_first shown) where
  -- the first line can't be put
  pub result-first : AppendsBeginning old now (start ++ line) → AppendsBeginning old now (printed_text shown records ++ final_lines 0 values)
  result-first h =
      of_longer old now (printed_text shown records) (final_lines 0 values)
      (of_longer old now (printed_first shown) (printed_lines shown records) (subst (λ (l : List ℕ). AppendsBeginning old now l) (first_put shown empty is) h))

  module _ {held : List ℕ} (first : AppendsAllButHeld old now held (start ++ line)) where
    first-held : AppendsAllButHeld old now held (printed_first shown)
    first-held = subst (λ (l : List ℕ). AppendsAllButHeld old now held l) (first_put shown empty is) first

    -- or the lines of the records
    pub result-lines : {new : Option (List ℕ)} → AppendsBeginning now new (held ++ printed_lines shown records) → AppendsBeginning old new (printed_text shown records ++ final_lines 0 values)
    result-lines {new} h =
        of_longer old new (printed_text shown records) (final_lines 0 values) (put_fails old now new held (printed_first shown) (printed_lines shown records) first-held h)

    module _ {mid : Option (List ℕ)} {held' : List ℕ} (lines : AppendsAllButHeld now mid held' (held ++ printed_lines shown records)) where
      text-held : AppendsAllButHeld old mid held' (printed_text shown records)
      text-held = put_on old now mid held held' (printed_first shown) (printed_lines shown records) first-held lines

      -- or those of the values
      pub result-finals : {new : Option (List ℕ)} → AppendsBeginning mid new (held' ++ final_lines 0 values) → AppendsBeginning old new (printed_text shown records ++ final_lines 0 values)
      result-finals {new} h = put_fails old mid new held' (printed_text shown records) (final_lines 0 values) text-held h

      -- or what is held of them at the end
      pub result-held : {new : Option (List ℕ)} {last : List ℕ} → AppendsAllButHeld mid new last (held' ++ final_lines 0 values) → AppendsAllButHeld old new last (printed_text shown records ++ final_lines 0 values)
      result-held {new} {last} h = put_on old mid new held' last (printed_text shown records) (final_lines 0 values) text-held h

-- what is held at the end is written, or can't be
module _ {old new : Option (List ℕ)} {held text : List ℕ} (put : AppendsAllButHeld old new held text) where
  pub all_written : (last : Option (List ℕ)) → Appends new last held → Appends old last text
  all_written last h = written old new last held text put h

  pub last_stops : (Passes : Type 0) {last : Option (List ℕ)} (fault : Fault) → fault ≡ Output → AppendsBeginning new last held → StopsRun Passes old last text fault
  last_stops Passes {last} fault failed h = subst (StopsRun Passes old last text) (sym failed) (flush_fails old new last held text put h)
