-- A worker's processes after they committed, and the rows of what they commit.
use Rattle.std.proofs.Common.{◌≡◌, ◌≢◌, ◌∙◌, below_more, ℕ, suc, ◌+◌, ◌*◌, ◌<◌, ◌≤◌, List, [], ◌∷◌, ◌++◌, map, take, length, slice_index_or, refl, sym, ap, subst, arith, Some, slice_get, slice_set}
use Rattle.std.proofs.lemmas.List.{append-nil, append_assoc, take_more, length-take, length-set, get_or-set_same, get_or-set_other}
use Rattle.std.proofs.lemmas.Option.{get_or_from_slice_get, slice_get_within}
use Rattle.vt_key.specs.promise.Times.{Time}
use Rattle.vt_key.specs.declared.letter.Mail.{Mail}
use Rattle.vt_model.specs.declared.rows.Row.{Row}
use Rattle.vt_model.specs.declared.settings.Config.{Config}
use Rattle.vt_model.specs.promise.Handler.{Handlers}
use Rattle.vt_model.specs.promise.Simulation.{Simulation, simulation_of}
use Rattle.vt_steps.specs.promise.Letters.{Counts}
use Rattle.vt_steps.specs.promise.World.{LogicalProcess, Part, process_at}
use Rattle.vt_steps.specs.promise.PartSteps.{process_after_commit, part_after_commit, ripe_rows}
use Rattle.vt_steps.specs.inside.StandsFor.{StandsForProcess, StandForProcesses}
use Rattle.vt_steps.proofs.steps.CommitRows.{rows_of_processes}
use Rattle.vt_lp.specs.inside.Held.{HeldProcess, process_memory, StandsFor as ProcessStandsFor}
use Rattle.vt_outbox.specs.inside.Outbox.{HeldOutbox}
use Rattle.vt_kernel.specs.inside.Held.{HeldWorker, StandsFor, AreProcesses, IsWorkerInside}
use Rattle.vt_kernel.specs.inside.Guards.{IsForgotten}
use Rattle.vt_kernel.proofs.PartLemmas.{stands_along}
use Rattle.vt_kernel.proofs.ProcessLemmas.{get-map_of, stands-at, process-at}

module _ {S P K : Type 0} (floor : Time) where
  -- each process of the one list is forgotten to that of the other
  abbrev pub AllForgotten : List (HeldProcess S P K) → List (HeldProcess S P K) → Type 0
  AllForgotten [] [] = Unit {0}
  AllForgotten (x ∷ xs) (y ∷ ys) = IsForgotten floor x y × AllForgotten xs ys
  AllForgotten _ _ = ⊥

  pub forgotten-each : (xs ys : List (HeldProcess S P K)) → length ys ≡ length xs
      → ((k : ℕ) (d : HeldProcess S P K) → k < length xs → IsForgotten floor (slice_index_or xs k d) (slice_index_or ys k d)) → AllForgotten xs ys
  forgotten-each [] [] long each = tt
  forgotten-each [] (y ∷ ys) long each = absurd (omega arith)
  forgotten-each (x ∷ xs) [] long each = absurd (omega arith)
  forgotten-each (x ∷ xs) (y ∷ ys) long each =
      (each 0 x (omega arith), forgotten-each xs ys (omega arith) (λ k d within. each (suc k) d (omega arith)))

  pub are-forgotten : (config : Config) (w base : ℕ) (xs ys : List (HeldProcess S P K)) → AllForgotten xs ys → AreProcesses config w base xs → AreProcesses config w base ys
  are-forgotten config w base [] [] f h = tt
  are-forgotten config w base [] (y ∷ ys) f h = absurd f
  are-forgotten config w base (x ∷ xs) [] f h = absurd f
  are-forgotten config w base (x ∷ xs) (y ∷ ys) f h = (f.0.lp ∙ h.0, f.0.config ∙ h.1, are-forgotten config w (base + 1) xs ys f.1 h.2)

  -- the first ones have forgotten, and the others are as they were
  pub record HaveForgotten (from : ℕ) (old now : List (HeldProcess S P K)) : Type 0 where
    pub count : length now ≡ length old
    pub within : from ≤ length old
    pub forgotten : (k : ℕ) (d : HeldProcess S P K) → k < from → IsForgotten floor (slice_index_or old k d) (slice_index_or now k d)
    pub left : (k : ℕ) (d : HeldProcess S P K) → from ≤ k → slice_index_or now k d ≡ slice_index_or old k d

  -- and the next one has
  pub forgotten-more : (index : ℕ) (old now : List (HeldProcess S P K)) (q new : HeldProcess S P K) → HaveForgotten index old now → index < length old → slice_get now index ≡ Some q
      → IsForgotten floor q new → HaveForgotten (index + 1) old (slice_set now index new)
  forgotten-more index old now q new h less at f =
      let count = h.count in
      let here = λ (d : HeldProcess S P K). subst (λ (x : HeldProcess S P K). IsForgotten floor x new) (sym (get_or_from_slice_get now index q d at) ∙ h.left index d (omega arith)) f in
      record {
        count = length-set now index new ∙ count;
        within = omega (arith, less);
        forgotten = λ k d before. below_more (λ (n : ℕ). IsForgotten floor (slice_index_or old n d) (slice_index_or (slice_set now index new) n d)) index
            (λ n below. let other : n ≢ index = omega arith in subst (IsForgotten floor (slice_index_or old n d)) (sym (get_or-set_other now index n new d other)) (h.forgotten n d below))
            (subst (IsForgotten floor (slice_index_or old index d)) (sym (get_or-set_same now index new d (omega (arith, count, less)))) (here d))
            k before;
        left = λ k d more. let other : k ≢ index = omega arith in get_or-set_other now index k new d other ∙ h.left k d (omega arith);
      }

  pub stand-forgotten : (handlers : Handlers S P K) (config : Config) (w base : ℕ) (xs ys : List (HeldProcess S P K)) (processes : List (LogicalProcess P))
      → AllForgotten xs ys → AreProcesses config w base xs
      → StandForProcesses (simulation_of handlers config) w base (map (process_memory handlers) xs) processes
      → StandForProcesses (simulation_of handlers config) w base (map (process_memory handlers) ys) (map (process_after_commit floor) processes)
  stand-forgotten handlers config w base [] [] [] f h s = tt
  stand-forgotten handlers config w base [] [] (q ∷ qs) f h s = absurd s
  stand-forgotten handlers config w base [] (y ∷ ys) processes f h s = absurd f
  stand-forgotten handlers config w base (x ∷ xs) [] processes f h s = absurd f
  stand-forgotten handlers config w base (x ∷ xs) (y ∷ ys) [] f h s = absurd s
  stand-forgotten handlers config w base (x ∷ xs) (y ∷ ys) (q ∷ qs) f h s =
      let mine : ProcessStandsFor handlers x q =
      subst (λ (c : Config). StandsForProcess (simulation_of handlers c) x.lp (process_memory handlers x) q) (sym h.1)
      (subst (λ (p : ℕ). StandsForProcess (simulation_of handlers config) p (process_memory handlers x) q) (sym h.0) s.0) in
      let after : ProcessStandsFor handlers y (process_after_commit floor q) = f.0.committed handlers q mine in (
        subst (λ (p : ℕ). StandsForProcess (simulation_of handlers config) p (process_memory handlers y) (process_after_commit floor q)) (f.0.lp ∙ h.0)
            (subst (λ (c : Config). StandsForProcess (simulation_of handlers c) y.lp (process_memory handlers y) (process_after_commit floor q)) (f.0.config ∙ h.1) after),
        stand-forgotten handlers config w (base + 1) xs ys qs f.1 h.2 s.1,
      )

module _ {S P K : Type 0} where
  pub stands-commit : {held now : HeldWorker S P K} → held ≡ now → (handlers : Handlers S P K) (part : Part P) → StandsFor handlers now part →
      AreProcesses held.config held.worker 0 held.processes → (ys : List (HeldProcess S P K)) → AllForgotten held.floor held.processes ys →
      StandsFor handlers (record held { processes = ys }) (part_after_commit part)
  unfolding part_after_commit
  stands-commit {held} e handlers part s are ys f =
      let h : StandsFor handlers held part = stands_along e handlers part s in
      record {
        processes = subst (λ (t : Time). StandForProcesses (simulation_of handlers held.config) held.worker 0 (map (process_memory handlers) ys) (map (process_after_commit t) part.processes)) (sym h.floor)
            (stand-forgotten held.floor handlers held.config held.worker 0 held.processes ys part.processes f are h.processes);
        outbox = h.outbox;
        arrived = h.arrived;
        colour = h.colour;
        sent = h.sent;
        got = h.got;
        red_minimum = h.red_minimum;
        floor = h.floor;
        serial = h.serial;
      }

  -- how the fields of a worker go together then
  pub inside-commit : {config : Config} {w : ℕ} {xs : List (HeldProcess S P K)} {outbox : HeldOutbox P} {arrived : List (Mail P)} {sent got : Counts} {serial : ℕ} →
      (floor : Time) (ys : List (HeldProcess S P K)) → length ys ≡ length xs →
      ((k : ℕ) (d : HeldProcess S P K) → k < length xs → IsForgotten floor (slice_index_or xs k d) (slice_index_or ys k d)) →
      IsWorkerInside config w xs outbox arrived sent got serial →
      IsWorkerInside config w ys outbox arrived sent got serial
  inside-commit {config} {w} {xs} floor ys long each h = record {
    known = h.known;
    all_there = long ∙ h.all_there;
    own_processes = are-forgotten floor config w 0 xs ys (forgotten-each floor xs ys long each) h.own_processes;
    sendable = h.sendable;
    by_worker = h.by_worker;
    own_mail = h.own_mail;
    few_sent = h.few_sent;
    few_got = h.few_got;
    few_made = h.few_made;
  }

-- ---- rows

module _ {S P : Type 0} (sim : Simulation S P) (w : ℕ) (floor : Time) where
  pub rows-more : (base : ℕ) (qs : List (LogicalProcess P)) (q : LogicalProcess P) →
      rows_of_processes sim w floor base (qs ++ q ∷ []) ≡ rows_of_processes sim w floor base qs ++ ripe_rows sim (process_at sim w (base + length qs)) floor q
  rows-more base [] q =
      let here : base ≡ base + 0 = omega arith in
      append-nil (ripe_rows sim (process_at sim w base) floor q) ∙ ap (λ (n : ℕ). ripe_rows sim (process_at sim w n) floor q) here
  rows-more base (x ∷ xs) q =
      let here : (base + 1) + length xs ≡ base + length (x ∷ xs) = omega arith in
      let first = ripe_rows sim (process_at sim w base) floor x in
      ap (λ (rs : List Row). first ++ rs) (rows-more (base + 1) xs q)
      ∙ sym (append_assoc first (rows_of_processes sim w floor (base + 1) xs) (ripe_rows sim (process_at sim w ((base + 1) + length xs)) floor q))
      ∙ ap (λ (n : ℕ). (first ++ rows_of_processes sim w floor (base + 1) xs) ++ ripe_rows sim (process_at sim w n) floor q) here

module _ {S P K : Type 0} (handlers : Handlers S P K) where
  pub same-length : (sim : Simulation S P) (w base : ℕ) (held : List (HeldProcess S P K)) (processes : List (LogicalProcess P)) →
      StandForProcesses sim w base (map (process_memory handlers) held) processes → length processes ≡ length held
  same-length sim w base [] [] h = refl
  same-length sim w base [] (q ∷ qs) h = absurd h
  same-length sim w base (x ∷ xs) [] h = absurd h
  same-length sim w base (x ∷ xs) (q ∷ qs) h = ap suc (same-length sim w (base + 1) xs qs h.1)

  -- the process of a part that a worker's process stands for
  pub record IsStoodFor (held : HeldWorker S P K) (part : Part P) (index : ℕ) (q : HeldProcess S P K) : Type 0 where
    pub process : LogicalProcess P
    pub there : slice_get part.processes index ≡ Some process
    pub stands : ProcessStandsFor handlers q process
    pub lp : q.lp ≡ process_at (simulation_of handlers held.config) held.worker index
    pub config : q.config ≡ held.config

  pub stood_for : (held : HeldWorker S P K) (part : Part P) (index : ℕ) (q : HeldProcess S P K) → StandsFor handlers held part →
      AreProcesses held.config held.worker 0 held.processes → slice_get held.processes index ≡ Some q → IsStoodFor held part index q
  stood_for held part index q s are at =
      let sim = simulation_of handlers held.config in
      let here = stands-at sim held.worker 0 index (map (process_memory handlers) held.processes) part.processes (process_memory handlers q) s.processes (get-map_of (process_memory handlers) held.processes index q at) in
      let who = process-at held.config held.worker 0 index held.processes q are at in
      let plain : 0 + index ≡ index = omega arith in
      let stands : StandsForProcess sim q.lp (process_memory handlers q) here.0 = subst (λ (k : ℕ). StandsForProcess sim k (process_memory handlers q) here.0) (sym who.0) here.2 in
      record {
        process = here.0;
        there = here.1;
        stands = subst (λ (c : Config). StandsForProcess (simulation_of handlers c) q.lp (process_memory handlers q) here.0) (sym who.1) stands;
        lp = who.0 ∙ ap (λ (k : ℕ). k * held.config.workers + held.worker) plain;
        config = who.1;
      }

  -- the rows of one process more
  pub rows-next : (held : HeldWorker S P K) (part : Part P) (index : ℕ) (q : HeldProcess S P K) (rows more : List Row) → StandsFor handlers held part →
      AreProcesses held.config held.worker 0 held.processes → slice_get held.processes index ≡ Some q →
      rows ≡ rows_of_processes (simulation_of handlers held.config) held.worker held.floor 0 (take index part.processes) →
      ((h : LogicalProcess P) → ProcessStandsFor handlers q h → more ≡ rows ++ ripe_rows (simulation_of handlers q.config) q.lp held.floor h) →
      more ≡ rows_of_processes (simulation_of handlers held.config) held.worker held.floor 0 (take (index + 1) part.processes)
  rows-next held part index q rows more s are at so_far ripe =
      let sim = simulation_of handlers held.config in
      let found = stood_for held part index q s are at in
      let p = found.process in
      let within : index < length part.processes = slice_get_within part.processes index p found.there in
      let longer : take (index + 1) part.processes ≡ take index part.processes ++ p ∷ [] =
      take_more part.processes index p within ∙ ap (λ (x : LogicalProcess P). take index part.processes ++ x ∷ []) (get_or_from_slice_get part.processes index p p found.there) in
      let long : 0 + length (take index part.processes) ≡ index = simp length-take (omega (arith, within)) in
      ripe p found.stands
      ∙ (λ j. so_far j ++ ripe_rows (simulation_of handlers (found.config j)) (found.lp j) held.floor p)
      ∙ ap (λ (n : ℕ). rows_of_processes sim held.worker held.floor 0 (take index part.processes) ++ ripe_rows sim (process_at sim held.worker n) held.floor p) (sym long)
      ∙ sym (rows-more sim held.worker held.floor 0 (take index part.processes) p)
      ∙ ap (rows_of_processes sim held.worker held.floor 0) (sym longer)
