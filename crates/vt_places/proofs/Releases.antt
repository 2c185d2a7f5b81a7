-- The release after each call, in the words of its contract.
use Rattle.std.proofs.Common.{◌≡◌, ◌≢◌, ◌⊎◌, inl, inr, ℕ, ◌<◌, arith, List, [], ◌∷◌, ◌++◌, refl, sym, ◌∙◌, subst, le_refl, Option, Some, None, Result, Ok, Err, MatchResult}
use Rattle.std.proofs.lemmas.List.{append-nil}
use Rattle.std.specs.Option.{unwrap_or}
use Rattle.atomic_table.specs.Table.{Allows}
use Rattle.vt_key.specs.promise.Times.{Time, TimeAtMost}
use Rattle.vt_key.specs.declared.fault.Fault.{Fault}
use Rattle.vt_model.specs.promise.Handler.{Handlers}
use Rattle.vt_model.specs.promise.Histories.{IsLawful}
use Rattle.vt_model.specs.declared.settings.Config.{Config}
use Rattle.vt_model.specs.promise.Simulation.{simulation_of}
use Rattle.vt_model.specs.promise.Settings.{end_of}
use Rattle.vt_steps.specs.declared.step.Step.{Step}
use Rattle.vt_steps.specs.declared.step.Step.TheVariants.{Close}
use Rattle.vt_steps.specs.declared.step.Reply.{Reply}
use Rattle.vt_steps.specs.declared.step.Reply.TheVariants.{Done}
use Rattle.vt_steps.specs.promise.World.{Part}
use Rattle.vt_steps.specs.promise.PartSteps.{home}
use Rattle.vt_steps.specs.promise.Cells.{worker_of}
use Rattle.vt_steps.specs.inside.Cells.{book_cell, Cell, in_inbox, cell_of, act}
use Rattle.vt_steps.specs.inside.Laws.{IsAny}
use Rattle.vt_steps.specs.inside.Marked.{Made, marked, made_done, Leads}
use Rattle.vt_steps.proofs.steps.LocalLeads.{leads, leads-nowhere}
use Rattle.vt_kernel.specs.inside.Held.{HeldWorker, StandsFor}
use Rattle.vt_places.specs.declared.view.View.{View}
use Rattle.vt_places.specs.inside.Hands.{empty_hand}
use Rattle.vt_places.specs.inside.Slots.{cell_count, word_at, empty_word, claimed_word, home_word, cell_at, held_in}
use Rattle.vt_places.specs.inside.Kept.{Sat, HasGrown, IsTableRight, Rests}
use Rattle.vt_kernel.specs.promise.Refusals.{PassesIn}
use Rattle.vt_cells.specs.inside.Calls.{Acts, rounds_of, IsCellStepOf}
use Rattle.vt_places.specs.inside.Calls.{Unvisited, Closes, Known, Reaches, Visited, Holding, ShowsFloor, MaySee}
use Rattle.vt_places.proofs.Growth.{grown-not}
use Rattle.vt_places.proofs.Keeps.{releases, Looked, looks}

-- ---- releases

-- what the words say are three things
pub home-not_claimed : home_word ≢ claimed_word
home-not_claimed e = absurd (omega arith)

pub home-not_empty : {X : Type 0} → home_word ≡ empty_word → X
home-not_empty e = absurd (omega arith)

-- a seat has given its cell back: it holds none, and is of the same worker
abbrev pub GaveBack : {P : Type 0} → Sat P → Sat P → Type 0
GaveBack m after = Rests after × (after.0.worker ≡ m.0.worker)

pub may-see : {P : Type 0} (end t : Time) (seen : Option Time) (cell : Cell P) → MaySee end seen cell → TimeAtMost (unwrap_or seen t) t ⊎ ShowsFloor end (unwrap_or seen t) cell
may-see end t None cell h = inl (le_refl t)
may-see end t (Some now) cell h = inr h

module _ {S P K : Type 0} (handlers : Handlers S P K) (config : Config) (lawful : IsLawful (simulation_of handlers config)) where
  -- without a step, and with the cell as it was
  pub leaves-unvisited : (slots id k x : ℕ) (m : Sat P) (seen : Option Time) (found : Cell P) → k < cell_count config.workers → x ≢ claimed_word → (x ≡ empty_word → found ≡ in_inbox []) → Holding config m k found found → MaySee (end_of config) seen found
      → Allows (IsTableRight (simulation_of handlers config) config) slots id m (word_at k) (λ _. x) (λ _. (λ (n : ℕ) (after : Sat P). GaveBack m after × Unvisited m.0 (unwrap_or seen m.0.seen) after.0) x)
  leaves-unvisited slots id k x m seen found near home empty h sees =
      let sim = simulation_of handlers config in
      let same : Leads sim m.0.worker (cell_at sim.workers k) m.0.part found [] m.0.part (held_in h.slot) [] =
      subst (λ (c : Cell P). Leads sim m.0.worker (cell_at sim.workers k) m.0.part found [] m.0.part c []) (sym h.now_is) (leads-nowhere sim m.0.worker (cell_at sim.workers k) m.0.part found) in
      releases sim config lawful slots id k x m found h.slot [] m.0.part [] (λ _. m.0.log) (unwrap_or seen m.0.seen) (λ (n : ℕ) (after : Sat P). GaveBack m after × Unvisited m.0 (unwrap_or seen m.0.seen) after.0) near home (λ e _. h.now_is ∙ empty e) h.carried h.hand h.right same
      (λ log g. subst (HasGrown m.0.worker m.0.log) (sym (append-nil log)) g)
      (subst (λ (c : Cell P). TimeAtMost (unwrap_or seen m.0.seen) m.0.seen ⊎ ShowsFloor sim.end (unwrap_or seen m.0.seen) c) (sym h.now_is) (may-see (end_of config) m.0.seen seen found sees))
      (λ n known. (
        ((refl, refl), refl),
        record {
          steps = record { same = record { worker = refl; made = refl; waiting = refl }; part = refl; mine = append-nil m.0.mine; log = refl };
          floor = refl;
          rests = refl;
        },
      ))

  -- whatever part a kernel stands for now, no counter that the step raises is past its limit
  abbrev AreWithin : Step → HeldWorker S P K → Cell P → Type 0
  AreWithin step left now = (part : Part P) → StandsFor handlers left part → PassesIn (simulation_of handlers config) step part (rounds_of now) → ⊥

  -- what local steps and then one step at the cell leave of the view, where the cell had this in it
  visited-at : (k : ℕ) (v : View P) (found now : Cell P) (before left : HeldWorker S P K) (step : Step) (reply : Reply) → IsAny (cell_of (simulation_of handlers config) step) (cell_at config.workers k)
      → (does : Acts handlers config step reply before found left now) → AreWithin step left now → (way : Reaches handlers config v before) (known : Known (simulation_of handlers config) v k found)
      → Visited handlers config v before step reply left v.seen (record v {
        part = (does.acts way.part way.stands).0;
        mine = v.mine ++ (made_done way.steps ++ record { step = step; reply = reply } ∷ []);
        log = known.log ++ marked v.worker (way.steps ++ step ∷ []);
        hand = empty_hand;
      })
  visited-at k v found now before left step reply at does within way known =
      let a = does.acts way.part way.stands in
      record {
        visits = record {
          steps = way.steps;
          part = way.part;
          led = way.led;
          stood = way.stands;
          mine = refl;
          at = record { cell = k; about = at; found = found; now = now; known = known; gives = a.1; log = refl };
          does = does;
          stands = a.2;
          within = within a.0 a.2;
        };
        same = record { worker = refl; made = refl; waiting = refl };
        floor = refl;
        rests = refl;
      }

  -- after local steps and one step at the cell
  pub leaves-visited : (slots id k x : ℕ) (m : Sat P) (found now : Cell P) (before left : HeldWorker S P K) (step : Step) (reply : Reply) → k < cell_count config.workers
      → x ≢ claimed_word → (x ≡ empty_word → now ≡ in_inbox [])
      → IsAny (worker_of (simulation_of handlers config) step) m.0.worker → IsAny (cell_of (simulation_of handlers config) step) (cell_at config.workers k)
      → Holding config m k found now → Acts handlers config step reply before found left now → AreWithin step left now → Reaches handlers config m.0 before
      → Allows (IsTableRight (simulation_of handlers config) config) slots id m (word_at k) (λ _. x) (λ _. (λ (n : ℕ) (after : Sat P). GaveBack m after × Visited handlers config m.0 before step reply left m.0.seen after.0) x)
  leaves-visited slots id k x m found now before left step reply near home empty whose at h does within way =
      let sim = simulation_of handlers config in
      let a = does.acts way.part way.stands in
      let goes : Leads sim m.0.worker (cell_at sim.workers k) m.0.part found (way.steps ++ step ∷ []) a.0 now (made_done way.steps ++ record { step = step; reply = reply } ∷ []) =
      leads sim m.0.worker (cell_at sim.workers k) way.steps step m.0.part way.part a.0 found now reply way.led whose at a.1 in
      releases sim config lawful slots id k x m found h.slot (way.steps ++ step ∷ []) a.0 (made_done way.steps ++ record { step = step; reply = reply } ∷ []) (λ log. log ++ marked m.0.worker (way.steps ++ step ∷ [])) m.0.seen
      (λ (n : ℕ) (after : Sat P). GaveBack m after × Visited handlers config m.0 before step reply left m.0.seen after.0) near home (λ e _. h.now_is ∙ empty e) h.carried h.hand h.right
      (subst (λ (c : Cell P). Leads sim m.0.worker (cell_at sim.workers k) m.0.part found (way.steps ++ step ∷ []) a.0 c (made_done way.steps ++ record { step = step; reply = reply } ∷ [])) (sym h.now_is) goes)
      (λ log _. grown-not m.0.worker (log ++ marked m.0.worker (way.steps ++ step ∷ []))) (inl (le_refl m.0.seen))
      (λ n known. (((refl, refl), refl), visited-at k m.0 found now before left step reply at does within way known))

  -- after local steps and one step at the cell that was done or refused
  pub leaves-tried : (slots id k x : ℕ) (m : Sat P) (found now : Cell P) (before left : HeldWorker S P K) (step : Step) (answer : Result Reply Fault) → k < cell_count config.workers
      → x ≢ claimed_word → (x ≡ empty_word → now ≡ in_inbox [])
      → IsAny (worker_of (simulation_of handlers config) step) m.0.worker → IsAny (cell_of (simulation_of handlers config) step) (cell_at config.workers k)
      → Holding config m k found now → IsCellStepOf handlers config step before left found now answer → Reaches handlers config m.0 before
      → Allows (IsTableRight (simulation_of handlers config) config) slots id m (word_at k) (λ _. x)
      (λ _. (λ (n : ℕ) (after : Sat P). GaveBack m after × MatchResult answer (λ reply. Visited handlers config m.0 before step reply left m.0.seen after.0) (λ _. Unvisited m.0 m.0.seen after.0)) x)
  leaves-tried slots id k x m found now before left step (Ok reply) near home empty whose at h tried way =
      leaves-visited slots id k x m found now before left step reply near home empty whose at h tried.done tried.within way
  leaves-tried slots id k x m found now before left step (Err fault) near home empty whose at h tried way =
      let same = tried.unchanged.1 in
      leaves-unvisited slots id k x m None found near home (λ e. sym same ∙ empty e) (subst (λ c. Holding config m k found c) same h) tt

  -- at a load that finds an inbox empty, after local steps and one step that finds it so and leaves it so
  pub leaves-looked : (slots id k : ℕ) (m : Sat P) (before left : HeldWorker S P K) (step : Step) (reply : Reply) → k < config.workers → Rests m
      → IsAny (worker_of (simulation_of handlers config) step) m.0.worker → IsAny (cell_of (simulation_of handlers config) step) (cell_at config.workers k)
      → Acts handlers config step reply before (in_inbox []) left (in_inbox []) → AreWithin step left (in_inbox []) → Reaches handlers config m.0 before
      → Allows (IsTableRight (simulation_of handlers config) config) slots id m (word_at k) (λ n. n) (Looked m (λ after. (after.1 ≡ []) × Visited handlers config m.0 before step reply left m.0.seen after.0))
  leaves-looked slots id k m before left step reply near rests whose at does within way =
      let sim = simulation_of handlers config in
      let a = does.acts way.part way.stands in
      looks sim config lawful slots id k m (way.steps ++ step ∷ []) a.0 (made_done way.steps ++ record { step = step; reply = reply } ∷ [])
      (λ after. (after.1 ≡ []) × Visited handlers config m.0 before step reply left m.0.seen after.0) near rests
      (leads sim m.0.worker (cell_at sim.workers k) way.steps step m.0.part way.part a.0 (in_inbox []) (in_inbox []) reply way.led whose at a.1)
      (λ known. (refl, visited-at k m.0 (in_inbox []) (in_inbox []) before left step reply at does within way known))

  -- after a close
  pub leaves-closed : (slots id k : ℕ) (m : Sat P) (seen : Time) (found now : Cell P) → k < cell_count config.workers → cell_at config.workers k ≡ book_cell → Holding config m k found now
      → ((part : Part P) → act (simulation_of handlers config) Close part found ≡ record { part = part; cell = now; answer = Ok Done }) → ShowsFloor (end_of config) seen now
      → Allows (IsTableRight (simulation_of handlers config) config) slots id m (word_at k) (λ _. home_word) (λ _. (λ (n : ℕ) (after : Sat P). (after.1 ≡ []) × Closes (simulation_of handlers config) m.0 seen after.0) home_word)
  leaves-closed slots id k m seen found now near at h does sees =
      let sim = simulation_of handlers config in
      let own : List Made = record { step = Close; reply = Done } ∷ [] in
      let goes : Leads sim m.0.worker (cell_at sim.workers k) m.0.part found (Close ∷ []) m.0.part now own =
      leads sim m.0.worker (cell_at sim.workers k) [] Close m.0.part m.0.part m.0.part found now Done refl tt (sym at) (does m.0.part) in
      releases sim config lawful slots id k home_word m found h.slot (Close ∷ []) m.0.part own (λ log. log ++ marked m.0.worker (Close ∷ [])) seen (λ (n : ℕ) (after : Sat P). (after.1 ≡ []) × Closes sim m.0 seen after.0) near home-not_claimed (λ e _. home-not_empty e) h.carried h.hand h.right
      (subst (λ (c : Cell P). Leads sim m.0.worker (cell_at sim.workers k) m.0.part found (Close ∷ []) m.0.part c own) (sym h.now_is) goes)
      (λ log _. grown-not m.0.worker (log ++ marked m.0.worker (Close ∷ [])))
      (inr (subst (λ (c : Cell P). ShowsFloor sim.end seen c) (sym h.now_is) sees))
      (λ n known. (
        refl,
        record {
          same = record { worker = refl; made = refl; waiting = refl };
          part = refl;
          mine = refl;
          at = record { cell = k; about = sym at; found = found; now = now; known = known; gives = does m.0.part; log = refl };
          floor = refl;
          rests = refl;
        },
      ))
