-- What a value in memory stands for after one past event more, one less, some forgotten; and after steps.
use Rattle.std.proofs.Common.{◌≡◌, ℕ, List, [], ◌∷◌, ◌++◌, map, refl, sym, subst, ap, ◌∙◌, Result}
use Rattle.std.proofs.lemmas.List.{map-append}
use Rattle.std.proofs.lemmas.List.Sums.{fold-append}
use Rattle.vt_key.specs.declared.fault.Fault.{Fault}
use Rattle.vt_model.specs.promise.Simulation.{Simulation, Triple}
use Rattle.vt_model.proofs.RunLemmas.{after_from}
use Rattle.vt_steps.specs.declared.step.Step.{Step}
use Rattle.vt_steps.specs.declared.step.Reply.{Reply}
use Rattle.vt_steps.specs.promise.Letters.{unstamped}
use Rattle.vt_steps.specs.promise.World.{Entry, LogicalProcess, World, entry_events, triple_after, opening_world}
use Rattle.vt_steps.specs.promise.Next.{next, run, reached}
use Rattle.vt_steps.specs.inside.StandsFor.{Remembered, ProcessMemory, WorldMemory, entry_of, fired_at, IsRemembered, LeadTo, StandsForProcess, StandsFor, GoesOn, RunsTo, StandsForReached}

module _ {S P : Type 0} (sim : Simulation S P) (p : ℕ) where
  -- where remembered entries lead is where the process stands after their events
  pub lead-after : (t : Triple S) (es : List (Remembered S P)) (now : Triple S) → LeadTo sim p t es now → after_from sim p t (entry_events (map entry_of es)) ≡ now
  lead-after t [] now h = h
  lead-after t (e ∷ es) now h = lead-after (fired_at sim p t e).triple es now h.1

  -- one entry more
  pub lead-more : (t : Triple S) (es : List (Remembered S P)) (now : Triple S) (e : Remembered S P) → LeadTo sim p t es now → IsRemembered sim p now e →
      LeadTo sim p t (es ++ e ∷ []) (fired_at sim p now e).triple
  lead-more t [] now e h k = subst (λ (x : Triple S). IsRemembered sim p x e × ((fired_at sim p x e).triple ≡ (fired_at sim p now e).triple)) (sym h) (k, refl)
  lead-more t (d ∷ es) now e h k = (h.0, lead-more (fired_at sim p t d).triple es now e h.1 k)

  -- one entry less: its way back leads to where the others lead
  pub lead-less : (t : Triple S) (es : List (Remembered S P)) (now : Triple S) (e : Remembered S P) → LeadTo sim p t (es ++ e ∷ []) now → LeadTo sim p t es (e.back now)
  lead-less t [] now e h = sym (ap e.back (sym h.1) ∙ h.0.back)
  lead-less t (d ∷ es) now e h = (h.0, lead-less (fired_at sim p t d).triple es now e h.1)

  -- the first entries forgotten: the rest leads on from where they lead
  pub lead-rest : (t : Triple S) (es rest : List (Remembered S P)) (now : Triple S) → LeadTo sim p t (es ++ rest) now → LeadTo sim p (after_from sim p t (entry_events (map entry_of es))) rest now
  lead-rest t [] rest now h = h
  lead-rest t (e ∷ es) rest now h = lead-rest (fired_at sim p t e).triple es rest now h.1

  pub after-append : (t : Triple S) (xs ys : List (Entry P)) → after_from sim p t (entry_events (xs ++ ys)) ≡ after_from sim p (after_from sim p t (entry_events xs)) (entry_events ys)
  after-append t [] ys = refl
  after-append t (x ∷ xs) ys = after-append (sim.fire p t (unstamped x.event)).triple xs ys

  pub is_where : (memory : ProcessMemory S P) (process : LogicalProcess P) → StandsForProcess sim p memory process → triple_after sim p (process.done ++ process.past) ≡ memory.triple
  is_where memory process h =
      after-append (sim.start p).triple process.done process.past
      ∙ ap (λ (es : List (Entry P)). after_from sim p (triple_after sim p process.done) (entry_events es)) h.past
      ∙ lead-after (triple_after sim p process.done) memory.past memory.triple h.leads

  pub goes_on : (memory : ProcessMemory S P) (process : LogicalProcess P) (e : Remembered S P) → StandsForProcess sim p memory process → IsRemembered sim p memory.triple e →
      StandsForProcess sim p (record memory { triple = (fired_at sim p memory.triple e).triple; past = memory.past ++ e ∷ [] }) (record process { past = process.past ++ entry_of e ∷ [] })
  goes_on memory process e h k = record {
    past = ap (λ (es : List (Entry P)). es ++ entry_of e ∷ []) h.past ∙ sym (map-append entry_of memory.past (e ∷ []));
    pending = h.pending;
    waiting = h.waiting;
    leads = lead-more (triple_after sim p process.done) memory.past memory.triple e h.leads k;
  }

  pub goes_back : (memory : ProcessMemory S P) (process : LogicalProcess P) (past : List (Remembered S P)) (e : Remembered S P) → StandsForProcess sim p memory process → memory.past ≡ past ++ e ∷ [] →
      StandsForProcess sim p (record memory { triple = e.back memory.triple; past = past }) (record process { past = map entry_of past })
  goes_back memory process past e h is = record {
    past = refl;
    pending = h.pending;
    waiting = h.waiting;
    leads = lead-less (triple_after sim p process.done) past memory.triple e (subst (λ es. LeadTo sim p (triple_after sim p process.done) es memory.triple) is h.leads);
  }

  pub forgets : (memory : ProcessMemory S P) (process : LogicalProcess P) (first rest : List (Remembered S P)) → StandsForProcess sim p memory process → memory.past ≡ first ++ rest →
      StandsForProcess sim p (record memory { past = rest }) (record process { done = process.done ++ map entry_of first; past = map entry_of rest })
  forgets memory process first rest h is = record {
    past = refl;
    pending = h.pending;
    waiting = h.waiting;
    leads =
        subst (λ (t : Triple S). LeadTo sim p t rest memory.triple) (sym (after-append (sim.start p).triple process.done (map entry_of first)))
        (lead-rest (triple_after sim p process.done) first rest memory.triple (subst (λ es. LeadTo sim p (triple_after sim p process.done) es memory.triple) is h.leads));
  }

module _ {S P : Type 0} (sim : Simulation S P) where
  -- a run of one list and then another
  pub run-append : (world : World P) (steps more : List Step) → run sim world (steps ++ more) ≡ run sim (run sim world steps) more
  unfolding run
  run-append world steps more = fold-append (λ now step. (next sim now step).world) world steps more

  pub still_reached_by_run : (serial : ℕ) (steps : List Step) (old new : WorldMemory S P) → RunsTo sim steps old new → StandsForReached sim serial old → StandsForReached sim serial new
  still_reached_by_run serial steps old new runs at =
      (at.0 ++ steps, subst (λ world. StandsFor sim new world) (sym (run-append (opening_world sim serial) at.0 steps)) (runs (reached sim serial at.0) at.1))

  pub still_reached : (serial : ℕ) (step : Step) (answer : Result Reply Fault) (old new : WorldMemory S P) → GoesOn sim step answer old new → StandsForReached sim serial old → StandsForReached sim serial new
  unfolding run
  still_reached serial step answer old new goes =
      still_reached_by_run serial (step ∷ []) old new (λ world stands. (goes world stands).1)
