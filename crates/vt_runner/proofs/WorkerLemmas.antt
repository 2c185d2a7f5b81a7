-- How many workers a run has makes no difference to its text.
use Rattle.std.proofs.Common.{◌≡◌, ◌∙◌, ◌++◌, ◌≤◌, ℕ, zero, suc, Bool, List, [], ◌∷◌, Option, refl, ap, ap₂, map, subst, arith, if◌then◌else◌}
use Rattle.std.specs.List.{range_with_len}
use Rattle.vt_key.specs.promise.Times.{Time, at}
use Rattle.vt_key.specs.declared.fault.Fault.{Fault}
use Rattle.vt_key.specs.declared.fault.Fault.TheVariants.{Memory, NotLawful, Busy, Closed, Exhausted, TurnsSpent, BadOption, BadStep, Output}
use Rattle.vt_model.specs.declared.rows.Row.{Row}
use Rattle.vt_model.specs.declared.sending.Sent.{Sent}
use Rattle.vt_model.specs.declared.settings.Config.{Config}
use Rattle.vt_model.specs.promise.Handler.{Handlers}
use Rattle.vt_model.specs.promise.Simulation.{Simulation, simulation_of, start_of, fire_of, words_at, after}
use Rattle.vt_model.specs.promise.Sequential.{RunState, fired_after, opening, step, after_steps, weight, whole_run, events_of, rows_after, rows_before, records_of, seq_records, seq_finals}
use Rattle.vt_text.specs.declared.version.Version.{Version}
use Rattle.vt_tasks.specs.promise.Printed.{final_lines, finals_text, printed_text}
use Rattle.vt_tasks.specs.promise.Runs.{text_below, run_text}
use Rattle.vt_tasks.specs.inside.Runs.{StopsWork}

module _ {S P : Type 0} (sim : Simulation S P) (w : ℕ) where
  abbrev other : Simulation S P
  other = record sim { workers = w }

  step-same : (x : RunState P) → step other x ≡ step sim x
  unfolding fired_after
  step-same x = refl

  steps-same : (n : ℕ) → after_steps other n ≡ after_steps sim n
  steps-same zero = refl
  steps-same (suc n) = step-same (after_steps other n) ∙ ap (step sim) (steps-same n)

  whole-same : whole_run other ≡ whole_run sim
  unfolding whole_run weight
  whole-same = ap (λ x. x.executed) (steps-same (weight sim (opening sim).pending))

  rows-same : (done es : List (Sent P)) → rows_after other done es ≡ rows_after sim done es
  unfolding fired_after
  rows-same done [] = refl
  rows-same done (e ∷ es) = ap (λ (rows : List Row). (fired_after sim done e).rows ++ rows) (rows-same (done ++ e ∷ []) es)

  records-same : (t : Time) → seq_records other t ≡ seq_records sim t
  records-same t = ap (λ (rows : List Row). records_of (rows_before t rows)) (rows-same [] (whole_run other) ∙ ap (rows_after sim []) whole-same)

  finals-same : seq_finals other ≡ seq_finals sim
  finals-same = ap (λ (es : List (Sent P)). map (λ p. sim.finish p (after sim p (events_of p es)).state) (range_with_len 0 sim.lps)) whole-same

module _ (shown : Option Version) (finals : Bool) {S P K : Type 0} (handlers : Handlers S P K) (c d : Config) (lps : d.lps ≡ c.lps) (end : d.end ≡ c.end) (seed : d.seed ≡ c.seed) where
  but-workers : simulation_of handlers d ≡ record (simulation_of handlers c) { workers = d.workers }
  but-workers = λ i. record {
    lps = lps i;
    workers = d.workers;
    end = at (end i) 0;
    start = λ p. start_of (at (end i) 0) p (handlers.start (lps i) p (words_at (seed i) p 0));
    fire = λ p t e. fire_of (at (end i) 0) p t e (handlers.forward (lps i) p e.key.time e.payload t.state (words_at (seed i) p t.place));
    finish = handlers.finish;
  }

  below-same : (t : Time) → text_below shown handlers d t ≡ text_below shown handlers c t
  below-same t = ap (λ (s : Simulation S P). printed_text shown (seq_records s t)) but-workers ∙ ap (printed_text shown) (records-same (simulation_of handlers c) d.workers t)

  last-same : finals_text finals (simulation_of handlers d) ≡ finals_text finals (simulation_of handlers c)
  last-same =
      ap (λ (s : Simulation S P). finals_text finals s) but-workers
      ∙ ap (λ (values : List ℕ). if finals then final_lines 0 values else []) (finals-same (simulation_of handlers c) d.workers)

  pub text-same : run_text shown finals handlers d ≡ run_text shown finals handlers c
  text-same = ap₂ (λ (a b : List ℕ). a ++ b) (ap (λ n. text_below shown handlers d (at n 0)) end ∙ below-same (at c.end 0)) last-same

  fewer-stop : (below : Time → List ℕ) (whole : List ℕ) (old new : Option (List ℕ)) → d.workers ≤ c.workers → (fault : Fault) → StopsWork d.workers below whole old new fault → StopsWork c.workers below whole old new fault
  fewer-stop below whole old new fewer Memory h = h
  fewer-stop below whole old new fewer NotLawful h = h
  fewer-stop below whole old new fewer Busy h = (omega (arith, h.0, fewer), h.1)
  fewer-stop below whole old new fewer Closed h = h
  fewer-stop below whole old new fewer Exhausted h = h
  fewer-stop below whole old new fewer TurnsSpent h = h
  fewer-stop below whole old new fewer (BadOption name) h = h
  fewer-stop below whole old new fewer (BadStep line) h = h
  fewer-stop below whole old new fewer Output h = h

  -- and so with fewer workers it stops as with more
  pub stops-same : (old new : Option (List ℕ)) → d.workers ≤ c.workers → (fault : Fault) → StopsWork d.workers (text_below shown handlers d) (run_text shown finals handlers d) old new fault
      → StopsWork c.workers (text_below shown handlers c) (run_text shown finals handlers c) old new fault
  stops-same old new fewer fault h =
      subst (λ (texts : (Time → List ℕ) × List ℕ). StopsWork c.workers texts.0 texts.1 old new fault) (λ i. ((λ t. below-same t i), text-same i)) (fewer-stop (text_below shown handlers d) (run_text shown finals handlers d) old new fewer fault h)
