-- Histories: for each process the events that it executed, as the sends alone determine them; and the laws of a simulation.
use Rattle.std.specs.Prelude.{◌≡◌, ℕ, suc, length, ◌<◌, ◌≤◌, List, [], ◌∷◌}
use Rattle.vt_model.specs.declared.sending.Sent.{Sent}
use Rattle.vt_key.specs.promise.Times.{TimeBefore, at}
use Rattle.vt_key.specs.declared.limits.TheConstants.{MAX_WORKERS, MAX_END}
use Rattle.vt_key.specs.promise.Lists.{Among}
use Rattle.vt_model.specs.declared.limits.TheConstants.{MAX_SENDS}
use Rattle.vt_model.specs.promise.Rows.{AreRowsOf}
use Rattle.vt_model.specs.promise.Simulation.{Simulation, Triple}

-- sends of one process whose numbers rise strictly, from lo on and below hi
abbrev pub AreNumbered : {P : Type 0} → ℕ → ℕ → ℕ → List (Sent P) → Type 0
AreNumbered p lo hi [] = lo ≤ hi
AreNumbered p lo hi (e ∷ es) = (e.key.source ≡ p) × (lo ≤ e.key.number) × AreNumbered p (suc e.key.number) hi es

module _ {S P : Type 0} (sim : Simulation S P) where
  -- the laws of a simulation: sends go to known processes, are later than their cause and below the end, and take the
  -- numbers from the process's next one on; an event sends few, and its rows are its own; there are workers and a time
  -- to run
  pub record IsLawful : Type 0 where
    pub known_start : (p : ℕ) (d : Sent P) → p < sim.lps → Among d (sim.start p).sends → d.dest < sim.lps
    pub known : (p : ℕ) (t : Triple S) (e d : Sent P) → p < sim.lps → Among d (sim.fire p t e).sends → d.dest < sim.lps
    pub later_start : (p : ℕ) (d : Sent P) → p < sim.lps → Among d (sim.start p).sends → TimeBefore 0 d.key.time
    pub later : (p : ℕ) (t : Triple S) (e d : Sent P) → p < sim.lps → Among d (sim.fire p t e).sends → TimeBefore e.key.time d.key.time
    pub ends_start : (p : ℕ) (d : Sent P) → p < sim.lps → Among d (sim.start p).sends → TimeBefore d.key.time sim.end
    pub ends : (p : ℕ) (t : Triple S) (e d : Sent P) → p < sim.lps → Among d (sim.fire p t e).sends → TimeBefore d.key.time sim.end
    pub numbered_start : (p : ℕ) → p < sim.lps → AreNumbered p 0 (sim.start p).triple.number (sim.start p).sends
    pub numbered : (p : ℕ) (t : Triple S) (e : Sent P) → p < sim.lps → AreNumbered p t.number (sim.fire p t e).triple.number (sim.fire p t e).sends
    pub few : (p : ℕ) (t : Triple S) (e : Sent P) → p < sim.lps → length (sim.fire p t e).sends ≤ MAX_SENDS
    pub rows_start : (p : ℕ) → (sim.start p).rows ≡ []
    pub rows : (p : ℕ) (t : Triple S) (e : Sent P) → AreRowsOf e.key 0 (sim.fire p t e).rows
    pub some_worker : 1 ≤ sim.workers
    pub few_workers : sim.workers ≤ MAX_WORKERS
    pub some_time : 1 ≤ sim.end
    pub in_time : sim.end ≤ at MAX_END 0
