-- The records that a run gives, step by step.
use Rattle.std.specs.Prelude.{◌≡◌, ℕ, suc, ◌+◌, List, [], ◌++◌}
use Rattle.vt_model.specs.declared.rows.Record.{Record}
use Rattle.vt_model.specs.promise.Simulation.{Simulation}
use Rattle.vt_model.specs.promise.Sequential.{after_steps, rows_after, records_of, seq_records}

module _ {S P : Type 0} (sim : Simulation S P) where
  -- the records of the first n steps of the run
  abbrev pub records_to : ℕ → List Record
  records_to n = records_of (rows_after sim [] (after_steps sim n).executed)

  -- records that begin those of the whole run
  pub record BeginRun (records : List Record) : Type 0 where
    pub rest : List Record
    pub whole : seq_records sim sim.end ≡ records ++ rest

  -- the records of the step after n steps were put behind these: with them, the records of the steps so far begin those of the
  -- whole run
  pub record AddsStep (n : ℕ) (old new : List Record) : Type 0 where
    pub fresh : List Record
    pub added : new ≡ old ++ fresh
    pub next : records_to (suc n) ≡ records_to n ++ fresh
    pub begins : BeginRun (records_to (suc n))

  -- the records of k more steps after n steps were put behind these
  pub record AddsSteps (n k : ℕ) (old new : List Record) : Type 0 where
    pub fresh : List Record
    pub added : new ≡ old ++ fresh
    pub next : records_to (k + n) ≡ records_to n ++ fresh

  -- all records that the run still gives after n steps were put behind these
  pub record AddsRest (n : ℕ) (old new : List Record) : Type 0 where
    pub fresh : List Record
    pub added : new ≡ old ++ fresh
    pub rest : seq_records sim sim.end ≡ records_to n ++ fresh
