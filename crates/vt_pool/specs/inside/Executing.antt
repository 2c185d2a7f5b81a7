-- What Execute of the first pending letter does to a pool, and why it is refused.
use Rattle.std.specs.Prelude.{◌≡◌, ◌⊎◌, ℕ, ◌+◌, ◌<◌, ◌≤◌, true, false, List, [], ◌∷◌, ◌++◌, length, map, Some}
use Rattle.std.specs.List.{list_any}
use Rattle.vt_key.specs.promise.Times.{Time, TimeBefore}
use Rattle.vt_key.specs.promise.Queues.{insert_letter}
use Rattle.vt_key.specs.declared.limits.TheConstants.{MAX_COUNT}
use Rattle.vt_key.specs.declared.fault.Fault.{Fault}
use Rattle.vt_key.specs.declared.letter.Event.{Event}
use Rattle.vt_key.specs.declared.letter.Letter.{Letter}
use Rattle.vt_key.specs.declared.letter.Sign.TheVariants.{Plus}
use Rattle.vt_model.specs.declared.limits.TheConstants.{MAX_RECORDS, MAX_SENDS}
use Rattle.vt_model.specs.declared.rows.Record.{Record}
use Rattle.vt_model.specs.declared.sending.Sent.{Sent}
use Rattle.vt_model.specs.declared.settings.Config.{Config}
use Rattle.vt_model.specs.promise.Handler.{Handlers}
use Rattle.vt_model.specs.promise.Simulation.{Triple, Fired, simulation_of}
use Rattle.vt_steps.specs.declared.step.Step.{Step}
use Rattle.vt_steps.specs.declared.step.Step.TheVariants.{Execute}
use Rattle.vt_steps.specs.promise.PartSteps.{is_for}
use Rattle.vt_steps.specs.promise.Letters.{unstamped, stamped, signed}
use Rattle.vt_steps.specs.promise.World.{Part}
use Rattle.vt_steps.specs.inside.Cells.{local_steps}
use Rattle.vt_past.specs.declared.event.PastEvent.{PastEvent}
use Rattle.vt_lp.specs.inside.Held.{IsOwnEvent}
use Rattle.vt_logs.specs.declared.entry.Entry.{Entry}
use Rattle.vt_kernel.specs.inside.Held.{HeldWorker, StandsFor}
use Rattle.vt_kernel.specs.inside.Guards.{IsExecuteRefusal}
use Rattle.vt_kernel.specs.inside.Steps.{part_after}
use Rattle.vt_pool.specs.inside.Logged.{placed}
use Rattle.vt_pool.specs.inside.Steps.{executed_in}
use Rattle.vt_pool.specs.inside.Share.{HeldShare, HeldPool, with_pool, seen}

-- the past event that is logged by worker w so
abbrev pub past_of : {P K : Type 0} → ℕ → Entry P K → List (Sent P) → List Record → PastEvent P K
past_of w entry sends records = (placed w (record { process = 0; entry = entry; sends = sends; records = records })).event

-- a message comes straight home: it is for a process of the worker, later than all that is past, of a greater serial than was noted of the worker, and no letter of the outbox is
-- for the worker
pub record ComesHome {P : Type 0} (config : Config) (w : ℕ) (until : Time) (most : ℕ) (outbox : List (Letter P)) (letter : Letter P) : Type 0 where
  pub own : is_for config.workers w letter ≡ true
  pub late : TimeBefore until letter.event.rank.key.time
  pub new : most < letter.event.rank.stamp.serial
  pub first : list_any (is_for config.workers w) outbox ≡ false

-- each of these messages came straight home, and then it is pending and its serial is noted, or it went behind all others of the outbox
abbrev pub AreDelivered : {P : Type 0} → Config → ℕ → Time → (letters pending outbox : List (Letter P)) → ℕ → (new_pending new_outbox : List (Letter P)) → ℕ → Type 0
AreDelivered config w until [] pending outbox most new_pending new_outbox new_most = (new_pending ≡ pending) × (new_outbox ≡ outbox) × (new_most ≡ most)
AreDelivered config w until (letter ∷ letters) pending outbox most new_pending new_outbox new_most =
    (ComesHome config w until most outbox letter × AreDelivered config w until letters (insert_letter letter pending) outbox letter.event.rank.stamp.serial new_pending new_outbox new_most)
    ⊎ AreDelivered config w until letters pending (outbox ++ letter ∷ []) most new_pending new_outbox new_most

-- the pool after Execute at an index, which left this entry, these sends and records: these letters are pending still, and the process stands there
abbrev pub pool_after_execute : {S P K : Type 0} → ℕ → Entry P K → List (Sent P) → List Record → List (Letter P) → Triple S → HeldPool S P K → HeldPool S P K
pool_after_execute i entry sends records later now pool = record pool {
  stock = executed_in i (past_of pool.worker entry sends records) later now pool.stock;
  outbox = pool.outbox ++ map (signed Plus) (stamped pool.worker pool.serial sends);
  serial = pool.serial + length sends;
}

module _ {S P K : Type 0} (handlers : Handlers S P K) where
  -- what an event does to process p, which stands there
  abbrev pub fired_by : Config → ℕ → Triple S → Event P → Fired S P
  fired_by config p before event = (simulation_of handlers config).fire p before (unstamped event)

  -- process p, which stood somewhere before, executed an event: its entry, which keeps the serial that its first send takes, where the process
  -- stands now, what it sent, and its records
  pub record IsFired (config : Config) (p : ℕ) (event : Event P) (serial : ℕ) (before now : Triple S) (entry : Entry P K) (sends : List (Sent P)) (records : List Record) : Type 0 where
    pub event_is : entry.event ≡ event
    pub serial_is : entry.serial ≡ serial
    pub triple : now ≡ (fired_by config p before event).triple
    pub sends_are : sends ≡ (fired_by config p before event).sends
    pub own : (w : ℕ) → IsOwnEvent config p (past_of w entry sends records)
    pub few_sends : length sends ≤ MAX_SENDS
    pub few_records : length records ≤ MAX_RECORDS
    pub numbered : now.number ≤ MAX_COUNT
    pub counted : serial + length sends ≤ MAX_COUNT

  -- this step of a worker and then others, each lawful, lead from this part to one that the value stands for
  pub record IsLedBy (first : Step) (old : HeldWorker S P K) (part : Part P) (new : HeldWorker S P K) : Type 0 where
    pub more : List Step
    pub after : Part P
    pub led : local_steps (simulation_of handlers old.config) old.worker (first ∷ more) part ≡ Some after
    pub stands : StandsFor handlers new after

  -- the first pending letter was executed: whatever else the worker has, Execute of its process and then other steps of the worker alone lead
  -- from each part that the old value stands for to one that the new value stands for
  pub record HasExecuted (old new : HeldPool S P K) : Type 0 where
    pub letter : Letter P
    pub later : List (Letter P)
    pub first : old.stock.pending ≡ letter ∷ later
    pub steps : (rest : HeldShare S P K) (part : Part P) → StandsFor handlers (seen (with_pool rest old)) part
        → IsLedBy (Execute letter.event.dest) (seen (with_pool rest old)) part (seen (with_pool rest new))

  -- why the first pending letter isn't executed: the send number of its process or the serial would pass its limit; or neither would, and memory
  -- was refused
  pub record IsNotExecuted (old : HeldPool S P K) (fault : Fault) : Type 0 where
    pub letter : Letter P
    pub later : List (Letter P)
    pub first : old.stock.pending ≡ letter ∷ later
    pub refused : (rest : HeldShare S P K) (part : Part P) → StandsFor handlers (seen (with_pool rest old)) part
        → IsExecuteRefusal (simulation_of handlers old.config) letter.event.dest (part_after handlers (seen (with_pool rest old)) (Execute letter.event.dest) part) fault
