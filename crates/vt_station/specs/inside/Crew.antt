-- The work of a crew of workers.
use Rattle.std.specs.Prelude.{◌≡◌, ◌⊎◌, ℕ, ◌<◌, List, [], ◌∷◌, length, drop, ◌≤◌, ◌^◌, All, Option, Some, None, slice_get, slice_index_or, IfSome}
use Rattle.atomic_table.specs.Seated.{TableId}
use Rattle.vt_key.specs.declared.fault.Fault.{Fault}
use Rattle.vt_key.specs.declared.fault.Fault.TheVariants.{Memory, Busy, TurnsSpent}
use Rattle.vt_model.specs.declared.settings.Config.{Config}
use Rattle.vt_model.specs.declared.rows.Record.{Record}
use Rattle.vt_model.specs.promise.Handler.{Handlers}
use Rattle.vt_key.specs.promise.Times.{Time}
use Rattle.vt_model.specs.promise.Simulation.{Simulation, simulation_of}
use Rattle.vt_model.specs.promise.Sequential.{seq_records, seq_finals}
use Rattle.vt_steps.specs.inside.Finals.{worker_finals}
use Rattle.vt_places.specs.declared.view.View.{View}
use Rattle.vt_station.specs.declared.job.Post.{Post}
use Rattle.vt_station.specs.declared.job.Post.TheVariants.{New, Begun, Left}
use Rattle.vt_station.specs.declared.pieces.Standing.{Standing}
use Rattle.vt_station.specs.declared.pieces.Standing.TheVariants.{GoesOn, Whole, Stopped}
use Rattle.vt_station.specs.declared.driver.Outcome.{Outcome}
use Rattle.vt_station.specs.declared.driver.Outcome.TheVariants.{Closed, Refused}
use Rattle.vt_station.specs.declared.driver.Wanted.{Wanted}
use Rattle.vt_station.specs.declared.driver.Wanted.TheVariants.{Records, Finals}
use Rattle.vt_places.specs.inside.Told.{place_table, place_view}
use Rattle.vt_places.specs.inside.AtWork.{AtWork}
use Rattle.vt_places.specs.inside.Making.{IsNew}
pub use Rattle.vt_places.specs.inside.Calls.{IsHandOutRefusal}
use Rattle.vt_station.specs.promise.Turns.{IsLasting}
use Rattle.vt_station.specs.inside.Turns.{HasEnded}

-- what the place of a worker knows: before it has begun, while it is at work, and once it has left
abbrev pub view_of : {M S P K : Type 0} → Post M S P K → View P
view_of (New place) = place_view place
view_of (Begun worker) = worker.view
view_of (Left place) = place_view place

-- the table of its place
abbrev pub table_of : {M S P K : Type 0} → Post M S P K → TableId
table_of (New place) = place_table place
table_of (Begun worker) = worker.table
table_of (Left place) = place_table place

-- worker w stands at a place of this table: as it was made, at work with this model and this config, or without a kernel
abbrev pub StandsThere : {M S P K : Type 0} → Simulation S P → M → Config → TableId → ℕ → Post M S P K → Type 0
StandsThere sim model config table w (New place) = IsNew sim table w place
StandsThere sim model config table w (Begun worker) = (worker.model ≡ model) × (worker.config ≡ config) × (worker.table ≡ table) × (worker.view.worker ≡ w)
StandsThere sim model config table w (Left place) = (place_table place ≡ table) × ((place_view place).worker ≡ w)

-- a worker that was at work so is at work still, or has left its place so
abbrev pub StandsFrom : {M S P K : Type 0} → AtWork M S P K → Post M S P K → Type 0
StandsFrom worker (New place) = ⊥
StandsFrom worker (Begun same) = same ≡ worker
StandsFrom worker (Left place) = (place_table place ≡ worker.table) × (place_view place ≡ worker.view)

-- why a worker that stands so can't begin: memory was refused for its kernel; or it has left, and there is no fault
abbrev pub CannotBegin : {M S P K : Type 0} → Post M S P K → Option Fault → Type 0
CannotBegin (New place) why = why ≡ Some Memory
CannotBegin (Begun worker) why = ⊥
CannotBegin (Left place) why = why ≡ None

-- how the last piece of a worker's work ended, its place knows
abbrev pub IsLeftBy : {P : Type 0} → View P → Option Outcome → Type 0
IsLeftBy view None = Unit {0}
IsLeftBy view (Some outcome) = HasEnded view outcome

-- what a contract sees of the work of a worker
pub record AtJob (M : Type 0) : Type 0 where
  pub model : M
  pub config : Config
  pub table : TableId
  pub worker : ℕ
  pub outcome : Option Outcome
  pub finals : Option (List ℕ)

-- what holds of it between calls: the station was told this model and this config, the worker stands there, and the final values, if
-- there are any, are those of its processes
pub record IsJob {M S P K : Type 0} (handlers : M → Handlers S P K) (told : M) (known : Config) (table : TableId) (model : M) (config : Config) (worker : ℕ) (post : Option (Post M S P K)) (outcome : Option Outcome) (finals : Option (List ℕ)) : Type 0 where
  pub model_is : told ≡ model
  pub config_is : known ≡ config
  pub within : worker < config.workers
  pub there : Post M S P K
  pub post_is : post ≡ Some there
  pub stands : StandsThere (simulation_of (handlers model) config) model config table worker there
  pub left : IsLeftBy (view_of there) outcome
  pub finals_are : IfSome finals (λ values. values ≡ worker_finals (simulation_of (handlers model) config) worker)

-- the work of the same worker for the same model and config
pub record IsSameJob {M : Type 0} (i j : AtJob M) : Type 0 where
  pub model : j.model ≡ i.model
  pub config : j.config ≡ i.config
  pub table : j.table ≡ i.table
  pub worker : j.worker ≡ i.worker

-- the worker of job i closed the book
abbrev pub IsClosedAt : {M : Type 0} → List (AtJob M) → ℕ → Type 0
IsClosedAt {M} jobs i = (job : AtJob M) × (slice_get jobs i ≡ Some job) × (job.outcome ≡ Some Closed)

-- no worker closed the book
abbrev pub NoneClosed : {M : Type 0} → List (AtJob M) → Type 0
NoneClosed jobs = All (λ j. j.outcome ≡ Some Closed → ⊥) jobs

-- no worker's work has ended, or begun
abbrev pub AreUnbegun : {M : Type 0} → List (AtJob M) → Type 0
AreUnbegun jobs = All (λ j. j.outcome ≡ None) jobs

-- no worker before that of job i closed the book
abbrev pub NoneClosedBefore : {M : Type 0} → List (AtJob M) → ℕ → Type 0
NoneClosedBefore {M} jobs i = (k : ℕ) (d : AtJob M) → k < i → (slice_index_or jobs k d).outcome ≡ Some Closed → ⊥

-- the fault that ended the work of one, or this one
abbrev pub fault_or : Option Outcome → Fault → Fault
fault_or (Some (Refused fault)) other = fault
fault_or outcome other = other

-- the fault that ended the work of the first worker that had one, else that all turns were made
abbrev pub first_fault : {M : Type 0} → List (AtJob M) → Fault
first_fault [] = TurnsSpent
first_fault (job ∷ jobs) = fault_or job.outcome (first_fault jobs)

-- what a run that stopped is told by: where no worker closed the book that fault; or the book was claimed, and there are no records
abbrev pub IsToldBy : {M : Type 0} → List (AtJob M) → Fault → List Record → Type 0
IsToldBy jobs fault records = (NoneClosed jobs × (fault ≡ first_fault jobs)) ⊎ ((fault ≡ Busy) × (records ≡ []))

-- the work of workers for this model and this config
abbrev pub AllAt : {M : Type 0} → M → Config → List (AtJob M) → Type 0
AllAt model config jobs = All (λ j. (j.model ≡ model) × (j.config ≡ config)) jobs

-- the work is of all workers in order
abbrev pub AreInOrder : {M : Type 0} → List (AtJob M) → Type 0
AreInOrder {M} jobs = (w : ℕ) (d : AtJob M) → w < length jobs → (slice_index_or jobs w d).worker ≡ w

-- the work is that of as many workers as before, in the same order, for the same model and config
pub record IsSameWork {M : Type 0} (old new : List (AtJob M)) : Type 0 where
  pub count : length new ≡ length old
  pub order : AreInOrder old → AreInOrder new
  pub told : (model : M) (config : Config) → AllAt model config old → AllAt model config new

-- the final values that are wanted of a run: none, or those of the sequential run
abbrev pub wanted_finals : {S P : Type 0} → Wanted → Simulation S P → List ℕ
wanted_finals Records sim = []
wanted_finals Finals sim = seq_finals sim

-- these are the records of the sequential run below a time but for the first of them, and they can be counted
pub record IsPieceOf {S P : Type 0} (sim : Simulation S P) (from : ℕ) (records : List Record) (floor : Time) : Type 0 where
  pub beginning : from ≤ length (seq_records sim floor)
  pub few : length (seq_records sim floor) < 2 ^ 64
  pub rest : records ≡ drop from (seq_records sim floor)

-- how a run in pieces stands, by how the work of its workers has ended: a worker closed the book; or none did, and the first that
-- had a fault had this one, which no later turn mends; or none had one
abbrev pub StandsBy : {M : Type 0} → List (AtJob M) → Standing → Type 0
StandsBy jobs Whole = NoneClosed jobs → ⊥
StandsBy jobs (Stopped fault) = NoneClosed jobs × (fault ≡ first_fault jobs) × IsLasting fault
StandsBy jobs GoesOn = NoneClosed jobs × (first_fault jobs ≡ TurnsSpent)

-- what a contract sees of the workers of a run in pieces
pub record AtCrew (M : Type 0) : Type 0 where
  pub model : M
  pub config : Config
  pub jobs : List (AtJob M)
  pub wanted : Wanted
  pub standing : Standing

-- what holds of them between calls: they work for this model and this config, there are some, in order, and the run stands as their
-- work has ended
pub record IsCrew {M : Type 0} (model : M) (config : Config) (standing : Standing) (jobs : List (AtJob M)) : Type 0 where
  pub told : AllAt model config jobs
  pub some : 0 < length jobs
  pub order : AreInOrder jobs
  pub stands : StandsBy jobs standing
