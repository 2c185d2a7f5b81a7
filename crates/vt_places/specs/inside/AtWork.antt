-- A worker at its place.
use Rattle.std.specs.Prelude.{◌≡◌}
use Rattle.vt_key.specs.promise.Times.{Time}
use Rattle.atomic_table.specs.Seated.{TableId}
use Rattle.vt_model.specs.declared.settings.Config.{Config}
use Rattle.vt_model.specs.promise.Handler.{Handlers}
use Rattle.vt_model.specs.promise.Simulation.{Simulation, simulation_of}
use Rattle.vt_steps.specs.declared.step.Step.{Step}
use Rattle.vt_steps.specs.declared.step.Reply.{Reply}
use Rattle.vt_kernel.specs.inside.Held.{HeldWorker}
use Rattle.vt_places.specs.declared.view.View.{View}
use Rattle.vt_places.specs.declared.place.Place.{Place}
use Rattle.vt_places.specs.declared.station.Station.{Station}
use Rattle.vt_places.specs.inside.Told.{station_config, station_table, place_view}
use Rattle.vt_places.specs.inside.Calls.{Reaches, Visited, Stays}

-- what a contract sees of a worker at its place: the station's model, config and table, what its place knows, and its kernel
pub record AtWork (M S P K : Type 0) : Type 0 where
  pub model : M
  pub config : Config
  pub table : TableId
  pub view : View P
  pub kernel : HeldWorker S P K

-- what is seen of one with this model and this kernel, at this place of this station
abbrev pub at_work : {M S P K : Type 0} → Station M S P K → M → Place P → HeldWorker S P K → AtWork M S P K
at_work station model place kernel = record {
  model = model;
  config = station_config station;
  table = station_table station;
  view = place_view place;
  kernel = kernel;
}

-- what holds of it between calls: the place is one of this table, the station was told this model and this config, and local
-- steps lead from what the place left to what the kernel stands for
pub record IsAtWork {M S P K : Type 0} (handlers : M → Handlers S P K) (told : M) (config : Config) (table : TableId) (w : AtWork M S P K) : Type 0 where
  pub config_is : config ≡ w.config
  pub table_is : table ≡ w.table
  pub model_is : told ≡ w.model
  pub reaches : Reaches (handlers w.model) w.config w.view w.kernel

-- it is the same worker at the same station as before, with the same model, and its kernel is of that worker and config as before
pub record IsAtSameStation {M S P K : Type 0} (v w : AtWork M S P K) : Type 0 where
  pub worker : w.view.worker ≡ v.view.worker
  pub model : w.model ≡ v.model
  pub config : w.config ≡ v.config
  pub table : w.table ≡ v.table
  pub number : w.kernel.worker ≡ v.kernel.worker
  pub known : w.kernel.config ≡ v.kernel.config

-- the worker is at the same station as before, and its place knows the same
pub record IsAtSamePlace {M S P K : Type 0} (v w : AtWork M S P K) : Type 0 where
  pub station : IsAtSameStation v w
  pub view : w.view ≡ v.view

-- what it knows and its kernel are as they were
abbrev pub KeepsAll : {M S P K : Type 0} → AtWork M S P K → AtWork M S P K → Type 0
KeepsAll v w = Stays v.view w.view × (w.kernel ≡ v.kernel)

module _ {M S P K : Type 0} (handlers : M → Handlers S P K) where
  -- the simulation that it runs
  abbrev pub simulation_at : AtWork M S P K → Simulation S P
  simulation_at w = simulation_of (handlers w.model) w.config

  -- its visit of a cell with this step, after which its place was shown this floor
  abbrev pub MakesVisit : AtWork M S P K → AtWork M S P K → Step → Reply → Time → Type 0
  MakesVisit v w step reply seen = Visited (handlers v.model) v.config v.view v.kernel step reply w.kernel seen w.view
