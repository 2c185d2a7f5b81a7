-- What contracts read of a station and of a place, whose fields are private.
use Rattle.std.specs.Prelude.{ℕ}
use Rattle.atomic_table.specs.Seated.{TableId}
use Rattle.vt_model.specs.declared.settings.Config.{Config}
use Rattle.vt_model.specs.promise.Handler.{Handlers}
use Rattle.vt_model.specs.promise.Simulation.{Simulation, simulation_of}
use Rattle.vt_places.specs.declared.place.Place.{Place}
use Rattle.vt_places.specs.declared.station.Station.{Station}
use Rattle.vt_places.specs.declared.view.View.{View}
use Rattle.vt_places.specs.inside.Kept.{Sat}

-- a station is of a model, whose states, payloads and kept values are of these types
module _ {M S P K : Type 0} where
  -- the model that it was made for
  abbrev pub station_model : Station M S P K → M
  station_model station = station.table.shared.key.model.value

  -- the config that it was made for
  abbrev pub station_config : Station M S P K → Config
  station_config station = station.table.shared.key.config

  -- the simulation that it runs
  abbrev pub station_run : (M → Handlers S P K) → Station M S P K → Simulation S P
  station_run handlers station = simulation_of (handlers (station_model station)) (station_config station)

  -- its table, by which its places are known
  abbrev pub station_table : Station M S P K → TableId
  station_table station = station.table.shared.table_id

module _ {P : Type 0} where
  -- the table of the station that the place is of
  abbrev pub place_table : Place P → TableId
  place_table place = place.seat.table_id

  -- the worker whose place it is
  abbrev pub place_worker : Place P → ℕ
  place_worker place = place.worker

  -- what the place knows, and the slots that its seat has taken
  abbrev pub place_seat : Place P → Sat P
  place_seat place = place.seat.me

  -- what the place knows: its worker's part and steps, and the floor that it was shown
  abbrev pub place_view : Place P → View P
  place_view place = place.seat.me.0
