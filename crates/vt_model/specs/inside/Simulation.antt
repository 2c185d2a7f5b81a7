-- What a model and a config mean: a start for each process, and what each event does.
use Rattle.std.specs.Prelude.{◌≡◌}
use Rattle.vt_key.specs.promise.Keys.{Key}
use Rattle.vt_stream.specs.inside.Words.{Stream}
use Rattle.vt_model.specs.inside.Sends.{Outgoing}
use Rattle.vt_model.specs.promise.Simulation.{Fired, rows_of}

-- what a process, its stream and its out are after an event
pub record IsFiring {S P : Type 0} (f : Fired S P) (key : Key) (s : S) (w : Stream) (o : Outgoing P) : Type 0 where
  pub triple : record { state = s; number = o.number; place = w.place } ≡ f.triple
  pub sends : o.sends ≡ f.sends
  pub rows : rows_of key o.records ≡ f.rows
