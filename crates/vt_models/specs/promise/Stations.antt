-- What the handlers of `Stations` give.
use Rattle.std.specs.Prelude.{ℕ, ◌+◌, ◌-◌, ◌^◌, [], ◌∷◌, nat_eq, if◌then◌else◌}
use Rattle.vt_model.specs.promise.Handler.{Handlers, StartResult, ForwardResult}
use Rattle.vt_model.specs.promise.Counts.{one_more, one_fewer}
use Rattle.vt_model.specs.promise.Flags.{has_flag}
use Rattle.vt_model.specs.promise.Sends.{SendRequest}
use Rattle.vt_model.specs.declared.flags.Bits.{Bits}
use Rattle.vt_models.specs.declared.stations.Stations.{Stations}
use Rattle.vt_models.specs.declared.stations.Server.{Server}
use Rattle.vt_models.specs.declared.stations.JobEvent.{JobEvent}
use Rattle.vt_models.specs.declared.stations.JobEvent.TheVariants.{Arrive, Depart}
use Rattle.vt_models.specs.declared.stations.TheConstants.{BEGAN, GOES_ON, EMPTY}
use Rattle.vt_stream.specs.promise.Drawn.{scaled}

-- the end of a service that begins now, for which this word was drawn
abbrev pub departure : Stations → ℕ → ℕ → SendRequest JobEvent
departure m lp w = record { dest = lp; delay = 1 + scaled w m.service; priority = 0; payload = Depart }

-- a job on its way to the station that a word names
abbrev pub passage : Stations → ℕ → ℕ → SendRequest JobEvent
passage m lps w = record { dest = scaled w lps; delay = m.travel; priority = 0; payload = Arrive }

-- the first state of a station
abbrev pub filled : Stations → Server
filled m = record { length = m.jobs; served = 0 }

-- a station without jobs begins idle
abbrev pub start_idle : Stations → StartResult Server JobEvent
start_idle m = record {
  state = filled m;
  drawn = 0;
  send_requests = [];
}

-- another begins its first service
abbrev pub start_busy : Stations → ℕ → (ℕ → ℕ) → StartResult Server JobEvent
start_busy m lp words = record {
  state = filled m;
  drawn = 1;
  send_requests = departure m lp (words 0) ∷ [];
}

-- a station starts with its jobs, and none served
abbrev pub stations_start : Stations → ℕ → (ℕ → ℕ) → StartResult Server JobEvent
stations_start m lp words =
    if nat_eq m.jobs 0 then start_idle m
    else start_busy m lp words

-- a station with one job more
abbrev pub one_job_more : Server → Server
one_job_more s = record s { length = one_more s.length }

-- a job that finds its station idle is served at once
abbrev pub arrival_begins : Stations → ℕ → Server → (ℕ → ℕ) → ForwardResult Server JobEvent (Unit {0})
arrival_begins m lp s words = record {
  state = one_job_more s;
  kept = tt;
  bits = record { flags = 2 ^ BEGAN };
  drawn = 1;
  send_requests = departure m lp (words 0) ∷ [];
  record_requests = record { kind = 3; value = (one_job_more s).length } ∷ [];
}

-- another waits
abbrev pub arrival_waits : Server → ForwardResult Server JobEvent (Unit {0})
arrival_waits s = record {
  state = one_job_more s;
  kept = tt;
  bits = record { flags = 0 };
  drawn = 0;
  send_requests = [];
  record_requests = record { kind = 3; value = (one_job_more s).length } ∷ [];
}

-- a job arrives
abbrev pub arrival : Stations → ℕ → Server → (ℕ → ℕ) → ForwardResult Server JobEvent (Unit {0})
arrival m lp s words =
    if nat_eq (one_job_more s).length 1 then arrival_begins m lp s words
    else arrival_waits s

-- a station with one job less, which it has served
abbrev pub one_served : Server → Server
one_served s = record { length = s.length - 1; served = one_more s.served }

-- no job departs from an empty station: nothing happens
abbrev pub nothing_departs : Server → ForwardResult Server JobEvent (Unit {0})
nothing_departs s = record {
  state = s;
  kept = tt;
  bits = record { flags = 2 ^ EMPTY };
  drawn = 0;
  send_requests = [];
  record_requests = [];
}

-- the last job departs, and the station is idle
abbrev pub last_departs : Stations → ℕ → Server → (ℕ → ℕ) → ForwardResult Server JobEvent (Unit {0})
last_departs m lps s words = record {
  state = one_served s;
  kept = tt;
  bits = record { flags = 0 };
  drawn = 1;
  send_requests = passage m lps (words 0) ∷ [];
  record_requests = record { kind = 4; value = (one_served s).served } ∷ [];
}

-- a job departs, and the next is served
abbrev pub next_follows : Stations → ℕ → ℕ → Server → (ℕ → ℕ) → ForwardResult Server JobEvent (Unit {0})
next_follows m lps lp s words = record {
  state = one_served s;
  kept = tt;
  bits = record { flags = 2 ^ GOES_ON };
  drawn = 2;
  send_requests = passage m lps (words 0) ∷ departure m lp (words 1) ∷ [];
  record_requests = record { kind = 4; value = (one_served s).served } ∷ [];
}

-- what the end of a service gives at a station with jobs
abbrev pub service_end : Stations → ℕ → ℕ → Server → (ℕ → ℕ) → ForwardResult Server JobEvent (Unit {0})
service_end m lps lp s words =
    if nat_eq (one_served s).length 0 then last_departs m lps s words
    else next_follows m lps lp s words

-- a job arrives or departs
abbrev pub stations_forward : Stations → ℕ → ℕ → JobEvent → Server → (ℕ → ℕ) → ForwardResult Server JobEvent (Unit {0})
stations_forward m lps lp Arrive s words = arrival m lp s words
stations_forward m lps lp Depart s words =
    if nat_eq s.length 0 then nothing_departs s
    else service_end m lps lp s words

-- a station before its last job came
abbrev pub one_job_fewer : Server → Server
one_job_fewer s = record s { length = one_fewer s.length }

-- a station before it had served its last job
abbrev pub one_back : Server → Server
one_back s = record { length = one_more s.length; served = one_fewer s.served }

-- what takes an event back: a job more goes, and a job served comes back unless none departed
abbrev pub stations_reverse : JobEvent → Server → Bits → Server
stations_reverse Arrive s bits = one_job_fewer s
stations_reverse Depart s bits = if has_flag bits EMPTY then s else one_back s

-- the four handlers
abbrev pub stations_handlers : Stations → Handlers Server JobEvent (Unit {0})
stations_handlers m = record {
  start = λ lps lp words. stations_start m lp words;
  forward = λ lps lp now p s words. stations_forward m lps lp p s words;
  reverse = λ lp now p s bits kept. stations_reverse p s bits;
  finish = λ lp s. s.served;
}
