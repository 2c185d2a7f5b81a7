-- What the handlers of a program give.
use Rattle.std.specs.Prelude.{ℕ, ◌-◌, ◌^◌, nat_eq, if◌then◌else◌, List, [], ◌∷◌, length, Result, Ok, Err}
use Rattle.vt_key.specs.promise.Times.{Time, ticks_of, priority_of}
use Rattle.vt_model.specs.promise.Handler.{Handlers, StartResult, ForwardResult}
use Rattle.vt_model.specs.promise.Sends.{SendRequest, RecordRequest}
use Rattle.vt_guest.specs.declared.trap.TheConstants.{TRAP}
use Rattle.vt_guest.specs.declared.trap.Reason.{Reason}
use Rattle.vt_guest.specs.declared.calls.Handler.{Handler}
use Rattle.vt_guest.specs.declared.calls.Handler.TheVariants.{Start, Forward, Finish}
use Rattle.vt_guest.specs.declared.calls.Host.{Host}
use Rattle.vt_guest.specs.declared.process.Words.{Words}
use Rattle.vt_guest.specs.declared.process.Process.{Process}
use Rattle.vt_guest.specs.declared.guest.Program.{Program}
use Rattle.vt_guest.specs.declared.guest.Guest.{Guest}
use Rattle.vt_guest.specs.promise.Traps.{trap_value}
use Rattle.vt_guest.specs.promise.Calls.{Handling, register}
use Rattle.vt_guest.specs.promise.Handling.{Handled, begun, handled}

-- what a handler is told: `finish` isn't told the number of processes
abbrev pub host_of : Program → Handler → ℕ → ℕ → Host
host_of p handler lps priority = record { handler = handler; lps = lps; priority = priority; data_size = length p.code.input.items }

-- no words
abbrev pub no_words : Words
no_words = record { a = 0; b = 0 }

-- the event by which a trap in a start shows: at time (0, 1), at the process itself
abbrev pub alarm : ℕ → SendRequest Words
alarm lp = record { dest = lp; delay = 0; priority = 1; payload = no_words }

-- the final value of a process that failed, and where `finish` trapped
abbrev pub NO_VALUE : ℕ
NO_VALUE = 2 ^ 64 - 1

module _ {N : ℕ} where
  -- a start gives what its handler came to, and what it sent. If it trapped, the first state is marked, and the alarm is sent
  abbrev pub start_gives : ℕ → List ℕ → Result (Unit {0}) Reason → Handling N → List (SendRequest Words) → StartResult (Process N) Words
  start_gives lp first (Ok _) x sends = record {
    state = record { bytes = x.machine.state; failed = 0 };
    drawn = x.drawn;
    send_requests = sends;
  }
  start_gives lp first (Err why) x sends = record {
    state = record { bytes = first; failed = trap_value why x.machine.pc };
    drawn = x.drawn;
    send_requests = alarm lp ∷ [];
  }

  abbrev pub start_run : Guest N → ℕ → ℕ → (ℕ → ℕ) → Handled N
  start_run g lps lp words = handled g.program.code (host_of g.program Start lps 0) words g.program.fuel (begun g.program.start g.program.fuel lp 0 0 no_words g.first) [] []

  abbrev pub guest_start : Guest N → ℕ → ℕ → (ℕ → ℕ) → StartResult (Process N) Words
  guest_start g lps lp words =
      let run = start_run g lps lp words in
      start_gives lp g.first run.end run.handling run.sends

  -- an event that is a trap changes nothing, sends nothing, and makes one record
  abbrev pub trap_gives : Process N → ℕ → ℕ → ForwardResult (Process N) Words (Process N)
  trap_gives s drawn value = record {
    state = s;
    kept = s;
    bits = record { flags = 0 };
    drawn = drawn;
    send_requests = [];
    record_requests = record { kind = TRAP; value = value } ∷ [];
  }

  -- an event gives what its handler came to, sent and recorded
  abbrev pub event_gives : Process N → Result (Unit {0}) Reason → Handling N → List (SendRequest Words) → List RecordRequest → ForwardResult (Process N) Words (Process N)
  event_gives s (Ok _) x sends notes = record {
    state = record s { bytes = x.machine.state };
    kept = s;
    bits = record { flags = 0 };
    drawn = x.drawn;
    send_requests = sends;
    record_requests = notes;
  }
  event_gives s (Err why) x sends notes = trap_gives s x.drawn (trap_value why x.machine.pc)

  abbrev pub event_run : Guest N → ℕ → ℕ → Time → Words → Process N → (ℕ → ℕ) → Handled N
  event_run g lps lp now w s words =
      handled g.program.code (host_of g.program Forward lps (priority_of now)) words g.program.fuel (begun g.program.forward g.program.fuel lp (ticks_of now) (priority_of now) w s.bytes) [] []

  -- at a process that failed no code runs
  abbrev pub guest_forward : Guest N → ℕ → ℕ → Time → Words → Process N → (ℕ → ℕ) → ForwardResult (Process N) Words (Process N)
  guest_forward g lps lp now w s words =
      let run = event_run g lps lp now w s words in
      if nat_eq s.failed 0 then event_gives s run.end run.handling run.sends run.notes else trap_gives s 0 s.failed

  -- the final value is what `finish` leaves in a0
  abbrev pub value_of : Result (Unit {0}) Reason → Handling N → ℕ
  value_of (Ok _) x = register x 10
  value_of (Err why) x = NO_VALUE

  abbrev pub finish_run : Guest N → ℕ → Process N → Handled N
  finish_run g lp s = handled g.program.code (host_of g.program Finish 0 0) (λ i. 0) g.program.fuel (begun g.program.finish g.program.fuel lp 0 0 no_words s.bytes) [] []

  abbrev pub guest_finish : Guest N → ℕ → Process N → ℕ
  guest_finish g lp s =
      let run = finish_run g lp s in
      if nat_eq s.failed 0 then value_of run.end run.handling else NO_VALUE

  -- the four handlers. What is kept is the old state
  abbrev pub guest_handlers : Guest N → Handlers (Process N) Words (Process N)
  guest_handlers g = record {
    start = λ lps lp words. guest_start g lps lp words;
    forward = λ lps lp now w s words. guest_forward g lps lp now w s words;
    reverse = λ lp now w s bits kept. kept;
    finish = λ lp s. guest_finish g lp s;
  }
