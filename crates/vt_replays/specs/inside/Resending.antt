-- A small simulation in which a process that executes an event anew sends later than before, and a replay of it: the least time
-- of all is that of an anti-message that waits.
use Rattle.std.specs.Prelude.{ℕ, ◌+◌, List, [], ◌∷◌, if◌then◌else◌, nat_eq}
use Rattle.vt_key.specs.promise.Times.{Time}
use Rattle.vt_model.specs.declared.sending.Sent.{Sent}
use Rattle.vt_model.specs.promise.Simulation.{Simulation, Triple, Fired}
use Rattle.vt_steps.specs.declared.step.Step.TheVariants.{Execute, Undo, Cancel, Home, Send, Fetch, Accept, Cut, Report}
use Rattle.vt_steps.specs.declared.step.Reply.TheVariants.{Waiting, Announced}
use Rattle.vt_steps.specs.inside.Marked.{Answered}
use Rattle.vt_replays.specs.inside.Replays.{Shown, tick, ok, replies, stamp}

-- a send of a process with this number, to a process, which tells by its payload what to do
abbrev pub send_of : ℕ → ℕ → Time → ℕ → ℕ → Sent ℕ
send_of p number time dest payload = record { key = record { time = time; source = p; number = number }; dest = dest; payload = payload }

-- the process stands as before, but for its next send number, and sends this
abbrev pub sending : Triple ℕ → Sent ℕ → Fired ℕ ℕ
sending t send = record { triple = record t { number = t.number + 1 }; sends = send ∷ []; rows = [] }

-- the process stands here, and sends nothing
abbrev pub standing : Triple ℕ → Fired ℕ ℕ
standing t = record { triple = t; sends = []; rows = [] }

-- process 0 begins at 1 and then sends to process 1 for 2. Process 1 begins at 3 and then sends to process 0: one tick later
-- if nothing came to it before, and ten ticks later else
abbrev pub resending : Simulation ℕ ℕ
resending = record {
  lps = 2;
  workers = 2;
  end = tick 20;
  start = λ p. sending (record { state = 0; number = 0; place = 0 }) (send_of p 0 (tick (if nat_eq p 0 then 1 else 3)) p 0);
  fire = λ p t e.
      if nat_eq e.payload 0
      then sending t (send_of p t.number (e.key.time + tick (if nat_eq t.state 0 then 1 else 10)) (if nat_eq p 0 then 1 else 0) 1)
      else standing (record t { state = t.state + 1 });
  finish = λ p state. state;
}

-- process 0 has executed the event for 4 that process 1 sent at first, when the anti-message comes, with the event for 13 that
-- process 1 sent anew. Nothing else is before 13, but the anti-message waits: so 4 is announced. The event is undone then, and
-- the two annihilate
abbrev pub waiting_least : List Answered
waiting_least =
    ok (Home 0) ∷ ok (Home 1) ∷ ok (Execute 1) ∷ ok (Send 1 0) ∷ ok (Fetch 0) ∷ ok (Accept 0 0) ∷ ok (Execute 0) ∷ ok (Execute 0)
    ∷ ok (Send 0 1) ∷ ok (Fetch 1) ∷ ok (Accept 1 0) ∷ ok (Undo 1) ∷ ok (Execute 1) ∷ ok (Execute 1)
    ∷ ok (Send 1 0) ∷ ok (Fetch 0) ∷ ok (Accept 0 0) ∷ ok (Accept 0 0)
    ∷ ok (Cut 0) ∷ ok (Cut 1) ∷ replies (Report 0) Waiting ∷ replies (Report 1) (Announced (tick 4))
    ∷ ok (Undo 0) ∷ ok (Cancel 0 (stamp 1 1)) ∷ []

-- the event for 13 is left
abbrev pub waiting_least_shown : Shown
waiting_least_shown = record { announced = tick 4; floor = tick 0; least = tick 13; records = [] }
