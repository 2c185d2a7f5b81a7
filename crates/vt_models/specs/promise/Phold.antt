-- What the handlers of `Phold` give.
use Rattle.std.specs.Prelude.{ℕ, ◌+◌, ◌^◌, List, [], ◌∷◌, Bool, nat_lt, map, if◌then◌else◌}
use Rattle.std.specs.List.{range_with_len}
use Rattle.vt_model.specs.promise.Handler.{Handlers, StartResult, ForwardResult}
use Rattle.vt_model.specs.promise.Counts.{one_more, one_fewer}
use Rattle.vt_model.specs.promise.Sends.{SendRequest}
use Rattle.vt_models.specs.declared.phold.Phold.{Phold}
use Rattle.vt_models.specs.declared.phold.TheConstants.{PERCENT, REMOTE}
use Rattle.vt_stream.specs.promise.Drawn.{scaled}

-- an event that is scheduled at a process, for which this word was drawn: it is received after the lookahead and a number
-- below the span
abbrev pub scheduled : Phold → ℕ → ℕ → SendRequest (Unit {0})
scheduled m dest w = record { dest = dest; delay = m.lookahead + scaled w m.span; priority = 0; payload = tt }

-- the first events of a process, at the process itself, a word for each
abbrev pub first_events : Phold → ℕ → (ℕ → ℕ) → ℕ → List (SendRequest (Unit {0}))
first_events m lp words n = map (λ i. scheduled m lp (words i)) (range_with_len 0 n)

-- a process starts at count 0 with as many events as the population says
abbrev pub phold_start : Phold → ℕ → (ℕ → ℕ) → StartResult ℕ (Unit {0})
phold_start m lp words = record {
  state = 0;
  drawn = m.population;
  send_requests = first_events m lp words m.population;
}

-- the first word decides whether the next event goes to a process that is drawn
abbrev pub is_remote : Phold → ℕ → Bool
is_remote m w = nat_lt (scaled w PERCENT) m.remote

-- the next event goes to the process that the second word names, after what the third says
abbrev pub forward_remote : Phold → ℕ → ℕ → (ℕ → ℕ) → ForwardResult ℕ (Unit {0}) (Unit {0})
forward_remote m lps s words = record {
  state = one_more s;
  kept = tt;
  bits = record { flags = 2 ^ REMOTE };
  drawn = 3;
  send_requests = scheduled m (scaled (words 1) lps) (words 2) ∷ [];
  record_requests = record { kind = 2; value = one_more s } ∷ [];
}

-- the next event stays at this process, after what the second word says
abbrev pub forward_local : Phold → ℕ → ℕ → (ℕ → ℕ) → ForwardResult ℕ (Unit {0}) (Unit {0})
forward_local m lp s words = record {
  state = one_more s;
  kept = tt;
  bits = record { flags = 0 };
  drawn = 2;
  send_requests = scheduled m lp (words 1) ∷ [];
  record_requests = record { kind = 2; value = one_more s } ∷ [];
}

-- an event schedules the next one, near or far, and is counted
abbrev pub phold_forward : Phold → ℕ → ℕ → ℕ → (ℕ → ℕ) → ForwardResult ℕ (Unit {0}) (Unit {0})
phold_forward m lps lp s words =
    if is_remote m (words 0) then forward_remote m lps s words
    else forward_local m lp s words

-- the four handlers
abbrev pub phold_handlers : Phold → Handlers ℕ (Unit {0}) (Unit {0})
phold_handlers m = record {
  start = λ lps lp words. phold_start m lp words;
  forward = λ lps lp now p s words. phold_forward m lps lp s words;
  reverse = λ lp now p s bits kept. one_fewer s;
  finish = λ lp s. s;
}
