-- What the handlers of `Relay` give.
use Rattle.std.specs.Prelude.{ℕ, ◌-◌, ◌%◌, List, [], ◌∷◌, nat_eq, if◌then◌else◌, slice_index_or}
use Rattle.vt_model.specs.promise.Handler.{Handlers, StartResult, ForwardResult}
use Rattle.vt_model.specs.promise.Counts.{one_more, one_fewer}
use Rattle.vt_model.specs.promise.Sends.{SendRequest}
use Rattle.vt_relay.specs.declared.relay.Relay.{Relay}
use Rattle.vt_relay.specs.declared.relay.TheConstants.{CAME}

-- the next process
abbrev pub next_of : Relay → ℕ → ℕ → ℕ
next_of m lps lp = slice_index_or m.next.items lp 0 % lps

-- a token on its way
abbrev pub token : Relay → ℕ → ℕ → SendRequest ℕ
token m dest hops = record { dest = dest; delay = m.delay; priority = 0; payload = hops }

-- one that may still be passed on goes to the next process
abbrev pub passed : Relay → ℕ → ℕ → ℕ → List (SendRequest ℕ)
passed m lps lp hops = if nat_eq hops 0 then [] else token m (next_of m lps lp) (hops - 1) ∷ []

-- a process begins with a token of its own
abbrev pub relay_start : Relay → ℕ → StartResult ℕ ℕ
relay_start m lp = record {
  state = 0;
  drawn = 0;
  send_requests = token m lp m.hops ∷ [];
}

-- a token is counted, recorded and passed on
abbrev pub relay_forward : Relay → ℕ → ℕ → ℕ → ℕ → ForwardResult ℕ ℕ (Unit {0})
relay_forward m lps lp hops s = record {
  state = one_more s;
  kept = tt;
  bits = record { flags = 0 };
  drawn = 0;
  send_requests = passed m lps lp hops;
  record_requests = record { kind = CAME; value = one_more s } ∷ [];
}

-- the four handlers
abbrev pub relay_handlers : Relay → Handlers ℕ ℕ (Unit {0})
relay_handlers m = record {
  start = λ lps lp words. relay_start m lp;
  forward = λ lps lp now p s words. relay_forward m lps lp p s;
  reverse = λ lp now p s bits kept. one_fewer s;
  finish = λ lp s. s;
}
