-- What the handlers of `Rumour` give.
use Rattle.std.specs.Prelude.{ℕ, ◌-◌, List, [], ◌∷◌, take, nat_eq, if◌then◌else◌}
use Rattle.vt_model.specs.promise.Handler.{Handlers, StartResult, ForwardResult}
use Rattle.vt_model.specs.promise.Counts.{one_more, one_fewer}
use Rattle.vt_model.specs.promise.Sends.{SendRequest}
use Rattle.vt_parts.specs.inside.Sending.{entry_sends}
use Rattle.vt_rumour.specs.declared.Rumour.{Rumour}
use Rattle.vt_rumour.specs.declared.TheConstants.{FRIENDS, TRAVEL, ROUNDS, HEARD}

-- a rumour that may be passed on goes to the friends
abbrev pub told : Rumour → ℕ → ℕ → List (SendRequest ℕ)
told m lps rounds = if nat_eq rounds 0 then [] else entry_sends lps TRAVEL 0 (rounds - 1) (take FRIENDS m.friends.items)

-- a process begins with a rumour of its own
abbrev pub rumour_start : ℕ → StartResult ℕ ℕ
rumour_start lp = record {
  state = 0;
  drawn = 0;
  send_requests = record { dest = lp; delay = 1; priority = 0; payload = ROUNDS } ∷ [];
}

-- a rumour is counted, recorded and passed on
abbrev pub rumour_forward : Rumour → ℕ → ℕ → ℕ → ForwardResult ℕ ℕ (Unit {0})
rumour_forward m lps rounds s = record {
  state = one_more s;
  kept = tt;
  bits = record { flags = 0 };
  drawn = 0;
  send_requests = told m lps rounds;
  record_requests = record { kind = HEARD; value = one_more s } ∷ [];
}

-- the four handlers
abbrev pub rumour_handlers : Rumour → Handlers ℕ ℕ (Unit {0})
rumour_handlers m = record {
  start = λ lps lp words. rumour_start lp;
  forward = λ lps lp now p s words. rumour_forward m lps p s;
  reverse = λ lp now p s bits kept. one_fewer s;
  finish = λ lp s. s;
}
