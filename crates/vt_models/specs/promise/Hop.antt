-- What the handlers of `Hop` give.
use Rattle.std.specs.Prelude.{ℕ, ◌+◌, ◌-◌, ◌%◌, ◌^◌, List, [], ◌∷◌, Option, Some, None, ◌&&◌, bit_xor, nat_eq, nat_lt, if◌then◌else◌}
use Rattle.std.specs.Int.{w64, rotate_left, rotate_right}
use Rattle.vt_key.specs.promise.Times.{Time, priority_of}
use Rattle.vt_model.specs.promise.Handler.{Handlers, StartResult, ForwardResult}
use Rattle.vt_model.specs.promise.Sends.{SendRequest}
use Rattle.vt_models.specs.declared.hop.Hop.{Hop}
use Rattle.vt_models.specs.declared.hop.Token.{Token}

-- the sum after a token of this tag: turned left by 8 bits, with the tag mixed in
abbrev pub mixed : ℕ → ℕ → ℕ
mixed acc tag = bit_xor (rotate_left w64 acc 8) (tag % 2 ^ 32)

-- the priority with which a token that arrives at a time goes on in the same tick, where it does: the present one and the
-- rise, which is some, up to the last priority of a tick
abbrev pub risen : Hop → Time → Option ℕ
risen m now =
    if nat_lt 0 m.rise && nat_lt (priority_of now + m.rise) 256 then Some (priority_of now + m.rise)
    else None

-- the token sent on, after this delay and with this priority
abbrev pub passed_on : Hop → ℕ → ℕ → Token → ℕ → ℕ → SendRequest Token
passed_on m lps lp p delay priority =
    record { dest = (lp + m.stride) % lps; delay = delay; priority = priority; payload = record { tag = p.tag; left = p.left - 1 } }

-- it goes on in the same tick with a priority that has risen, or else after the model's delay with priority 0
abbrev pub onward : Hop → ℕ → ℕ → Token → Option ℕ → SendRequest Token
onward m lps lp p (Some priority) = passed_on m lps lp p 0 priority
onward m lps lp p None = passed_on m lps lp p m.delay 0

-- the token's next hop, if it has one left
abbrev pub next_hop : Hop → ℕ → ℕ → Time → Token → List (SendRequest Token)
next_hop m lps lp now p =
    if nat_eq p.left 0 then []
    else (onward m lps lp p (risen m now) ∷ [])

-- the first token of a process
abbrev pub first_token : Hop → ℕ → SendRequest Token
first_token m lp = record { dest = lp; delay = lp + 1; priority = 0; payload = record { tag = lp + 1; left = m.hops } }

-- the four handlers
abbrev pub hop_start : Hop → ℕ → StartResult ℕ Token
hop_start m lp = record {
  state = 0;
  drawn = 0;
  send_requests = first_token m lp ∷ [];
}

abbrev pub hop_forward : Hop → ℕ → ℕ → Time → Token → ℕ → ForwardResult ℕ Token (Unit {0})
hop_forward m lps lp now p s = record {
  state = mixed s p.tag;
  kept = tt;
  bits = record { flags = 0 };
  drawn = 0;
  send_requests = next_hop m lps lp now p;
  record_requests = record { kind = 1; value = mixed s p.tag } ∷ [];
}

abbrev pub hop_reverse : Token → ℕ → ℕ
hop_reverse p s = rotate_right w64 (bit_xor s (p.tag % 2 ^ 32)) 8

abbrev pub hop_handlers : Hop → Handlers ℕ Token (Unit {0})
hop_handlers m = record {
  start = λ lps lp words. hop_start m lp;
  forward = λ lps lp now p s words. hop_forward m lps lp now p s;
  reverse = λ lp now p s bits kept. hop_reverse p s;
  finish = λ lp s. s;
}
