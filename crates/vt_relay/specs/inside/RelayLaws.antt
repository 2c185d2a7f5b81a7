-- The laws of `Relay`.
use Rattle.std.proofs.Common.{◌≡◌, ℕ, ◌-◌, ◌<◌, ◌^◌, arith}
use Rattle.std.specs.Prelude.{nat_eq, slice_index_or}
use Rattle.std.proofs.Math.Nat.{mod-lt}
use Rattle.vt_model.specs.promise.Counts.{one_fewer}
use Rattle.vt_model.specs.inside.Counts.{fewer-more}
use Rattle.vt_model.specs.inside.Handler.{IsSendable, AreWords}
use Rattle.vt_model.specs.inside.Within.{IsStartWithin, IsEventWithin, none_few, one_few, either_few, few_within}
use Rattle.vt_relay.specs.declared.relay.Relay.{Relay}
use Rattle.vt_relay.specs.inside.Relay.{next_of, relay_start, relay_forward, token}

-- a token goes to a known process, and later
token_ok : (m : Relay) (lps now dest hops : ℕ) → dest < lps → IsSendable lps now (token m dest hops)
token_ok m lps now dest hops known = record { known = known; some_priority = omega arith; later = omega (arith, m.some_delay) }

pub start_within : (m : Relay) (lps lp : ℕ) (words : ℕ → ℕ) → lp < lps → AreWords words → IsStartWithin lps (relay_start m lp)
start_within m lps lp words known w = few_within (one_few (token_ok m lps 0 lp m.hops known) (omega arith)) (omega arith) (omega arith)

pub forward_within : (m : Relay) (lps lp now p s : ℕ) (words : ℕ → ℕ) → lp < lps → AreWords words → IsEventWithin lps now (relay_forward m lps lp p s)
forward_within m lps lp now p s words known w =
    few_within (either_few (nat_eq p 0) none_few (one_few (token_ok m lps now (next_of m lps lp) (p - 1) (mod-lt (slice_index_or m.next.items lp 0) (omega (arith, known)))) (omega arith))) (omega arith) (omega arith)

pub start_state : (m : Relay) (lps lp : ℕ) (words : ℕ → ℕ) → (relay_start m lp).state < 2 ^ 64
start_state m lps lp words = omega arith

pub forward_state : (m : Relay) (lps lp now p s : ℕ) (words : ℕ → ℕ) → s < 2 ^ 64 → (relay_forward m lps lp p s).state < 2 ^ 64
forward_state m lps lp now p s words fits = omega arith

pub undoes : (m : Relay) (lps lp now p s : ℕ) (words : ℕ → ℕ) → s < 2 ^ 64 → one_fewer (relay_forward m lps lp p s).state ≡ s
undoes m lps lp now p s words fits = fewer-more s fits
