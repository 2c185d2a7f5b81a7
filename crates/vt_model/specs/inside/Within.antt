-- What the laws of a model say and cite to show that its handlers keep their limits.
use Rattle.std.specs.Prelude.{ℕ, ◌+◌, ◌≤◌, List, [], ◌∷◌, ◌++◌, length, All, Bool, true, false, if◌then◌else◌}
use Rattle.std.proofs.Common.{arith}
use Rattle.std.proofs.lemmas.List.{length-append}
use Rattle.std.proofs.lemmas.List.Elements.{All-nil, All-cons, All-append}
use Rattle.vt_key.specs.promise.Times.{Time}
use Rattle.vt_model.specs.promise.Handler.{StartResult, ForwardResult}
use Rattle.vt_model.specs.inside.Handler.{IsSendable, IsWithinLimits}
use Rattle.vt_model.specs.promise.Sends.{SendRequest, RecordRequest}
use Rattle.vt_model.specs.declared.limits.TheConstants.{MAX_DRAWS, MAX_SENDS, MAX_RECORDS}

-- at most so many requests, each of which is sendable
pub record AreFew {P : Type 0} (lps : ℕ) (now : Time) (most : ℕ) (requests : List (SendRequest P)) : Type 0 where
  pub few : length requests ≤ most
  pub sendable : All (IsSendable lps now) requests

-- what a start gives is within the limits
abbrev pub IsStartWithin : {S P : Type 0} → ℕ → StartResult S P → Type 0
IsStartWithin lps gives = IsWithinLimits lps 0 gives.drawn gives.send_requests []

-- what an event gives is within the limits
abbrev pub IsEventWithin : {S P K : Type 0} → ℕ → Time → ForwardResult S P K → Type 0
IsEventWithin lps now gives = IsWithinLimits lps now gives.drawn gives.send_requests gives.record_requests

-- no requests are few, whatever is the most
pub none_few : {P : Type 0} {lps now most : ℕ} → AreFew {P = P} lps now most []
none_few {lps} {now} = record { few = omega arith; sendable = All-nil (IsSendable lps now) }

-- one request is, if it is sendable
pub one_few : {P : Type 0} {lps now most : ℕ} {x : SendRequest P} → IsSendable lps now x → 1 ≤ most → AreFew lps now most (x ∷ [])
one_few {lps} {now} {x} ok some = record { few = omega (arith, some); sendable = All-cons (IsSendable lps now) x [] ok (All-nil (IsSendable lps now)) }

-- requests and then others are, if both together aren't too many
pub both_few : {P : Type 0} {lps now n m most : ℕ} {xs ys : List (SendRequest P)} → AreFew lps now n xs → AreFew lps now m ys → n + m ≤ most → AreFew lps now most (xs ++ ys)
both_few {lps} {now} {xs} {ys} these those fits = record {
  few = simp length-append (omega (arith, these.few, those.few, fits));
  sendable = All-append (IsSendable lps now) xs ys these.sendable those.sendable;
}

-- two requests are, if both are sendable
pub two_few : {P : Type 0} {lps now most : ℕ} {x y : SendRequest P} → IsSendable lps now x → IsSendable lps now y → 2 ≤ most → AreFew lps now most (x ∷ y ∷ [])
two_few {lps} {now} {x} {y} ok too two = both_few (one_few {most = 1} ok (omega arith)) (one_few {most = 1} too (omega arith)) (omega (arith, two))

-- the requests that a test chooses are, if those of either case are
pub either_few : {P : Type 0} {lps now most : ℕ} {xs ys : List (SendRequest P)} (b : Bool) → AreFew lps now most xs → AreFew lps now most ys → AreFew lps now most (if b then xs else ys)
either_few true these those = these
either_few false these those = those

-- a handler is within its limits if it draws few words, and if its sends and its records are few
pub few_within : {P : Type 0} {lps now drawn : ℕ} {requests : List (SendRequest P)} {records : List RecordRequest}
    → AreFew lps now MAX_SENDS requests → drawn ≤ MAX_DRAWS → length records ≤ MAX_RECORDS → IsWithinLimits lps now drawn requests records
few_within sends words records = record { few_words = words; few_sends = sends.few; few_records = records; sendable = sends.sendable }
