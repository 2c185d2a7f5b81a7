-- What requests bring is sent, or would come at or past the end.
use Rattle.std.proofs.Common.{◌≡◌, ℕ, ◌+◌, inl, inr, List, [], ◌∷◌, Bool, true, false, filter, map, if◌then◌else◌, sum_by, refl, ap, ◌∙◌, arith}
use Rattle.std.specs.List.{enumerate_from}
use Rattle.std.proofs.lemmas.List.Sums.{sum_by-cons}
use Rattle.std.proofs.lemmas.Bool.{cases_Bool}
use Rattle.vt_key.specs.promise.Times.{Time, time_before}
use Rattle.vt_model.specs.declared.sending.Sent.{Sent}
use Rattle.vt_model.specs.promise.Sends.{SendRequest, receive_time, sent_event, sent_events}

module _ {P : Type 0} (end lp : ℕ) (now : Time) where
  -- of the first request and those after it
  sent-cons : (n : ℕ) (r : SendRequest P) (rs : List (SendRequest P))
      → sent_events end lp now n (r ∷ rs) ≡ (if time_before (receive_time now r) end then (sent_event lp now (n, r) ∷ sent_events end lp now (n + 1) rs) else sent_events end lp now (n + 1) rs)
  unfolding sent_events
  sent-cons n r rs =
      let later = filter (λ (q : ℕ × SendRequest P). time_before (receive_time now q.1) end) (enumerate_from (n + 1) rs) in
      elim (time_before (receive_time now r) end) as (λ b. map (sent_event lp now) (if b then ((n, r) ∷ later) else later) ≡ (if b then (sent_event lp now (n, r) ∷ map (sent_event lp now) later) else map (sent_event lp now) later))
      [ true ↦ refl | false ↦ refl ]

  sent-nil : (n : ℕ) → sent_events {P = P} end lp now n [] ≡ []
  unfolding sent_events
  sent-nil n = refl

module _ {P : Type 0} (brought : P → ℕ) (end lp : ℕ) (now : Time) where
  -- what a request brings
  abbrev by_request : SendRequest P → ℕ
  by_request r = brought r.payload

  -- what a sent event brings
  abbrev by_event : Sent P → ℕ
  by_event e = brought e.payload

  -- what a request would bring at or past the end
  abbrev past_end : SendRequest P → ℕ
  past_end r = if time_before (receive_time now r) end then 0 else brought r.payload

  -- all that requests bring is sent, or would come at or past the end
  pub sent_or_past : (n : ℕ) (rs : List (SendRequest P)) → sum_by by_event (sent_events end lp now n rs) + sum_by past_end rs ≡ sum_by by_request rs
  sent_or_past n [] = ap (λ (es : List (Sent P)). sum_by by_event es + 0) (sent-nil end lp now n)
  sent_or_past n (r ∷ rs) =
      let rest = sent_or_past (n + 1) rs in
      let later = sent_events end lp now (n + 1) rs in
      ap (λ (es : List (Sent P)). sum_by by_event es + sum_by past_end (r ∷ rs)) (sent-cons end lp now n r rs)
      ∙ elim (cases_Bool (time_before (receive_time now r) end)) [
        | inl soon ↦
            ap (λ (b : Bool). sum_by by_event (if b then (sent_event lp now (n, r) ∷ later) else later) + sum_by past_end (r ∷ rs)) soon
            ∙ omega (arith, rest, sum_by-cons by_event (sent_event lp now (n, r)) later, sum_by-cons past_end r rs, sum_by-cons by_request r rs, ap (λ (b : Bool). (if b then 0 else brought r.payload)) soon)
        | inr late ↦
            ap (λ (b : Bool). sum_by by_event (if b then (sent_event lp now (n, r) ∷ later) else later) + sum_by past_end (r ∷ rs)) late
            ∙ omega (arith, rest, sum_by-cons past_end r rs, sum_by-cons by_request r rs, ap (λ (b : Bool). (if b then 0 else brought r.payload)) late)
      ]
