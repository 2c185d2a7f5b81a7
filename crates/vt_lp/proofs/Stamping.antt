-- Letters of sends: of one more, how many, and for whom.
use Rattle.std.proofs.Common.{◌≡◌, ℕ, ◌+◌, ◌<◌, List, [], ◌∷◌, ◌++◌, map, length, inl, inr, refl, ap, ◌∙◌, arith}
use Rattle.std.specs.List.{All}
use Rattle.std.proofs.lemmas.List.{map-append}
use Rattle.std.proofs.lemmas.List.Elements.{All-nil, All-cons}
use Rattle.vt_key.specs.promise.Times.{Time, TimeBefore}
use Rattle.vt_key.specs.declared.letter.Event.{Event}
use Rattle.vt_key.specs.declared.letter.Letter.{Letter}
use Rattle.vt_key.specs.declared.letter.Sign.{Sign}
use Rattle.vt_key.specs.promise.Lists.{Among}
use Rattle.vt_model.specs.declared.sending.Sent.{Sent}
use Rattle.vt_steps.specs.promise.Letters.{unstamped, stamped, signed}
use Rattle.vt_lp.specs.inside.Held.{IsWithinRun}

module _ {P : Type 0} where
  -- the event of a send that is made as this one of a worker's
  abbrev pub event_of : ℕ → ℕ → Sent P → Event P
  event_of w serial send = record {
    rank = record { key = send.key; stamp = record { worker = w; serial = serial } };
    dest = send.dest;
    payload = send.payload;
  }

  stamped-more : (w serial at : ℕ) (sends : List (Sent P)) (send : Sent P) → at ≡ serial + length sends →
      stamped w serial (sends ++ send ∷ []) ≡ stamped w serial sends ++ event_of w at send ∷ []
  stamped-more w serial at [] send e =
      let k : serial ≡ at = omega (arith, e) in
      ap (λ (n : ℕ). event_of w n send ∷ []) k
  stamped-more w serial at (x ∷ xs) send e =
      ap (λ (ys : List (Event P)). event_of w serial x ∷ ys) (stamped-more w (serial + 1) at xs send (omega (arith, e)))

  pub letters-more : (sign : Sign) (w serial at : ℕ) (sends : List (Sent P)) (send : Sent P) → at ≡ serial + length sends →
      map (signed sign) (stamped w serial (sends ++ send ∷ [])) ≡ map (signed sign) (stamped w serial sends) ++ signed sign (event_of w at send) ∷ []
  letters-more sign w serial at sends send e =
      ap (map (signed sign)) (stamped-more w serial at sends send e)
      ∙ map-append (signed sign) (stamped w serial sends) (event_of w at send ∷ [])

  pub length-letters : (sign : Sign) (w serial : ℕ) (sends : List (Sent P)) → length (map (signed sign) (stamped w serial sends)) ≡ length sends
  length-letters sign w serial [] = refl
  length-letters sign w serial (x ∷ xs) = let rest = length-letters sign w (serial + 1) xs in omega (arith, rest)

  -- what holds of the letter of each send holds of them all
  pub letters-all : (Q : Letter P → Type 0) (sign : Sign) (w serial : ℕ) (sends : List (Sent P)) →
      ((e : Event P) → Among (unstamped e) sends → Q (signed sign e)) → All Q (map (signed sign) (stamped w serial sends))
  letters-all Q sign w serial [] each = All-nil Q
  letters-all Q sign w serial (x ∷ xs) each =
      All-cons Q (signed sign (event_of w serial x)) (map (signed sign) (stamped w (serial + 1) xs)) (each (event_of w serial x) (inl refl))
      (letters-all Q sign w (serial + 1) xs (λ e m. each e (inr m)))

  -- letters of sends to known processes, below the end
  pub letters-within : (lps : ℕ) (end : Time) (sign : Sign) (w serial : ℕ) (sends : List (Sent P)) →
      ((d : Sent P) → Among d sends → d.dest < lps) → ((d : Sent P) → Among d sends → TimeBefore d.key.time end) →
      All (IsWithinRun lps end) (map (signed sign) (stamped w serial sends))
  letters-within lps end sign w serial sends known soon =
      letters-all (IsWithinRun lps end) sign w serial sends (λ e m. record { known = known (unstamped e) m; soon = soon (unstamped e) m })
