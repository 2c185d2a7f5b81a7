-- Steps of `Phold`'s handlers.
use Rattle.std.proofs.Common.{◌≡◌, ℕ, ◌+◌, ◌<◌, ◌≤◌, [], ◌∷◌, Bool, sym, ap, ◌∙◌, if◌then◌else◌}
use Rattle.std.proofs.lemmas.Bool.{lt-ltb, le-ltb}
use Rattle.vt_model.specs.promise.Handler.{ForwardResult}
use Rattle.vt_model.specs.inside.Sends.{Outgoing, with_requests}
use Rattle.vt_model.specs.promise.Counts.{one_more}
use Rattle.vt_models.specs.declared.phold.Phold.{Phold}
use Rattle.vt_models.specs.declared.phold.TheConstants.{PERCENT}
use Rattle.vt_stream.specs.promise.Drawn.{scaled}
use Rattle.vt_models.specs.promise.Phold.{phold_forward, forward_remote, forward_local}

module _ (m : Phold) (lps lp s : ℕ) (words : ℕ → ℕ) where
  -- an out after one scheduled and the record of the count
  abbrev pub with_event : Outgoing (Unit {0}) → ℕ → ℕ → Outgoing (Unit {0})
  with_event o dest delay =
      with_requests o (record { dest = dest; delay = delay; priority = 0; payload = tt } ∷ []) (record { kind = 2; value = one_more s } ∷ [])

  -- an out after what an event gives
  abbrev with_result : Outgoing (Unit {0}) → ForwardResult ℕ (Unit {0}) (Unit {0}) → Outgoing (Unit {0})
  with_result o f = with_requests o f.send_requests f.record_requests

  -- a coin below the remote share sends the next event to a drawn process
  pub goes_far : (o : Outgoing (Unit {0})) (dest delay : ℕ) → scaled (words 0) PERCENT < m.remote → dest ≡ scaled (words 1) lps → delay ≡ m.lookahead + scaled (words 2) m.span
      → with_event o dest delay ≡ with_requests o (phold_forward m lps lp s words).send_requests (phold_forward m lps lp s words).record_requests
  goes_far o dest delay low to after =
      let way = ap (λ (b : Bool). (if b then forward_remote m lps s words else forward_local m lp s words)) (lt-ltb (scaled (words 0) PERCENT) m.remote low) in
      (λ j. with_event o (to j) (after j)) ∙ ap (with_result o) (sym way)

  -- another coin leaves it at its process
  pub stays_near : (o : Outgoing (Unit {0})) (dest delay : ℕ) → m.remote ≤ scaled (words 0) PERCENT → dest ≡ lp → delay ≡ m.lookahead + scaled (words 1) m.span
      → with_event o dest delay ≡ with_requests o (phold_forward m lps lp s words).send_requests (phold_forward m lps lp s words).record_requests
  stays_near o dest delay high to after =
      let way = ap (λ (b : Bool). (if b then forward_remote m lps s words else forward_local m lp s words)) (le-ltb (scaled (words 0) PERCENT) m.remote high) in
      (λ j. with_event o (to j) (after j)) ∙ ap (with_result o) (sym way)
