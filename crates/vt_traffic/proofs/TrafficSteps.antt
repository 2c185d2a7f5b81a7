-- Steps of `Traffic`'s handlers.
use Rattle.std.proofs.Common.{◌≡◌, ℕ, [], ◌∷◌, ◌++◌, refl, ap, ◌∙◌, Option, Some, None, append-nil}
use Rattle.vt_model.specs.promise.Sends.{RecordRequest}
use Rattle.vt_model.specs.inside.Sends.{Outgoing, with_requests}
use Rattle.vt_model.proofs.SendLemmas.{with_requests-append}
use Rattle.vt_traffic.specs.declared.grid.Traffic.{Traffic}
use Rattle.vt_traffic.specs.declared.junction.TheConstants.{WAITING}
use Rattle.vt_traffic.specs.declared.junction.Junction.{Junction}
use Rattle.vt_traffic.specs.declared.junction.JunctionEvent.{JunctionEvent}
use Rattle.vt_traffic.specs.inside.Junction.{waiting, entered, entry}
use Rattle.vt_traffic.specs.inside.Traffic.{after_event, own_sends, own_records, traffic_forward}

-- no road is what a crossing has where no car crosses
pub none_left : {X : Type 0} (k : Option X) → ((x : X) → k ≡ Some x → ⊥) → k ≡ None
none_left None never = refl
none_left (Some x) never = absurd (never x refl)

module _ (m : Traffic) (lps lp : ℕ) (p : JunctionEvent) (j : Junction) (words : ℕ → ℕ) where
  -- an out after what an event asks for itself
  abbrev pub with_own : Outgoing JunctionEvent → Outgoing JunctionEvent
  with_own o = with_requests o (own_sends m lps lp p j.crossing words) (own_records p j.crossing (after_event p j))

  -- the record of how many cars wait in the end
  abbrev pub waits : RecordRequest
  waits = record { kind = WAITING; value = waiting (entered (after_event p j)) }

  -- what an event asks for itself, what a car that enters does, and the record of those that wait
  pub all_asked : (o a b d : Outgoing JunctionEvent) → a ≡ with_own o → b ≡ with_requests a (entry lp (after_event p j)) [] → d ≡ with_requests b [] (waits ∷ [])
      → d ≡ with_requests o (traffic_forward m lps lp p j words).send_requests (traffic_forward m lps lp p j words).record_requests
  all_asked o a b d own enters recorded =
      let sends = own_sends m lps lp p j.crossing words in
      let more = entry lp (after_event p j) in
      let records = own_records p j.crossing (after_event p j) in
      let then : b ≡ with_requests o (sends ++ more) (records ++ []) = enters ∙ ap (λ (w : Outgoing JunctionEvent). with_requests w more []) own ∙ with_requests-append o sends more records [] in
      recorded ∙ ap (λ (w : Outgoing JunctionEvent). with_requests w [] (waits ∷ [])) then ∙ with_requests-append o (sends ++ more) [] (records ++ []) (waits ∷ [])
      ∙ (λ i. with_requests o (append-nil (sends ++ more) i) (append-nil records i ++ waits ∷ []))
