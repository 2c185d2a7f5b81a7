-- How what a handler asks for adds up.
use Rattle.std.proofs.Common.{◌≡◌, ℕ, ◌+◌, ◌∙◌, List, [], ◌∷◌, ◌++◌, length, ap, add-zero, append-nil, length-append}
use Rattle.std.proofs.lemmas.List.{length-map}
use Rattle.vt_model.specs.promise.Sends.{SendRequest, RecordRequest, sent_events, requested_records}
use Rattle.vt_model.specs.inside.Sends.{Outgoing, with_requests}
use Rattle.vt_model.proofs.SendLemmas.{with_requests-append}

-- a record and then a send
pub recorded_then_sent : {P : Type 0} (o a b : Outgoing P) (x : SendRequest P) (n : RecordRequest) → a ≡ with_requests o [] (n ∷ []) → b ≡ with_requests a (x ∷ []) [] → b ≡ with_requests o (x ∷ []) (n ∷ [])
recorded_then_sent o a b x n recorded sent = sent ∙ ap (λ (w : Outgoing _). with_requests w (x ∷ []) []) recorded ∙ with_requests-append o [] (x ∷ []) (n ∷ []) []

-- asking for nothing changes nothing
pub no_requests : {P : Type 0} (o : Outgoing P) → o ≡ with_requests o [] []
unfolding sent_events requested_records
no_requests o = simp (add-zero, append-nil)

-- one send more
pub sent_after : {P : Type 0} (o a b : Outgoing P) (xs : List (SendRequest P)) (ns : List RecordRequest) (x : SendRequest P) → a ≡ with_requests o xs ns → b ≡ with_requests a (x ∷ []) [] → b ≡ with_requests o (xs ++ x ∷ []) ns
sent_after o a b xs ns x before sent =
    sent ∙ ap (λ (w : Outgoing _). with_requests w (x ∷ []) []) before ∙ with_requests-append o xs (x ∷ []) ns [] ∙ ap (with_requests o (xs ++ x ∷ [])) (append-nil ns)

-- one send and then others
pub sent_then : {P : Type 0} (o a b : Outgoing P) (x : SendRequest P) (xs : List (SendRequest P)) → a ≡ with_requests o (x ∷ []) [] → b ≡ with_requests a xs [] → b ≡ with_requests o (x ∷ xs) []
sent_then o a b x xs sent more = more ∙ ap (λ (w : Outgoing _). with_requests w xs []) sent ∙ with_requests-append o (x ∷ []) xs [] []

-- a record, then some sends, then others
pub recorded_then_both : {P : Type 0} (o a b d : Outgoing P) (n : RecordRequest) (xs ys : List (SendRequest P))
    → a ≡ with_requests o [] (n ∷ []) → b ≡ with_requests a xs [] → d ≡ with_requests b ys [] → d ≡ with_requests o (xs ++ ys) (n ∷ [])
recorded_then_both o a b d n xs ys recorded some others =
    others
    ∙ ap (λ (w : Outgoing _). with_requests w ys []) (some ∙ ap (λ (w : Outgoing _). with_requests w xs []) recorded ∙ with_requests-append o [] xs (n ∷ []) [])
    ∙ with_requests-append o xs ys (n ∷ []) []

-- how many records there are
abbrev pub record_count : {P : Type 0} → Outgoing P → ℕ
record_count o = length o.records

-- each request for a record makes one
pub recorded : {P : Type 0} (o a : Outgoing P) (xs : List (SendRequest P)) (ns : List RecordRequest) → a ≡ with_requests o xs ns → length a.records ≡ length o.records + length ns
unfolding requested_records
recorded o a xs ns asked = ap record_count asked ∙ simp (length-append, length-map)
