-- What a handler's contract says is what the simulation's firing is.
use Rattle.std.proofs.Common.{◌≡◌, ℕ, ◌+◌, ◌%◌, ◌^◌, ◌≤◌, [], ◌∙◌, ap, length, arith}
use Rattle.vt_model.specs.declared.limits.TheConstants.{MAX_DRAWS}
use Rattle.vt_model.specs.declared.sending.Sent.{Sent}
use Rattle.vt_stream.specs.promise.Words.{seed_key, word}
use Rattle.vt_stream.specs.inside.Words.{Stream, word_of, moved}
use Rattle.vt_model.specs.inside.Sends.{Outgoing, with_requests}
use Rattle.vt_model.specs.promise.Handler.{StartResult, ForwardResult}
use Rattle.vt_model.specs.promise.Simulation.{Triple, Fired, words_at, rows_of, start_of, fire_of}
use Rattle.vt_model.specs.inside.Simulation.{IsFiring}

-- the words of a stream are those of its seed, process and place
pub word_of-words_at : (w : Stream) (seed p place : ℕ) → w.key ≡ seed_key seed → w.process ≡ p → w.place ≡ place → word_of w ≡ words_at seed p place
word_of-words_at w seed p place key process at = λ j i. word (key j) (process j) (at j + i)

module _ {S P K : Type 0} (seed end lps p : ℕ) where
  pub fires : (t : Triple S) (e : Sent P) (go : (ℕ → ℕ) → ForwardResult S P K) (w v : Stream) (o q : Outgoing P) (s : S)
      → w.key ≡ seed_key seed → w.process ≡ p → w.place ≡ t.place
      → o ≡ record { lps = lps; end = end; lp = p; time = e.key.time; first = t.number; number = t.number; sends = []; records = [] }
      → s ≡ (go (word_of w)).state → v ≡ moved w (go (word_of w)).drawn → q ≡ with_requests o (go (word_of w)).send_requests (go (word_of w)).record_requests
      → IsFiring (fire_of end p t e (go (words_at seed p t.place))) e.key s v q
  unfolding fire_of
  fires t e go w v o q s key process at out state stream outgoing =
      let x : go (word_of w) ≡ go (words_at seed p t.place) = ap go (word_of-words_at w seed p t.place key process at) in
      let fresh : Outgoing P = record { lps = lps; end = end; lp = p; time = e.key.time; first = t.number; number = t.number; sends = []; records = [] } in
      let q_is : q ≡ with_requests fresh (go (words_at seed p t.place)).send_requests (go (words_at seed p t.place)).record_requests =
      outgoing ∙ (λ j. with_requests (out j) (x j).send_requests (x j).record_requests) in
      let s_is : s ≡ (go (words_at seed p t.place)).state = state ∙ ap (λ (y : ForwardResult S P K). y.state) x in
      let v_is : v.place ≡ (t.place + (go (words_at seed p t.place)).drawn) % 2 ^ 64 =
      ap (λ (y : Stream). y.place) stream ∙ (λ j. (at j + (x j).drawn) % 2 ^ 64) in
      record {
        triple = λ j. record { state = s_is j; number = (q_is j).number; place = v_is j };
        sends = ap (λ (y : Outgoing P). y.sends) q_is;
        rows = ap (λ (y : Outgoing P). rows_of e.key y.records) q_is;
      }

-- where a process stands after its start, and what it sent
pub record IsStart {S P : Type 0} (f : Fired S P) (s : S) (v : Stream) (q : Outgoing P) : Type 0 where
  pub triple : record { state = s; number = q.number; place = v.place } ≡ f.triple
  pub sends : q.sends ≡ f.sends

module _ {S P : Type 0} (seed end lps p : ℕ) where
  pub starts : (go : (ℕ → ℕ) → StartResult S P) (w v : Stream) (o q : Outgoing P) (s : S)
      → w ≡ record { key = seed_key seed; process = p; place = 0 }
      → o ≡ record { lps = lps; end = end; lp = p; time = 0; first = 0; number = 0; sends = []; records = [] }
      → s ≡ (go (word_of w)).state → v ≡ moved w (go (word_of w)).drawn → (go (words_at seed p 0)).drawn ≤ MAX_DRAWS → q ≡ with_requests o (go (word_of w)).send_requests []
      → IsStart (start_of end p (go (words_at seed p 0))) s v q
  unfolding start_of
  starts go w v o q s at out state stream few outgoing =
      let x : go (word_of w) ≡ go (words_at seed p 0) = ap go (λ j. word_of (at j)) in
      let fresh : Outgoing P = record { lps = lps; end = end; lp = p; time = 0; first = 0; number = 0; sends = []; records = [] } in
      let q_is : q ≡ with_requests fresh (go (words_at seed p 0)).send_requests [] = outgoing ∙ (λ j. with_requests (out j) (x j).send_requests []) in
      let s_is : s ≡ (go (words_at seed p 0)).state = state ∙ ap (λ (y : StartResult S P). y.state) x in
      let m_is : v.place ≡ (0 + (go (words_at seed p 0)).drawn) % 2 ^ 64 = ap (λ (y : Stream). y.place) stream ∙ (λ j. ((at j).place + (x j).drawn) % 2 ^ 64) in
      let v_is : v.place ≡ (go (words_at seed p 0)).drawn = omega (arith, m_is, few) in
      let n_is : q.number ≡ length (go (words_at seed p 0)).send_requests = omega (arith, ap (λ (y : Outgoing P). y.number) q_is) in
      record {
        triple = λ j. record { state = s_is j; number = n_is j; place = v_is j };
        sends = ap (λ (y : Outgoing P). y.sends) q_is;
      }
