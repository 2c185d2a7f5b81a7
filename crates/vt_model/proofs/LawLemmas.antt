-- A model's laws make its simulation lawful, and keep its states.
use Rattle.std.proofs.Common.{◌≡◌, ℕ, suc, ◌+◌, ◌<◌, ◌≤◌, inl, inr, List, [], ◌∷◌, Bool, map, filter, nat_lt, length, if◌then◌else◌, refl, sym, subst, ap, arith}
use Rattle.std.specs.List.{All, enumerate_from}
use Rattle.std.proofs.lemmas.List.Elements.{All-head, All-tail}
use Rattle.std.proofs.lemmas.Bool.{lt-ltb, le-ltb, cases_lt}
use Rattle.vt_key.specs.promise.Lists.{Among}
use Rattle.vt_model.specs.declared.sending.Sent.{Sent}
use Rattle.vt_model.specs.declared.settings.Config.{Config}
use Rattle.vt_stream.specs.promise.Words.{seed_key}
use Rattle.vt_model.specs.promise.Sends.{SendRequest, sent_event, sent_events, receive_time}
use Rattle.vt_model.specs.promise.Handler.{Handlers}
use Rattle.vt_model.specs.inside.Handler.{IsSendable, AreWords}
use Rattle.vt_model.specs.inside.Within.{IsStartWithin, IsEventWithin}
use Rattle.vt_model.specs.promise.Simulation.{Triple, words_at, start_of, fire_of, simulation_of, after}
use Rattle.vt_model.proofs.RunLemmas.{after_from}
use Rattle.vt_model.specs.promise.Histories.{AreNumbered, IsLawful}
use Rattle.vt_stream.proofs.WordLemmas.{word_below}
use Rattle.vt_model.proofs.RowLemmas.{has_rows}
use Rattle.vt_model.specs.promise.Settings.{end_of}

pub are_words : (seed p place : ℕ) → AreWords (words_at seed p place)
are_words seed p place = λ i. word_below (seed_key seed) p (place + i)

module _ {P : Type 0} (end p now : ℕ) where
  sent-yes : (n : ℕ) (o : SendRequest P) (os : List (SendRequest P)) → receive_time now o < end → sent_events end p now n (o ∷ os) ≡ sent_event p now (n, o) ∷ sent_events end p now (n + 1) os
  unfolding sent_events
  sent-yes n o os h =
      ap (λ (b : Bool). map (sent_event p now) (if b then ((n, o) ∷ filter (λ q. nat_lt (receive_time now q.1) end) (enumerate_from (n + 1) os)) else filter (λ q. nat_lt (receive_time now q.1) end) (enumerate_from (n + 1) os))) (lt-ltb (receive_time now o) end h)

  sent-no : (n : ℕ) (o : SendRequest P) (os : List (SendRequest P)) → end ≤ receive_time now o → sent_events end p now n (o ∷ os) ≡ sent_events end p now (n + 1) os
  unfolding sent_events
  sent-no n o os h =
      ap (λ (b : Bool). map (sent_event p now) (if b then ((n, o) ∷ filter (λ q. nat_lt (receive_time now q.1) end) (enumerate_from (n + 1) os)) else filter (λ q. nat_lt (receive_time now q.1) end) (enumerate_from (n + 1) os))) (le-ltb (receive_time now o) end h)

  sent-nil : (n : ℕ) → sent_events {P = P} end p now n [] ≡ []
  unfolding sent_events
  sent-nil n = refl

  -- what a sent event is
  record IsSending (lps : ℕ) (d : Sent P) : Type 0 where
    known : d.dest < lps
    later : now < d.key.time
    ends : d.key.time < end

  sending : (lps n : ℕ) (os : List (SendRequest P)) (d : Sent P) → All (IsSendable lps now) os → Among d (sent_events end p now n os) → IsSending lps d
  sending lps n [] d a m = absurd (subst (Among d) (sent-nil n) m)
  sending lps n (o ∷ os) d a m =
      elim (cases_lt (receive_time now o) end) [
        | inl l ↦
            elim (let k : Among d (sent_event p now (n, o) ∷ sent_events end p now (n + 1) os) = subst (Among d) (sent-yes n o os l) m in k) [
              | inl at ↦
                  let first : IsSendable lps now o = All-head (IsSendable lps now) o os a in
                  subst (IsSending lps) (sym at) (record { known = first.known; later = first.later; ends = l })
              | inr k ↦ sending lps (n + 1) os d (All-tail (IsSendable lps now) o os a) k
            ]
        | inr l ↦ sending lps (n + 1) os d (All-tail (IsSendable lps now) o os a) (subst (Among d) (sent-no n o os l) m)
      ]

  lower : (lo low hi : ℕ) (es : List (Sent P)) → low ≤ lo → AreNumbered p lo hi es → AreNumbered p low hi es
  lower lo low hi [] l n = let m : lo ≤ hi = n in omega arith
  lower lo low hi (e ∷ es) l n = let m : lo ≤ e.key.number = n.1 in (n.0, omega arith, n.2)

  numbered : (n : ℕ) (os : List (SendRequest P)) → AreNumbered p n (n + length os) (sent_events end p now n os)
  numbered n [] = rw (sent-nil n) (let l : n ≤ n + 0 = omega arith in l)
  numbered n (o ∷ os) =
      let up : (n + 1) + length os ≡ n + length (o ∷ os) = omega arith in
      let rest : AreNumbered p (n + 1) (n + length (o ∷ os)) (sent_events end p now (n + 1) os) = subst (λ (hi : ℕ). AreNumbered p (n + 1) hi (sent_events end p now (n + 1) os)) up (numbered (n + 1) os) in
      elim (cases_lt (receive_time now o) end) [
        | inl l ↦ rw (sent-yes n o os l) (refl, omega arith, lower (n + 1) (suc n) (n + length (o ∷ os)) (sent_events end p now (n + 1) os) (omega arith) rest)
        | inr l ↦ rw (sent-no n o os l) (lower (n + 1) n (n + length (o ∷ os)) (sent_events end p now (n + 1) os) (omega arith) rest)
      ]

  fewer : (n : ℕ) (os : List (SendRequest P)) → length (sent_events end p now n os) ≤ length os
  fewer n [] = rw (sent-nil n) (omega arith)
  fewer n (o ∷ os) =
      let ih = fewer (n + 1) os in
      elim (cases_lt (receive_time now o) end) [ inl l ↦ rw (sent-yes n o os l) (omega (arith, ih)) | inr l ↦ rw (sent-no n o os l) (omega (arith, ih)) ]

module _ {S P K : Type 0} (handlers : Handlers S P K) (c : Config)
    (start_within : (lps lp : ℕ) (words : ℕ → ℕ) → lp < lps → AreWords words → IsStartWithin lps (handlers.start lps lp words))
    (forward_within : (lps lp now : ℕ) (p : P) (s : S) (words : ℕ → ℕ) → lp < lps → AreWords words
    → IsEventWithin lps now (handlers.forward lps lp now p s words)) where
  started : (p : ℕ) → p < c.lps → IsStartWithin c.lps (handlers.start c.lps p (words_at c.seed p 0))
  started p is = start_within c.lps p (words_at c.seed p 0) is (are_words c.seed p 0)

  pub lawful_of : IsLawful (simulation_of handlers c)
  unfolding start_of fire_of
  lawful_of =
      let fired = λ (p : ℕ) (t : Triple S) (e : Sent P) (is : p < c.lps). forward_within c.lps p e.key.time e.payload t.state (words_at c.seed p t.place) is (are_words c.seed p t.place) in
      let send_requests = λ (p : ℕ) (t : Triple S) (e : Sent P). (handlers.forward c.lps p e.key.time e.payload t.state (words_at c.seed p t.place)).send_requests in
      let firsts = λ (p : ℕ). (handlers.start c.lps p (words_at c.seed p 0)).send_requests in
      record {
        known_start = λ p d is m. (sending (end_of c) p 0 c.lps 0 (firsts p) d (started p is).sendable m).known;
        known = λ p t e d is m. (sending (end_of c) p e.key.time c.lps t.number (send_requests p t e) d (fired p t e is).sendable m).known;
        later = λ p t e d is m. (sending (end_of c) p e.key.time c.lps t.number (send_requests p t e) d (fired p t e is).sendable m).later;
        ends_start = λ p d is m. (sending (end_of c) p 0 c.lps 0 (firsts p) d (started p is).sendable m).ends;
        ends = λ p t e d is m. (sending (end_of c) p e.key.time c.lps t.number (send_requests p t e) d (fired p t e is).sendable m).ends;
        numbered_start = λ p is. subst (λ (hi : ℕ). AreNumbered p 0 hi (sent_events (end_of c) p 0 0 (firsts p))) (let z : 0 + length (firsts p) ≡ length (firsts p) = omega arith in z) (numbered (end_of c) p 0 0 (firsts p));
        numbered = λ p t e is. numbered (end_of c) p e.key.time t.number (send_requests p t e);
        later_start = λ p d is m. (sending (end_of c) p 0 c.lps 0 (firsts p) d (started p is).sendable m).later;
        rows_start = λ p. refl;
        rows = λ p t e. has_rows handlers c p t e;
        some_worker = c.some_worker;
        few_workers = c.few_workers;
        some_time = omega (arith, c.some_time);
        in_time = omega (arith, c.in_time);
        few = λ p t e is. let l = fewer (end_of c) p e.key.time t.number (send_requests p t e) in let m = (fired p t e is).few_sends in omega (arith, l, m);
      }

module _ {S P K : Type 0} (handlers : Handlers S P K) (c : Config) (IsState : S → Type 0)
    (start_state : (lps lp : ℕ) (words : ℕ → ℕ) → IsState (handlers.start lps lp words).state)
    (forward_state : (lps lp now : ℕ) (p : P) (s : S) (words : ℕ → ℕ) → IsState s → IsState (handlers.forward lps lp now p s words).state) where
  state_from : (p : ℕ) (t : Triple S) (es : List (Sent P)) → IsState t.state → IsState (after_from (simulation_of handlers c) p t es).state
  unfolding fire_of
  state_from p t [] ok = ok
  state_from p t (e ∷ es) ok =
      state_from p (fire_of (end_of c) p t e (handlers.forward c.lps p e.key.time e.payload t.state (words_at c.seed p t.place))).triple es (forward_state c.lps p e.key.time e.payload t.state (words_at c.seed p t.place) ok)

  -- wherever a process stands, its state can be
  pub after_state : (p : ℕ) (es : List (Sent P)) → IsState (after (simulation_of handlers c) p es).state
  unfolding start_of
  after_state p es = state_from p (start_of (end_of c) p (handlers.start c.lps p (words_at c.seed p 0))).triple es (start_state c.lps p (words_at c.seed p 0))
