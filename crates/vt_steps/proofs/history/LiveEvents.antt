-- Live events, by the process that sent them: what its start sent, and what its entries sent. They are what the model says
-- that the process sends; no two of them have one key; and before a quiet time they are just the executed events.
use Rattle.std.proofs.Common.{◌≡◌, ℕ, zero, suc, ◌+◌, ◌/◌, ◌%◌, ◌≤◌, ◌<◌, inl, inr, List, [], ◌∷◌, ◌++◌, map, length, sym, ◌∙◌, ap, subst, arith, add-zero, append-nil, append_assoc}
use Rattle.std.specs.List.{sum_by, flat_map, range_with_len}
use Rattle.std.proofs.Math.Nat.{mod-lt}
use Rattle.std.proofs.lemmas.Bool.{cases_order}
use Rattle.std.proofs.lemmas.List.{map-append}
use Rattle.vt_key.specs.declared.letter.Event.{Event}
use Rattle.vt_key.specs.declared.order.Stamp.{Stamp}
use Rattle.vt_key.specs.promise.Lists.{Among, IsRisingBy}
use Rattle.vt_model.specs.promise.Histories.{AreNumbered, IsLawful}
use Rattle.vt_model.specs.inside.Histories.{IsSent, sends_of}
use Rattle.vt_model.specs.promise.Simulation.{Simulation, after}
use Rattle.vt_model.specs.declared.sending.Sent.{Sent}
use Rattle.vt_model.proofs.RunLemmas.{numbered-all, numbered-among}
use Rattle.vt_steps.specs.inside.Copies.{entry_sum, live_count, of_stamp, sent_by}
use Rattle.vt_steps.specs.promise.Letters.{stamped, unstamped}
use Rattle.vt_steps.specs.promise.World.{Entry, World, entry_events, process_at, process_count, start_events}
use Rattle.vt_key.proofs.ListLemmas.{among-append, among-flat_map, among-left, among-map, among-range, among-right, every-all, flat_map-among, map-among, range-among, rising-unmap, same-element}
use Rattle.vt_steps.proofs.lists.Sums.{some-among, some-either, sum-among}
use Rattle.vt_steps.proofs.letters.Stamped.{unstamped-stamped}
use Rattle.vt_steps.proofs.steps.Shape.{IsShaped, known-index, own-index, index-known, index-of_index, worker-of_index}
use Rattle.vt_steps.proofs.steps.Everywhere.{events_of_starts}
use Rattle.vt_steps.proofs.history.OwnHistories.{AreFired, IsOwnWorld, events_sent, fired-sends}
use Rattle.vt_steps.proofs.letters.Entries.{entries_of, entry-counted, entry-found, by-process, own-stamp, stamp-counted}

-- ---- stamps of several lists of sends, one after the other

module _ {P : Type 0} where
  -- the second list's serials begin after the first one's
  stamped-append : (w serial : ℕ) (xs ys : List (Sent P)) → stamped w serial (xs ++ ys) ≡ stamped w serial xs ++ stamped w (serial + length xs) ys
  stamped-append w serial [] ys = ap (λ n. stamped w n ys) (sym (add-zero serial))
  stamped-append w serial (x ∷ xs) ys =
      let more : serial + 1 + length xs ≡ serial + length (x ∷ xs) = omega arith in
      let first : Event P = record { rank = record { key = x.key; stamp = record { worker = w; serial = serial } }; dest = x.dest; payload = x.payload } in
      ap (λ l. first ∷ l) (stamped-append w (serial + 1) xs ys ∙ ap (λ n. stamped w (serial + 1) xs ++ stamped w n ys) more)

  -- the pieces of a range and one more
  pieces-snoc : (f : ℕ → List (Sent P)) (a n : ℕ) → flat_map f (range_with_len a (suc n)) ≡ flat_map f (range_with_len a n) ++ f (a + n)
  pieces-snoc f a zero = append-nil (f a) ∙ ap f (sym (add-zero a))
  pieces-snoc f a (suc n) =
      let same : a + 1 + n ≡ a + suc n = omega arith in
      ap (λ l. f a ++ l) (pieces-snoc f (a + 1) n ∙ ap (λ k. flat_map f (range_with_len (a + 1) n) ++ f k) same)
      ∙ sym (append_assoc (f a) (flat_map f (range_with_len (a + 1) n)) (f (a + suc n)))

  -- the pieces before one
  abbrev pieces_before : (ℕ → List (Sent P)) → ℕ → List (Sent P)
  pieces_before f n = flat_map f (range_with_len 0 n)

  -- what is stamped of all pieces is stamped of one
  stamped-piece : (f : ℕ → List (Sent P)) (w serial n : ℕ) (x : Event P) → Among x (stamped w serial (pieces_before f n)) →
      (j : ℕ) × (j < n) × Among x (stamped w (serial + length (pieces_before f j)) (f j))
  stamped-piece f w serial zero x m = absurd m
  stamped-piece f w serial (suc n) x m =
      let none : 0 + n ≡ n = omega arith in
      let split : stamped w serial (pieces_before f (suc n)) ≡ stamped w serial (pieces_before f n) ++ stamped w (serial + length (pieces_before f n)) (f n) =
      ap (stamped w serial) (pieces-snoc f 0 n ∙ ap (λ k. pieces_before f n ++ f k) none) ∙ stamped-append w serial (pieces_before f n) (f n) in
      elim (among-append x (stamped w serial (pieces_before f n)) (stamped w (serial + length (pieces_before f n)) (f n)) (subst (Among x) split m)) [
        | inl a ↦ (let r = stamped-piece f w serial n x a in let less = r.1 in (r.0, omega arith, r.2))
        | inr b ↦ (n, omega arith, b)
      ]

  -- and the way back
  piece-stamped : (f : ℕ → List (Sent P)) (w serial n j : ℕ) (x : Event P) → j < n → Among x (stamped w (serial + length (pieces_before f j)) (f j)) →
      Among x (stamped w serial (pieces_before f n))
  piece-stamped f w serial zero j x less m = absurd (omega arith)
  piece-stamped f w serial (suc n) j x less m =
      let none : 0 + n ≡ n = omega arith in
      let split : stamped w serial (pieces_before f (suc n)) ≡ stamped w serial (pieces_before f n) ++ stamped w (serial + length (pieces_before f n)) (f n) =
      ap (stamped w serial) (pieces-snoc f 0 n ∙ ap (λ k. pieces_before f n ++ f k) none) ∙ stamped-append w serial (pieces_before f n) (f n) in
      subst (Among x) (sym split) (elim (cases_order j n) [
        | inl same ↦ among-right x (stamped w serial (pieces_before f n)) (stamped w (serial + length (pieces_before f n)) (f n))
            (subst (λ k. Among x (stamped w (serial + length (pieces_before f k)) (f k))) same m)
        | inr h ↦ elim h [
          | inl before ↦ among-left x (stamped w serial (pieces_before f n)) (stamped w (serial + length (pieces_before f n)) (f n)) (piece-stamped f w serial n j x before m)
          | inr past ↦ absurd (omega arith)
        ]
      ])

-- sends with rising numbers, by the number
numbered-rising : {P : Type 0} (p low high : ℕ) (xs : List (Sent P)) → AreNumbered p low high xs → IsRisingBy (λ x y. x.key.number ≡ y.key.number → ⊥) xs
numbered-rising p low high [] h = tt
numbered-rising p low high (x ∷ xs) h = (
  every-all (λ y. x.key.number ≡ y.key.number → ⊥) xs (λ y m same. (let above = (numbered-among p (suc x.key.number) high xs y h.2 m).1 in omega arith)),
  numbered-rising p (suc x.key.number) high xs h.2,
)

-- ---- live events

module _ {S P : Type 0} (sim : Simulation S P) (serial : ℕ) where
  -- what the start of the process at an index of w sends
  abbrev sends_at : ℕ → ℕ → List (Sent P)
  sends_at w index = (sim.start (process_at sim w index)).sends

  -- what the start of p sent, with its stamps
  abbrev first_events : ℕ → List (Event P)
  first_events p = stamped (p % sim.workers) (serial + length (pieces_before (sends_at (p % sim.workers)) (p / sim.workers))) (sim.start p).sends

  -- what the start of p and the entries of p sent, with its stamps: the live events of p
  abbrev pub live_events : World P → ℕ → List (Event P)
  live_events world p = first_events p ++ events_sent (entries_of sim world p)

  -- an event is live: some process sent it
  abbrev pub IsLiveEvent : World P → Event P → Type 0
  IsLiveEvent world x = (p : ℕ) × (p < sim.lps) × Among x (live_events world p)

  -- an event of the starts is one of a process
  pub start-first : (x : Event P) (w : ℕ) → w < sim.workers → Among x (start_events sim serial w) → (p : ℕ) × (p < sim.lps) × Among x (first_events p)
  start-first x w within m =
      let r = stamped-piece (sends_at w) w serial (process_count sim w) x m in
      let worker = worker-of_index sim w r.0 within in
      let index = index-of_index sim w r.0 within in (
        process_at sim w r.0,
        index-known sim w r.0 within r.1,
        subst (λ v. Among x (stamped v (serial + length (pieces_before (sends_at v) (process_at sim w r.0 / sim.workers))) (sim.start (process_at sim w r.0)).sends)) (sym worker)
            (subst (λ k. Among x (stamped w (serial + length (pieces_before (sends_at w) k)) (sim.start (process_at sim w r.0)).sends)) (sym index) r.2),
      )

  -- and the way back
  first-start : (x : Event P) (p : ℕ) → 1 ≤ sim.workers → p < sim.lps → Among x (first_events p) → Among x (start_events sim serial (p % sim.workers))
  first-start x p some less m =
      piece-stamped (sends_at (p % sim.workers)) (p % sim.workers) serial (process_count sim (p % sim.workers)) (p / sim.workers) x (known-index sim p some less)
      (subst (λ q. Among x (stamped (p % sim.workers) (serial + length (pieces_before (sends_at (p % sim.workers)) (p / sim.workers))) (sim.start q).sends)) (sym (own-index sim p)) m)

  -- it is among the events of all starts
  pub first-among : (x : Event P) (p : ℕ) → 1 ≤ sim.workers → p < sim.lps → Among x (first_events p) → Among x (events_of_starts sim serial)
  first-among x p some less m =
      let within : p % sim.workers < sim.workers = mod-lt p some in
      among-flat_map (start_events sim serial) x (p % sim.workers) (range_with_len 0 sim.workers) (among-range (p % sim.workers) 0 sim.workers (omega arith) (omega arith)) (first-start x p some less m)

  -- ---- live events and counts

  -- a live event counts
  pub live-counted : (world : World P) (x : Event P) → 1 ≤ sim.workers → IsLiveEvent world x → 1 ≤ live_count sim serial world x.rank.stamp
  live-counted world x some live =
      let stamp : Stamp = x.rank.stamp in
      let one = own-stamp x in
      elim (among-append x (first_events live.0) (events_sent (entries_of sim world live.0)) live.2) [
        | inl a ↦ (
            let within : live.0 % sim.workers < sim.workers = mod-lt live.0 some in
            let b = sum-among (of_stamp stamp) (start_events sim serial (live.0 % sim.workers)) x (first-start x live.0 some live.1 a) in
            let c = sum-among (λ w. sum_by (of_stamp stamp) (start_events sim serial w)) (range_with_len 0 sim.workers) (live.0 % sim.workers)
            (among-range (live.0 % sim.workers) 0 sim.workers (omega arith) (omega arith)) in
            omega arith)
        | inr b ↦ (
            let r = flat_map-among (λ (e : Entry P). e.sent) x (entries_of sim world live.0) b in
            let c = sum-among (of_stamp stamp) r.0.sent x r.2 in
            let d = entry-counted sim world (sent_by stamp) live.0 r.0 r.1 in
            omega arith)
      ]

  -- where a stamp is counted as live there is a live event of it
  pub live-found : (world : World P) (stamp : Stamp) → IsShaped sim world → 1 ≤ live_count sim serial world stamp → (x : Event P) × IsLiveEvent world x × (x.rank.stamp ≡ stamp)
  live-found world stamp shape h =
      let starts : ℕ = sum_by (λ w. sum_by (of_stamp stamp) (start_events sim serial w)) (range_with_len 0 sim.workers) in
      elim (some-either starts (entry_sum (sent_by stamp) world) h) [
        | inl a ↦ (
            let r = some-among (λ w. sum_by (of_stamp stamp) (start_events sim serial w)) (range_with_len 0 sim.workers) a in
            let s = some-among (of_stamp stamp) (start_events sim serial r.0) r.2 in
            let within = (range-among r.0 0 sim.workers r.1).1 in
            let t = start-first s.0 r.0 (omega arith) s.1 in
            (s.0, (t.0, t.1, among-left s.0 (first_events t.0) (events_sent (entries_of sim world t.0)) t.2), stamp-counted stamp s.0 s.2))
        | inr b ↦ (
            let r = entry-found sim world shape (sent_by stamp) b in
            let s = some-among (of_stamp stamp) r.2.sent r.4 in (
              s.0,
              (r.0, r.1, among-right s.0 (first_events r.0) (events_sent (entries_of sim world r.0)) (among-flat_map (λ (e : Entry P). e.sent) s.0 r.2 (entries_of sim world r.0) r.3 s.1)),
              stamp-counted stamp s.0 s.2,
            ))
      ]

  -- ---- live events and sends

  -- the entries of p are fired
  entries-fired : (world : World P) → IsOwnWorld sim world → (p : ℕ) → AreFired sim p (sim.start p).triple (entries_of sim world p)
  entries-fired world own p =
      by-process sim world p (AreFired sim p (sim.start p).triple) tt
      (λ process is. subst (λ q. AreFired sim q (sim.start q).triple (process.done ++ process.past)) (own-index sim p)
      ((own.parts (p % sim.workers) is.0 is.1).history (p / sim.workers) process is.2).fired)

  -- the live events of p are what p sends, stamps aside
  pub live-sends : (world : World P) → IsOwnWorld sim world → (p : ℕ) → map unstamped (live_events world p) ≡ sends_of sim p (entry_events (entries_of sim world p))
  live-sends world own p =
      map-append unstamped (first_events p) (events_sent (entries_of sim world p))
      ∙ ap (λ l. l ++ map unstamped (events_sent (entries_of sim world p))) (unstamped-stamped (p % sim.workers) _ (sim.start p).sends)
      ∙ ap (λ l. (sim.start p).sends ++ l) (fired-sends sim p (sim.start p).triple (entries_of sim world p) (entries-fired world own p))

  -- a live event is sent
  pub live-sent : (world : World P) → IsOwnWorld sim world → (x : Event P) → IsLiveEvent world x → IsSent sim (λ p. entry_events (entries_of sim world p)) (unstamped x)
  live-sent world own x live =
      (live.0, live.1, subst (Among (unstamped x)) (live-sends world own live.0) (among-map unstamped x (live_events world live.0) live.2))

  -- what is sent is a live event
  pub sent-live : (world : World P) → IsOwnWorld sim world → (e : Sent P) → IsSent sim (λ p. entry_events (entries_of sim world p)) e → (x : Event P) × IsLiveEvent world x × (unstamped x ≡ e)
  sent-live world own e sent =
      let r = map-among unstamped e (live_events world sent.0) (subst (Among e) (sym (live-sends world own sent.0)) sent.2) in
      (r.0, (sent.0, sent.1, r.1), r.2)

  -- two live events of one source and number are one
  pub one_live : IsLawful sim → (world : World P) → IsOwnWorld sim world → (x y : Event P) → IsLiveEvent world x → IsLiveEvent world y → x.rank.key ≡ y.rank.key → x ≡ y
  one_live lawful world own x y a b same =
      let history : ℕ → List (Sent P) = λ p. entry_events (entries_of sim world p) in
      let numbers : (p : ℕ) → p < sim.lps → AreNumbered p 0 (after sim p (history p)).number (map unstamped (live_events world p)) =
      λ p is. subst (AreNumbered p 0 (after sim p (history p)).number) (sym (live-sends world own p)) (numbered-all sim lawful p is (history p)) in
      let source : (z : Event P) (p : ℕ) → p < sim.lps → Among z (live_events world p) → z.rank.key.source ≡ p =
      λ z p is m. (numbered-among p 0 (after sim p (history p)).number (map unstamped (live_events world p)) (unstamped z) (numbers p is) (among-map unstamped z (live_events world p) m)).0 in
      let one : b.0 ≡ a.0 = sym (source y b.0 b.1 b.2) ∙ sym (ap (λ k. k.source) same) ∙ source x a.0 a.1 a.2 in
      same-element (λ (z : Event P). z.rank.key.number) (live_events world a.0)
      (rising-unmap unstamped (λ (u v : Sent P). u.key.number ≡ v.key.number → ⊥) (live_events world a.0)
      (numbered-rising a.0 0 (after sim a.0 (history a.0)).number (map unstamped (live_events world a.0)) (numbers a.0 a.1)))
      x y a.2 (subst (λ q. Among y (live_events world q)) one b.2) (ap (λ k. k.number) same)
