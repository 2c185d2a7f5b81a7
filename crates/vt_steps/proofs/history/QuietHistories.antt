-- Before a quiet time the executed events of the processes are a history: for each process exactly the events that the
-- processes send to it, in the order of keys. There is one history, so they are the sequential run's.
use Rattle.std.proofs.Common.{◌≡◌, ℕ, ◌+◌, ◌/◌, ◌%◌, ◌≤◌, ◌<◌, inl, inr, Bool, true, false, cond, List, [], ◌∷◌, ◌++◌, refl, sym, ◌∙◌, ap, subst, arith, filter}
use Rattle.std.proofs.Math.Nat.{le_refl}
use Rattle.std.proofs.lemmas.Bool.{ltb-true, ltb-false, lt-ltb, cases_Bool}
use Rattle.std.specs.List.{AllByRecursion}
use Rattle.vt_key.specs.promise.Order.{KeyBefore}
use Rattle.vt_key.specs.inside.Order.{RankBefore, StampBefore}
use Rattle.vt_key.specs.promise.Times.{Time, TimeAtMost, TimeBefore, time_before}
use Rattle.vt_key.proofs.OrderLemmas.{stamp-irreflexive}
use Rattle.vt_key.specs.declared.letter.Event.{Event}
use Rattle.vt_key.specs.declared.letter.Letter.{Letter}
use Rattle.vt_key.specs.declared.letter.Sign.{Sign}
use Rattle.vt_key.specs.declared.letter.Sign.TheVariants.{Plus, Minus}
use Rattle.vt_key.specs.declared.order.Stamp.{Stamp}
use Rattle.vt_key.specs.promise.Lists.{Among, IsRisingBy}
use Rattle.vt_model.specs.promise.Histories.{IsLawful}
use Rattle.vt_model.specs.inside.Histories.{IsHistory, IsRising, IsSent, sends_from}
use Rattle.vt_model.specs.promise.Sequential.{events_before, seq_events}
use Rattle.vt_model.specs.promise.Simulation.{Simulation, Triple}
use Rattle.vt_model.specs.declared.sending.Sent.{Sent}
use Rattle.vt_model.proofs.EndLemmas.{history_is_sequential}
use Rattle.vt_model.proofs.RunLemmas.{filter-no, filter-yes}
use Rattle.vt_steps.specs.declared.step.Step.{Step}
use Rattle.vt_steps.specs.promise.Claims.{IsProcess}
use Rattle.vt_steps.specs.inside.Claims.{AreHistoriesRight}
use Rattle.vt_steps.specs.inside.Copies.{entry_sum, is_copy, is_event_of, letter_sum, live_count, minus, plus}
use Rattle.vt_steps.specs.promise.Letters.{least_time, letter_time, unstamped}
use Rattle.vt_steps.specs.promise.Next.{reached}
use Rattle.vt_steps.specs.promise.World.{Entry, LogicalProcess, World, all_letters, entry_events, least}
use Rattle.vt_key.proofs.ListLemmas.{among-append, among-filter, among-left, among-map, among-right, every-among, filter-among, flat_map-among, map-among, rising-filter, rising-map, rising-weaker}
use Rattle.vt_steps.proofs.lists.Sums.{some-either}
use Rattle.vt_steps.proofs.letters.Stamped.{Alike}
use Rattle.vt_steps.proofs.steps.Shape.{IsShaped, own-index, reached-shape}
use Rattle.vt_steps.proofs.letters.Stamps.{stamp-facts}
use Rattle.vt_steps.proofs.steps.Everywhere.{events_of_starts, letter-in}
use Rattle.vt_steps.proofs.time.Agreement.{DoCopiesAgree, IsOnlyOne, OfAllCopies, reached-agreement}
use Rattle.vt_steps.proofs.history.OwnHistories.{IsOwnWorld, events_sent, reached-own}
use Rattle.vt_steps.proofs.letters.EventTimes.{DoTimesRise, late-events, late-rest, ranks-times}
use Rattle.vt_steps.proofs.letters.Entries.{by-process, entries-of_process, entries_of, entry-counted, entry-found, entry-in, letter-found, own-stamp, stamp-counted}
use Rattle.vt_steps.proofs.history.LiveEvents.{IsLiveEvent, first-among, live-counted, live-found, live-sent, one_live, sent-live}

-- ---- lists of events whose times never fall

-- the events before a time, once more cut to those before it
before-twice : {P : Type 0} (t : Time) (es : List (Sent P)) → events_before t (events_before t es) ≡ events_before t es
before-twice t [] = refl
before-twice t (e ∷ es) =
    elim (cases_Bool (time_before e.key.time t)) [
      | inl yes_it ↦ ap (events_before t) (filter-yes (λ d. time_before d.key.time t) e es yes_it) ∙ filter-yes (λ d. time_before d.key.time t) e (events_before t es) yes_it
          ∙ ap (λ l. e ∷ l) (before-twice t es) ∙ sym (filter-yes (λ d. time_before d.key.time t) e es yes_it)
      | inr not_it ↦ ap (events_before t) (filter-no (λ d. time_before d.key.time t) e es not_it) ∙ before-twice t es ∙ sym (filter-no (λ d. time_before d.key.time t) e es not_it)
    ]

module _ {S P : Type 0} (sim : Simulation S P) (lawful : IsLawful sim) (p : ℕ) (known : p < sim.lps) (t : Time) where
  -- events from a time on send later
  late-sends : (triple : Triple S) (es : List (Sent P)) (d : Sent P) → AllByRecursion (λ e. TimeAtMost t e.key.time) es → Among d (sends_from sim p triple es) → TimeAtMost t d.key.time
  late-sends triple [] d late m = absurd m
  late-sends triple (e ∷ es) d late m =
      elim (among-append d (sim.fire p triple e).sends (sends_from sim p (sim.fire p triple e).triple es) m) [
        | inl a ↦ (let low = late.0 in let later = lawful.later p triple e d known a in omega arith)
        | inr a ↦ late-sends (sim.fire p triple e).triple es d late.1 a
      ]

  -- what is sent before a time is sent by the events before it
  early-sends : (triple : Triple S) (es : List (Sent P)) (d : Sent P) → DoTimesRise es → TimeBefore d.key.time t → Among d (sends_from sim p triple es) → Among d (sends_from sim p triple (events_before t es))
  early-sends triple [] d rise early m = m
  early-sends triple (e ∷ es) d rise early m =
      elim (cases_Bool (time_before e.key.time t)) [
        | inl before ↦
            subst (λ l. Among d (sends_from sim p triple l)) (sym (filter-yes (λ a. time_before a.key.time t) e es before))
            (elim (among-append d (sim.fire p triple e).sends (sends_from sim p (sim.fire p triple e).triple es) m) [
              | inl a ↦ among-left d (sim.fire p triple e).sends (sends_from sim p (sim.fire p triple e).triple (events_before t es)) a
              | inr a ↦ among-right d (sim.fire p triple e).sends (sends_from sim p (sim.fire p triple e).triple (events_before t es)) (early-sends (sim.fire p triple e).triple es d rise.1 early a)
            ])
        | inr late ↦ absurd (let low = late-sends triple (e ∷ es) d (ltb-false e.key.time t late, late-rest t e es (ltb-false e.key.time t late) rise.0) m in omega arith)
      ]

  -- and that is sent by all
  sends-early : (triple : Triple S) (es : List (Sent P)) (d : Sent P) → DoTimesRise es → Among d (sends_from sim p triple (events_before t es)) → Among d (sends_from sim p triple es)
  sends-early triple [] d rise m = m
  sends-early triple (e ∷ es) d rise m =
      elim (cases_Bool (time_before e.key.time t)) [
        | inl before ↦ (
            let here = subst (λ l. Among d (sends_from sim p triple l)) (filter-yes (λ a. time_before a.key.time t) e es before) m in
            elim (among-append d (sim.fire p triple e).sends (sends_from sim p (sim.fire p triple e).triple (events_before t es)) here) [
              | inl a ↦ among-left d (sim.fire p triple e).sends (sends_from sim p (sim.fire p triple e).triple es) a
              | inr a ↦ among-right d (sim.fire p triple e).sends (sends_from sim p (sim.fire p triple e).triple es) (sends-early (sim.fire p triple e).triple es d rise.1 a)
            ])
        | inr late ↦
            absurd (subst (λ l. Among d (sends_from sim p triple l)) (filter-no (λ a. time_before a.key.time t) e es late ∙ late-events t es (late-rest t e es (ltb-false e.key.time t late) rise.0)) m)
      ]

-- ---- what is known of a reached world

-- what the steps keep, but the order of ranks: its shape, the balance of copies, that copies agree, and what stands where
pub record IsSound {S P : Type 0} (sim : Simulation S P) (serial : ℕ) (world : World P) : Type 0 where
  pub shape : IsShaped sim world
  pub balance : (stamp : Stamp) → plus world stamp ≡ live_count sim serial world stamp + minus world stamp
  pub agreement : DoCopiesAgree (events_of_starts sim serial) world
  pub own : IsOwnWorld sim world

-- each reached world is sound
pub reached-sound : {S P : Type 0} (sim : Simulation S P) (serial : ℕ) (steps : List Step) → IsSound sim serial (reached sim serial steps)
reached-sound sim serial steps = record {
  shape = reached-shape sim serial steps;
  balance = λ stamp. (stamp-facts sim serial stamp steps).balance;
  agreement = reached-agreement sim serial steps;
  own = reached-own sim serial steps;
}

-- the ranks of each process's entries rise
abbrev pub DoAllRanksRise : {S P : Type 0} → Simulation S P → World P → Type 0
DoAllRanksRise {P = P} sim world =
    (p : ℕ) (process : LogicalProcess P) → IsProcess sim world p process → IsRisingBy (λ (d e : Entry P). RankBefore d.event.rank e.event.rank) (process.done ++ process.past)

-- the least time is at most each letter's
pub least-at_most : {P : Type 0} (end : Time) (letters : List (Letter P)) (letter : Letter P) → Among letter letters → TimeAtMost (least_time end letters) (letter_time letter)
least-at_most end [] letter m = absurd m
least-at_most end (first ∷ letters) letter m =
    elim m [ inl e ↦ (let s : letter_time letter ≡ letter_time first = ap letter_time e in omega arith) | inr k ↦ (let ih = least-at_most end letters letter k in omega arith) ]

module _ {S P : Type 0} (sim : Simulation S P) (lawful : IsLawful sim) (serial : ℕ) (world : World P) (sound : IsSound sim serial world) where
  -- what holds of all copies holds of a live event
  live-of : (Q : Event P → Type 0) → OfAllCopies (events_of_starts sim serial) Q world → (x : Event P) → IsLiveEvent sim serial world x → Q x
  live-of Q h x live =
      elim (among-append x _ (events_sent (entries_of sim world live.0)) live.2) [
        | inl a ↦ every-among Q (events_of_starts sim serial) x h.first (first-among sim serial x live.0 lawful.some_worker live.1 a)
        | inr b ↦ (
            let r = flat_map-among (λ (e : Entry P). e.sent) x (entries_of sim world live.0) b in
            every-among Q r.0.sent x (entry-in sim world Q h.inside live.0 r.0 r.1).sent r.2)
      ]

  module _ (t : Time) (quiet : TimeAtMost t (least sim.end world)) where
    -- where a letter has its stamp, an event is not before a quiet time
    late : (x : Event P) (sign : Sign) → IsOnlyOne (events_of_starts sim serial) world x → 1 ≤ letter_sum (is_copy sign x.rank.stamp) world → TimeAtMost t x.rank.key.time
    late x sign only h =
        let r = letter-found sign x.rank.stamp world h in
        let same : x ≡ r.0.event = letter-in (Alike x) world r.0 only.1.inside r.1 (sym r.2) in
        let at : x.rank.key.time ≡ letter_time r.0 = ap (λ (e : Event P). e.rank.key.time) same in
        let low = least-at_most sim.end (all_letters world) r.0 r.1 in
        omega arith

    -- what is executed before a quiet time is live
    executed-live : (p : ℕ) (entry : Entry P) → Among entry (entries_of sim world p) → TimeBefore entry.event.rank.key.time t → IsLiveEvent sim serial world entry.event
    executed-live p entry m early =
        let x : Event P = entry.event in
        let only = (entry-in sim world (IsOnlyOne (events_of_starts sim serial) world) sound.agreement.inside p entry m).event in
        let one = own-stamp x in
        let count = entry-counted sim world (is_event_of x.rank.stamp) p entry m in
        let balance : letter_sum (is_copy Plus x.rank.stamp) world + entry_sum (is_event_of x.rank.stamp) world ≡ live_count sim serial world x.rank.stamp + letter_sum (is_copy Minus x.rank.stamp) world =
        sound.balance x.rank.stamp in
        elim (some-either (live_count sim serial world x.rank.stamp) (letter_sum (is_copy Minus x.rank.stamp) world) (omega arith)) [
          | inl a ↦ (
              let r = live-found sim serial world x.rank.stamp sound.shape a in
              let same : x ≡ r.0 = live-of (Alike x) only.1 r.0 r.1 (sym r.2) in
              subst (IsLiveEvent sim serial world) (sym same) r.1)
          | inr b ↦ absurd (let low = late x Minus only b in omega arith)
        ]

    -- what is live before a quiet time is executed
    live-executed : (x : Event P) → IsLiveEvent sim serial world x → TimeBefore x.rank.key.time t → (p : ℕ) × (p < sim.lps) × (entry : Entry P) × Among entry (entries_of sim world p) × (entry.event ≡ x)
    live-executed x live early =
        let only = live-of (IsOnlyOne (events_of_starts sim serial) world) sound.agreement x live in
        let count = live-counted sim serial world x lawful.some_worker live in
        let balance : letter_sum (is_copy Plus x.rank.stamp) world + entry_sum (is_event_of x.rank.stamp) world ≡ live_count sim serial world x.rank.stamp + letter_sum (is_copy Minus x.rank.stamp) world =
        sound.balance x.rank.stamp in
        elim (some-either (letter_sum (is_copy Plus x.rank.stamp) world) (entry_sum (is_event_of x.rank.stamp) world) (omega arith)) [
          | inl a ↦ absurd (let low = late x Plus only a in omega arith)
          | inr b ↦ (
              let r = entry-found sim world sound.shape (is_event_of x.rank.stamp) b in
              let same : x ≡ r.2.event = (entry-in sim world (Alike x) only.1.inside r.0 r.2 r.3).event (sym (stamp-counted x.rank.stamp r.2.event r.4)) in
              (r.0, r.1, r.2, r.3, sym same))
        ]

    module _ (ranks : DoAllRanksRise sim world) where
      -- what process p has executed, as the model knows it, and its part before the time
      abbrev history : ℕ → List (Sent P)
      history p = entry_events (entries_of sim world p)

      abbrev early_history : ℕ → List (Sent P)
      early_history p = events_before t (history p)

      -- what p has executed is for p
      receiver : (p : ℕ) (entry : Entry P) → Among entry (entries_of sim world p) → entry.event.dest ≡ p
      receiver p entry =
          by-process sim world p (λ l. Among entry l → entry.event.dest ≡ p) (λ m. absurd m)
          (λ process is m. every-among (λ e. e.event.dest ≡ p) (process.done ++ process.past) entry
          (subst (λ q. AllByRecursion (λ e. e.event.dest ≡ q) (process.done ++ process.past)) (own-index sim p) ((sound.own.parts (p % sim.workers) is.0 is.1).history (p / sim.workers) process is.2).receiver) m)

      -- its ranks rise
      entries-rise : (p : ℕ) → IsRisingBy (λ (d e : Entry P). RankBefore d.event.rank e.event.rank) (entries_of sim world p)
      entries-rise p = by-process sim world p (IsRisingBy (λ (d e : Entry P). RankBefore d.event.rank e.event.rank)) tt (λ process is. ranks p process is)

      -- so its times never fall
      times-rise : (p : ℕ) → DoTimesRise (history p)
      times-rise p = ranks-times (entries_of sim world p) (entries-rise p)

      -- before the time its keys rise: of two events of one key both are live, so they are one
      keys-rise : (p : ℕ) → IsRising (early_history p)
      keys-rise p =
          let entries : List (Entry P) = entries_of sim world p in
          let is_early : Entry P → Bool = λ e. time_before e.event.rank.key.time t in
          let live : (e : Entry P) → Among e (filter is_early entries) → IsLiveEvent sim serial world e.event =
          λ e m. (let r = filter-among is_early e entries m in executed-live p e r.0 (ltb-true e.event.rank.key.time t r.1)) in
          subst (IsRisingBy (λ d e. KeyBefore d.key e.key)) (sym (filter-entries entries))
          (rising-map (λ (e : Entry P). unstamped e.event) (λ d e. KeyBefore d.key e.key) (filter is_early entries)
          (rising-weaker (λ (d e : Entry P). RankBefore d.event.rank e.event.rank) (λ (d e : Entry P). KeyBefore d.event.rank.key e.event.rank.key) (filter is_early entries)
          (λ d e m n before. elim before [
            | inl k ↦ k
            | inr k ↦ (
                let same : d.event ≡ e.event = one_live sim serial lawful world sound.own d.event e.event (live d m) (live e n) k.0 in
                absurd (stamp-irreflexive e.event.rank.stamp (subst (λ s. StampBefore s e.event.rank.stamp) (ap (λ (x : Event P). x.rank.stamp) same) k.1)))
          ])
          (rising-filter (λ (d e : Entry P). RankBefore d.event.rank e.event.rank) is_early entries (entries-rise p))))
        where
          filter-entries : (es : List (Entry P)) → events_before t (entry_events es) ≡ entry_events (filter (λ e. time_before e.event.rank.key.time t) es)
          filter-entries [] = refl
          filter-entries (e ∷ es) =
              elim (time_before e.event.rank.key.time t) as (λ b. cond b (unstamped e.event ∷ events_before t (entry_events es)) (events_before t (entry_events es))
              ≡ entry_events (cond b (e ∷ filter (λ d. time_before d.event.rank.key.time t) es) (filter (λ d. time_before d.event.rank.key.time t) es))) [
                | true ↦ ap (λ l. unstamped e.event ∷ l) (filter-entries es)
                | false ↦ filter-entries es
              ]

      -- what a process sends by all of its events before the time it sends by the early ones
      sent-early : (e : Sent P) → TimeBefore e.key.time t → IsSent sim history e → IsSent sim early_history e
      sent-early e early sent = (
        sent.0,
        sent.1,
        elim (among-append e (sim.start sent.0).sends (sends_from sim sent.0 (sim.start sent.0).triple (history sent.0)) sent.2) [
          | inl a ↦ among-left e (sim.start sent.0).sends (sends_from sim sent.0 (sim.start sent.0).triple (early_history sent.0)) a
          | inr a ↦ among-right e (sim.start sent.0).sends (sends_from sim sent.0 (sim.start sent.0).triple (early_history sent.0))
              (early-sends sim lawful sent.0 sent.1 t (sim.start sent.0).triple (history sent.0) e (times-rise sent.0) early a)
        ],
      )

      -- and the way back
      early-sent : (e : Sent P) → IsSent sim early_history e → IsSent sim history e
      early-sent e sent = (
        sent.0,
        sent.1,
        elim (among-append e (sim.start sent.0).sends (sends_from sim sent.0 (sim.start sent.0).triple (early_history sent.0)) sent.2) [
          | inl a ↦ among-left e (sim.start sent.0).sends (sends_from sim sent.0 (sim.start sent.0).triple (history sent.0)) a
          | inr a ↦ among-right e (sim.start sent.0).sends (sends_from sim sent.0 (sim.start sent.0).triple (history sent.0))
              (sends-early sim lawful sent.0 sent.1 t (sim.start sent.0).triple (history sent.0) e (times-rise sent.0) a)
        ],
      )

      -- an event of an early history is that of an entry
      early-entry : (p : ℕ) (e : Sent P) → Among e (early_history p) → (entry : Entry P) × Among entry (entries_of sim world p) × (unstamped entry.event ≡ e) × TimeBefore e.key.time t
      early-entry p e m =
          let r = filter-among (λ d. time_before d.key.time t) e (history p) m in
          let s = map-among (λ (d : Entry P). unstamped d.event) e (entries_of sim world p) r.0 in
          (s.0, s.1, s.2, ltb-true e.key.time t r.1)

      -- before a quiet time the executed events are a history
      pub quiet_history : IsHistory sim t early_history
      quiet_history = record {
        own = λ p e is m. (let r = early-entry p e m in sym (ap (λ (d : Sent P). d.dest) r.2) ∙ receiver p r.0 r.1);
        rising = λ p is. keys-rise p;
        sent = λ p e is soon m. (
            let r = early-entry p e m in
            let early : TimeBefore r.0.event.rank.key.time t = subst (λ (d : Sent P). TimeBefore d.key.time t) (sym r.2) soon in
            sent-early e soon (subst (IsSent sim history) r.2 (live-sent sim serial world sound.own r.0.event (executed-live p r.0 r.1 early))));
        had = λ e soon sent. (
            let r = sent-live sim serial world sound.own e (early-sent e sent) in
            let early : TimeBefore r.0.rank.key.time t = subst (λ (d : Sent P). TimeBefore d.key.time t) (sym r.2) soon in
            let s = live-executed r.0 r.1 early in
            let is : unstamped s.2.event ≡ e = ap unstamped s.4 ∙ r.2 in
            let dest : s.0 ≡ e.dest = sym (receiver s.0 s.2 s.3) ∙ ap (λ (d : Sent P). d.dest) is in
            let here : Among e (early_history s.0) =
            among-filter (λ d. time_before d.key.time t) e (history s.0)
            (subst (λ d. Among d (history s.0)) is (among-map (λ (d : Entry P). unstamped d.event) s.2 (entries_of sim world s.0) s.3)) (lt-ltb e.key.time t soon) in
            subst (λ p. Among e (early_history p)) dest here);
      }

      -- so they are those of the sequential run
      pub quiet_is_sequential : (p : ℕ) (process : LogicalProcess P) → p < sim.lps → IsProcess sim world p process → events_before t (entry_events (process.done ++ process.past)) ≡ seq_events sim p t
      quiet_is_sequential p process less is =
          ap (λ es. events_before t (entry_events es)) (sym (entries-of_process sim world p process is))
          ∙ sym (before-twice t (history p))
          ∙ history_is_sequential sim lawful t early_history quiet_history t (le_refl t) p less

  -- wherever a sound world whose ranks rise is quiet, its histories are right
  pub histories_are_right : DoAllRanksRise sim world → AreHistoriesRight sim world
  histories_are_right ranks t p process less quiet is = quiet_is_sequential t quiet ranks p process less is
