-- A local step makes no letter before those that its worker has: sends are later than what sent them, and an event is undone
-- only for a letter that is not after it.
use Rattle.std.proofs.Common.{◌≡◌, ℕ, ◌+◌, ◌<◌, inl, inr, Bool, true, false, not, List, [], ◌∷◌, ◌++◌, map, refl, sym, subst, ap, arith, Some, slice_get}
use Rattle.std.specs.List.{sum_by, list_any}
use Rattle.std.proofs.lemmas.Bool.Decides.{nat_tests}
use Rattle.std.proofs.lemmas.List.Sums.{sum_by-cons}
use Rattle.std.proofs.lemmas.Bool.{or_cases}
use Rattle.vt_key.specs.promise.Order.{rank_before}
use Rattle.vt_key.specs.promise.Times.{Time, TimeBefore, TimeAtMost, time_at_most}
use Rattle.vt_key.specs.promise.Queues.{has_stamp, without_first}
use Rattle.vt_key.specs.declared.letter.Event.{Event}
use Rattle.vt_key.specs.declared.letter.Letter.{Letter}
use Rattle.vt_key.specs.declared.letter.Sign.{Sign}
use Rattle.vt_key.specs.declared.letter.Sign.TheVariants.{Plus, Minus}
use Rattle.vt_key.specs.promise.Lists.{Among}
use Rattle.vt_model.specs.declared.sending.Sent.{Sent}
use Rattle.vt_model.specs.promise.Simulation.{Simulation, Triple}
use Rattle.vt_model.specs.promise.Histories.{IsLawful}
use Rattle.vt_steps.specs.inside.Copies.{as_count, letter_weight, process_sum, process_entries, part_entries}
use Rattle.vt_steps.specs.promise.Letters.{signed, stamped, unstamped}
use Rattle.vt_steps.specs.promise.PartSteps.{with_effect}
use Rattle.vt_steps.specs.promise.ProcessSteps.{ProcessEffect, effect_of_execute, effect_of_undo}
use Rattle.vt_steps.specs.promise.World.{Entry, LogicalProcess, Part, process_at, triple_after}
use Rattle.vt_steps.proofs.letters.Balance.{effect-balance, execute-balance, undo-balance, cancel-balance, takes-balance}
use Rattle.vt_steps.proofs.steps.Changes.{Act, executes, undoes, cancels, homes, arrives, Local, acts, takes}
use Rattle.vt_steps.proofs.time.Early.{early, early_in, early_letters, not-early, late-none}
use Rattle.vt_steps.proofs.letters.RankTimes.{rank-time, not-after-time}
use Rattle.vt_steps.proofs.time.Rounds.{SameCounts}
use Rattle.vt_steps.proofs.lists.Sums.{sum-at, sum_by-single}

-- where no letter is before t, what is not before one of them is not before t
any-late : {P : Type 0} (t time : Time) (test : Letter P → Bool) (letters : List (Letter P)) → ((letter : Letter P) → test letter ≡ true → TimeAtMost letter.event.rank.key.time time) →
    early_letters t letters ≡ 0 → list_any test letters ≡ true → TimeAtMost t time
any-late t time test [] means none some = absurd (let h : false ≡ true = some in cc)
any-late t time test (letter ∷ letters) means none some =
    let a = sum_by-cons (letter_weight (early t)) letter letters in
    elim (or_cases (test letter) (list_any test letters) some) [
      | inl here ↦ (let bound = means letter here in let late = not-early t letter.sign letter.event (omega arith) in omega arith)
      | inr there ↦ any-late t time test letters means (omega arith) there
    ]

-- ---- sends are later than what sent them

-- how many of these sends are not later than a time
abbrev not_later : {P : Type 0} → Time → List (Sent P) → ℕ
not_later time sends = sum_by (λ send. as_count (time_at_most send.key.time time)) sends

-- how many of an entry's sends are not later than it
abbrev pub hasty : {P : Type 0} → Entry P → ℕ
hasty entry = sum_by (λ sent. as_count (time_at_most sent.rank.key.time entry.event.rank.key.time)) entry.sent

-- no send is not later than its cause
sends-later : {S P : Type 0} (sim : Simulation S P) → IsLawful sim → (p : ℕ) (triple : Triple S) (event : Sent P) → p < sim.lps → not_later event.key.time (sim.fire p triple event).sends ≡ 0
sends-later {P = P} sim lawful p triple event known = none (sim.fire p triple event).sends (λ d m. lawful.later p triple event d known m)
  where
    none : (sends : List (Sent P)) → ((d : Sent P) → Among d sends → TimeBefore event.key.time d.key.time) → not_later event.key.time sends ≡ 0
    none [] later = refl
    none (d ∷ ds) later =
        let after = later d (inl refl) in
        let is : time_at_most d.key.time event.key.time ≡ false = grind (arith, nat_tests) in
        let a = sum_by-cons (λ (send : Sent P). as_count (time_at_most send.key.time event.key.time)) d ds in
        let b = ap as_count is in
        let ih = none ds (λ x m. later x (inr m)) in
        omega arith

-- nor is it with its stamp
stamped-later : {P : Type 0} (time : Time) (w serial : ℕ) (sends : List (Sent P)) → not_later time sends ≡ 0 → sum_by (λ sent. as_count (time_at_most sent.rank.key.time time)) (stamped w serial sends) ≡ 0
stamped-later time w serial [] none = refl
stamped-later {P = P} time w serial (x ∷ xs) none =
    let first : Event P = record { rank = record { key = x.key; stamp = record { worker = w; serial = serial } }; dest = x.dest; payload = x.payload } in
    let a = sum_by-cons (λ (send : Sent P). as_count (time_at_most send.key.time time)) x xs in
    let b = sum_by-cons (λ (sent : Event P). as_count (time_at_most sent.rank.key.time time)) first (stamped w (serial + 1) xs) in
    let ih = stamped-later time w (serial + 1) xs (omega arith) in
    omega arith

-- what is later than something that is not before t is not before t
later-late : {P : Type 0} (sign : Sign) (t time : Time) (events : List (Event P)) → TimeAtMost t time → sum_by (λ sent. as_count (time_at_most sent.rank.key.time time)) events ≡ 0 →
    early_letters t (map (signed sign) events) ≡ 0
later-late sign t time [] h none = refl
later-late {P = P} sign t time (x ∷ xs) h none =
    let a = sum_by-cons (λ (sent : Event P). as_count (time_at_most sent.rank.key.time time)) x xs in
    let b = sum_by-cons (letter_weight (early t)) (signed sign x) (map (signed sign) xs) in
    let ih = later-late sign t time xs h (omega arith) in
    let late : TimeAtMost t x.rank.key.time =
    elim (time_at_most x.rank.key.time time) as (λ b. time_at_most x.rank.key.time time ≡ b → TimeAtMost t x.rank.key.time) [
      | true ↦ λ is. absurd (let c = ap as_count is in omega arith)
      | false ↦ λ is. (let after : TimeBefore time x.rank.key.time = grind (arith, nat_tests) in omega arith)
    ] refl in
    let c = late-none t sign x late in
    omega arith

-- ---- a local step

-- where all sends are later than their entries, no letter is before t unless one was, and all sends still are
pub record MakesNoneEarly {P : Type 0} (t : Time) (old new : Part P) : Type 0 where
  pub letters : part_entries hasty old ≡ 0 → early_in t old ≡ 0 → early_in t new ≡ 0
  pub entries : part_entries hasty old ≡ 0 → part_entries hasty new ≡ 0

module _ {S P : Type 0} (sim : Simulation S P) (lawful : IsLawful sim) (t : Time) (w : ℕ) where
  -- a process acts
  act-early : (index : ℕ) (part : Part P) (process : LogicalProcess P) (effect : ProcessEffect P) → process_at sim w index < sim.lps →
      slice_get part.processes index ≡ Some process → Act sim (process_at sim w index) w part.serial process effect → MakesNoneEarly t part (with_effect part index effect)
  unfolding effect_of_execute effect_of_undo
  act-early index part process effect known at (executes least rest pending follows effect_is) =
      let p = process_at sim w index in
      let triple = triple_after sim p (process.done ++ process.past) in
      let sends : List (Sent P) = (sim.fire p triple (unstamped least.event)).sends in
      let sent = stamped w part.serial sends in
      let entry : Entry P = record { event = least.event; sent = sent } in
      let b = effect-balance part index process (effect_of_execute sim p w part.serial process least rest) _ _ _ _ at (execute-balance sim p w part.serial process least rest pending) in
      let later : hasty entry ≡ 0 = stamped-later least.event.rank.key.time w part.serial sends (sends-later sim lawful p triple (unstamped least.event) known) in
      subst (λ a. MakesNoneEarly t part (with_effect part index a)) (sym effect_is) (record {
        letters = λ entries none.
            (let x = b.letters (early t) in
            let y = sum_by-single (letter_weight (early t)) (signed Plus least.event) in
            let z = sum-at (process_sum (early t)) part.processes index process at in
            let u = ap (sum_by (λ letter. early t Plus letter.event)) pending in
            let v = sum_by-cons (λ letter. early t Plus letter.event) least rest in
            let time = not-early t Plus least.event (omega arith) in
            let o = later-late Plus t least.event.rank.key.time sent time later in
            omega arith);
        entries = λ none. (let x = b.entries hasty in let y = sum_by-single hasty entry in omega arith);
      })
  act-early index part process effect known at (undoes last last_is must effect_is) =
      let b = effect-balance part index process (effect_of_undo process last) _ _ _ _ at (undo-balance process last last_is) in
      subst (λ a. MakesNoneEarly t part (with_effect part index a)) (sym effect_is) (record {
        letters = λ entries none.
            (let x = b.letters (early t) in
            let y = sum_by-cons (letter_weight (early t)) (signed Plus last.event) (map (signed Minus) last.sent) in
            let z = sum-at (process_sum (early t)) part.processes index process at in
            let e = sum-at (process_entries hasty) part.processes index process at in
            let f = (undo-balance process last last_is).entries hasty in
            let g = sum_by-single hasty last in
            let time : TimeAtMost t last.event.rank.key.time =
            elim (or_cases _ _ must) [
              | inl less ↦ any-late t last.event.rank.key.time (λ letter. rank_before letter.event.rank last.event.rank) process.pending (λ letter h. rank-time letter.event.rank last.event.rank h) (omega arith) less
              | inr most ↦ any-late t last.event.rank.key.time (λ letter. not (rank_before last.event.rank letter.event.rank)) process.waiting (λ letter h. not-after-time last.event.rank letter.event.rank h) (omega arith) most
            ] in
            let own = late-none t Plus last.event time in
            let o = later-late Minus t last.event.rank.key.time last.sent time (omega arith) in
            omega arith);
        entries = λ none. (let x = b.entries hasty in omega arith);
      })
  act-early index part process effect known at (cancels stamp minus plus waits pends keys effect_is) =
      let cancelled : ProcessEffect P = record {
        process = record process { pending = without_first (has_stamp stamp) process.pending; waiting = without_first (has_stamp stamp) process.waiting };
        letters = [];
        serials = 0;
      } in
      let b = effect-balance part index process cancelled _ _ _ _ at (cancel-balance process stamp minus plus waits pends) in
      subst (λ a. MakesNoneEarly t part (with_effect part index a)) (sym effect_is) (record {
        letters = λ entries none. (let x = b.letters (early t) in omega arith);
        entries = λ none. (let x = b.entries hasty in omega arith);
      })

  -- a process acts, or takes a letter
  pub local-early : (part after : Part P) → ((index : ℕ) (process : LogicalProcess P) → slice_get part.processes index ≡ Some process → process_at sim w index < sim.lps) →
      Local sim w part after → MakesNoneEarly t part after
  local-early part after known (acts index process effect at act after_is) =
      subst (λ a. MakesNoneEarly t part a) (sym after_is) (act-early index part process effect (known index process at) at act)
  local-early part after known (takes mid letter index process leaves at index_is free after_is) =
      let b = takes-balance sim w index part mid letter process leaves at in
      subst (λ a. MakesNoneEarly t part a) (sym after_is) (record {
        letters = λ entries none. (let x = b.letters (early t) in omega arith);
        entries = λ none. (let x = b.entries hasty in omega arith);
      })

-- it keeps the worker's colour, counts and red minimum
pub local-same : {S P : Type 0} (sim : Simulation S P) (w : ℕ) (part after : Part P) → Local sim w part after → SameCounts part after
local-same sim w part after (acts index process effect at act after_is) =
    subst (λ a. SameCounts part a) (sym after_is) (let same : SameCounts part (with_effect part index effect) = record { colour = refl; sent = refl; got = refl; red_minimum = refl } in same)
local-same sim w part after (takes mid letter index process (homes found mid_is) at index_is free after_is) =
    subst (λ a. SameCounts part a) (sym after_is)
    (record { colour = ap (λ a. a.colour) mid_is; sent = ap (λ a. a.sent) mid_is; got = ap (λ a. a.got) mid_is; red_minimum = ap (λ a. a.red_minimum) mid_is })
local-same sim w part after (takes mid letter index process (arrives i mail found same mid_is) at index_is free after_is) =
    subst (λ a. SameCounts part a) (sym after_is)
    (record { colour = ap (λ a. a.colour) mid_is; sent = ap (λ a. a.sent) mid_is; got = ap (λ a. a.got) mid_is; red_minimum = ap (λ a. a.red_minimum) mid_is })
