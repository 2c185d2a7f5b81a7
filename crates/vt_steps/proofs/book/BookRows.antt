-- What the book holds: the rows of all committed events; and no past event is before its worker's hand-in floor.
use Rattle.std.proofs.Common.{◌≡◌, inl, inr, ℕ, zero, suc, ◌+◌, ◌-◌, true, false, cond, List, [], ◌∷◌, ◌++◌, map, length, drop, replicate, refl, sym, subst, ◌∙◌, ap, arith, append_assoc, Option, Some, slice_get, slice_set}
use Rattle.std.specs.List.{sum_by, prefix_len, range_with_len, AllByRecursion}
use Rattle.std.proofs.lemmas.Bool.Decides.{nat_tests}
use Rattle.std.proofs.lemmas.List.{map-append}
use Rattle.std.proofs.lemmas.List.Sums.{sum_by-cons, sum_by-append}
use Rattle.vt_key.specs.inside.Order.{RankBefore}
use Rattle.vt_key.specs.promise.Times.{Time, TimeAtMost, time_before}
use Rattle.vt_key.specs.declared.letter.Letter.{Letter}
use Rattle.vt_key.specs.declared.letter.Sign.{Sign}
use Rattle.vt_key.specs.declared.letter.Sign.TheVariants.{Plus, Minus}
use Rattle.vt_key.specs.promise.Lists.{IsRisingBy}
use Rattle.vt_model.specs.declared.rows.Row.{Row}
use Rattle.vt_model.specs.declared.sending.Sent.{Sent}
use Rattle.vt_model.specs.promise.Simulation.{Simulation, Triple}
use Rattle.vt_model.proofs.RunLemmas.{after_from}
use Rattle.vt_steps.specs.inside.Copies.{process_sum}
use Rattle.vt_steps.specs.promise.BookSteps.{with_rows}
use Rattle.vt_steps.specs.promise.Letters.{stamped, unstamped}
use Rattle.vt_steps.specs.promise.PartSteps.{is_below, ripe, ripe_rows, rows_of_commit, process_after_commit, part_after_send, part_after_fetch, part_after_cut, part_after_commit}
use Rattle.vt_steps.specs.promise.ProcessSteps.{ProcessEffect, effect_of_execute, effect_of_undo, with_letter}
use Rattle.vt_steps.specs.promise.Rows.{rows_from}
use Rattle.vt_steps.specs.promise.World.{Entry, LogicalProcess, Part, World, entry_events, triple_after, process_at, process_count, opening_part, opening_world}
use Rattle.vt_steps.proofs.letters.Balance.{leaves-same}
use Rattle.vt_steps.proofs.steps.Changes.{Act, executes, undoes, cancels, Local, acts, takes, Change, stays, local, sends, fetches, cuts, reports, commits, closes}
use Rattle.vt_steps.proofs.time.Early.{early, early_in, not-early}
use Rattle.vt_steps.proofs.time.Flags.{put-cases}
use Rattle.vt_steps.proofs.time.Floors.{AreTimesSound, commit-has}
use Rattle.vt_key.proofs.ListLemmas.{every-append, every-take, every-weaker}
use Rattle.vt_steps.proofs.lists.Indices.{all-put, get-map, get-put_same, get-put_other, get-replicate}
use Rattle.vt_steps.proofs.letters.ProcessSums.{sum_by_index, sum_by_index-put}
use Rattle.vt_steps.proofs.letters.RankTimes.{rank-order-time}
use Rattle.vt_steps.proofs.lists.Sums.{sum-at}
use Rattle.vt_steps.proofs.steps.CommitRows.{rows_of_processes}

-- no entry is before a time
abbrev pub AreNotBefore : {P : Type 0} → Time → List (Entry P) → Type 0
AreNotBefore {P} t entries = AllByRecursion (λ (entry : Entry P). TimeAtMost t entry.event.rank.key.time) entries

-- the rows of what a process committed
abbrev pub committed_rows : {S P : Type 0} → Simulation S P → ℕ → List (Entry P) → List Row
committed_rows sim p done = rows_from sim p (sim.start p).triple (entry_events done)

module _ {S P : Type 0} (sim : Simulation S P) (f : Row → ℕ) where
  -- what the rows of the committed events weigh, of the process at an index of worker w
  abbrev pub process_rows : ℕ → ℕ → LogicalProcess P → ℕ
  process_rows w index process = sum_by f (committed_rows sim (process_at sim w index) process.done)

  -- of its part
  abbrev pub part_rows : ℕ → Part P → ℕ
  part_rows w part = sum_by_index (process_rows w) 0 part.processes

  -- of all parts
  abbrev pub world_rows : List (Part P) → ℕ
  world_rows parts = sum_by_index part_rows 0 parts

-- no past event of a part is before a hand-in floor, where there is one
abbrev pub IsPastLate : {P : Type 0} → Option Time → Part P → Type 0
IsPastLate {P} handed_in part = (floor : Time) → handed_in ≡ Some floor → (index : ℕ) (process : LogicalProcess P) → slice_get part.processes index ≡ Some process → AreNotBefore floor process.past

-- the book has the rows of all committed events, and no past event is before its worker's hand-in floor
pub record IsBooked {S P : Type 0} (sim : Simulation S P) (world : World P) : Type 0 where
  pub rows : (f : Row → ℕ) → sum_by f world.book.rows ≡ world_rows sim f world.parts
  pub past_late : (w : ℕ) (part : Part P) → slice_get world.parts w ≡ Some part → IsPastLate (slice_get world.book.floors w) part

-- ---- a step at a process

module _ {S P : Type 0} (sim : Simulation S P) (w : ℕ) where
  -- an act commits nothing
  act-done : (p serial : ℕ) (process : LogicalProcess P) (effect : ProcessEffect P) → Act sim p w serial process effect → effect.process.done ≡ process.done
  unfolding effect_of_execute effect_of_undo
  act-done p serial process effect (executes least rest pending may e) = ap (λ a. a.process.done) e
  act-done p serial process effect (undoes last last_is must e) = ap (λ a. a.process.done) e
  act-done p serial process effect (cancels stamp minus plus waits pends keys e) = ap (λ a. a.process.done) e

  -- where no letter is before a time, it leaves no past event before it
  act-late : (index : ℕ) (floor : Time) (part : Part P) (process : LogicalProcess P) (effect : ProcessEffect P) → early_in floor part ≡ 0 →
      slice_get part.processes index ≡ Some process → Act sim (process_at sim w index) w part.serial process effect → AreNotBefore floor process.past → AreNotBefore floor effect.process.past
  unfolding effect_of_execute effect_of_undo
  act-late index floor part process effect none at (executes least rest pending may e) h =
      let a = sum-at (process_sum (early floor)) part.processes index process at in
      let b = ap (sum_by (λ letter. early floor Plus letter.event)) pending in
      let c = sum_by-cons (λ letter. early floor Plus letter.event) least rest in
      let late = not-early floor Plus least.event (omega arith) in
      let p = process_at sim w index in
      let entry : Entry P = record { event = least.event; sent = stamped w part.serial (sim.fire p (triple_after sim p (process.done ++ process.past)) (unstamped least.event)).sends } in
      subst (λ a. AreNotBefore floor a.process.past) (sym e) (every-append (λ (x : Entry P). TimeAtMost floor x.event.rank.key.time) process.past (entry ∷ []) h (late, tt))
  act-late index floor part process effect none at (undoes last last_is must e) h =
      subst (λ a. AreNotBefore floor a.process.past) (sym e) (every-take (λ (x : Entry P). TimeAtMost floor x.event.rank.key.time) (length process.past - 1) process.past h)
  act-late index floor part process effect none at (cancels stamp minus plus waits pends keys e) h = subst (λ a. AreNotBefore floor a.process.past) (sym e) h

-- a letter that comes commits nothing, and leaves the past
letter-done : {P : Type 0} (process : LogicalProcess P) (sign : Sign) (letter : Letter P) → ((with_letter process sign letter).done ≡ process.done) × ((with_letter process sign letter).past ≡ process.past)
letter-done process Plus letter = (refl, refl)
letter-done process Minus letter = (refl, refl)

-- ---- a step at a part

module _ {S P : Type 0} (sim : Simulation S P) (w : ℕ) where
  -- nothing more is committed, and past events stay late
  record PartCommitsNothing (handed_in : Option Time) (old new : Part P) : Type 0 where
    pub rows : (f : Row → ℕ) → part_rows sim f w new ≡ part_rows sim f w old
    pub late : IsPastLate handed_in old → IsPastLate handed_in new

  -- the processes stay
  same-commits : (handed_in : Option Time) (old new : Part P) → new.processes ≡ old.processes → PartCommitsNothing handed_in old new
  same-commits handed_in old new e = record {
    rows = λ f. ap (sum_by_index (process_rows sim f w) 0) e;
    late = λ h floor has index process at. h floor has index process (ap (λ ps. slice_get ps index) (sym e) ∙ at);
  }

  -- one process gives way to another
  put-commits : (handed_in : Option Time) (old new : Part P) (index : ℕ) (process after : LogicalProcess P) → slice_get old.processes index ≡ Some process →
      new.processes ≡ slice_set old.processes index after → after.done ≡ process.done → ((floor : Time) → handed_in ≡ Some floor → AreNotBefore floor process.past → AreNotBefore floor after.past) →
      PartCommitsNothing handed_in old new
  put-commits handed_in old new index process after at e done past = record {
    rows = λ f. (
        let a = sum_by_index-put (process_rows sim f w) old.processes index process after at in
        let b : process_rows sim f w index after ≡ process_rows sim f w index process = ap (λ d. sum_by f (committed_rows sim (process_at sim w index) d)) done in
        let c = ap (sum_by_index (process_rows sim f w) 0) e in
        omega arith);
    late = λ h floor has. subst (λ ps. (j : ℕ) (q : LogicalProcess P) → slice_get ps j ≡ Some q → AreNotBefore floor q.past) (sym e)
        (all-put (λ j (q : LogicalProcess P). AreNotBefore floor q.past) old.processes index process after at (h floor has) (past floor has));
  }

  -- a local step, where no letter is before the hand-in floor
  local-commits : (handed_in : Option Time) (part after : Part P) → ((floor : Time) → handed_in ≡ Some floor → early_in floor part ≡ 0) → Local sim w part after → PartCommitsNothing handed_in part after
  local-commits handed_in part after none (acts index process effect at act e) =
      put-commits handed_in part after index process effect.process at (ap (λ n. n.processes) e) (act-done sim w (process_at sim w index) part.serial process effect act)
      (λ floor has. act-late sim w index floor part process effect (none floor has) at act)
  local-commits handed_in part after none (takes mid letter index process leaves at index_is free e) =
      let same = (leaves-same sim w part mid letter leaves).0 in
      let kept = letter-done process letter.sign letter in
      put-commits handed_in part after index process (with_letter process letter.sign letter) (ap (λ ps. slice_get ps index) (sym same) ∙ at)
      (ap (λ n. n.processes) e ∙ ap (λ ps. slice_set ps index (with_letter process letter.sign letter)) same) kept.0
      (λ floor has h. subst (AreNotBefore floor) (sym kept.1) h)

-- ---- Commit

-- the rows of two lists of events, the second after the first
pub rows_from-append : {S P : Type 0} (sim : Simulation S P) (p : ℕ) (triple : Triple S) (xs ys : List (Sent P)) →
    rows_from sim p triple (xs ++ ys) ≡ rows_from sim p triple xs ++ rows_from sim p (after_from sim p triple xs) ys
rows_from-append sim p triple [] ys = refl
rows_from-append sim p triple (x ∷ xs) ys =
    let fired = sim.fire p triple x in
    ap (λ l. fired.rows ++ l) (rows_from-append sim p fired.triple xs ys)
    ∙ sym (append_assoc fired.rows (rows_from sim p fired.triple xs) (rows_from sim p (after_from sim p fired.triple xs) ys))

module _ {S P : Type 0} (sim : Simulation S P) (f : Row → ℕ) (w : ℕ) (floor : Time) where
  -- what a process commits adds its rows
  commit-process_rows : (index : ℕ) (process : LogicalProcess P) →
      process_rows sim f w index (process_after_commit floor process) ≡ process_rows sim f w index process + sum_by f (ripe_rows sim (process_at sim w index) floor process)
  commit-process_rows index process =
      let p = process_at sim w index in
      ap (λ l. sum_by f (rows_from sim p (sim.start p).triple l)) (map-append (λ (e : Entry P). unstamped e.event) process.done (ripe floor process))
      ∙ ap (sum_by f) (rows_from-append sim p (sim.start p).triple (entry_events process.done) (entry_events (ripe floor process)))
      ∙ sum_by-append f (committed_rows sim p process.done) (ripe_rows sim p floor process)

  -- and so of all processes from an index on
  commit-rows : (index : ℕ) (processes : List (LogicalProcess P)) →
      sum_by_index (process_rows sim f w) index (map (process_after_commit floor) processes) ≡ sum_by_index (process_rows sim f w) index processes + sum_by f (rows_of_processes sim w floor index processes)
  commit-rows index [] = refl
  commit-rows index (process ∷ processes) =
      let a = commit-process_rows index process in
      let ih = commit-rows (index + 1) processes in
      let b = sum_by-append f (ripe_rows sim (process_at sim w index) floor process) (rows_of_processes sim w floor (index + 1) processes) in
      omega arith

-- of entries in rising rank, those behind the first ones before a floor are not before it
rest-late : {P : Type 0} (floor : Time) (entries : List (Entry P)) → IsRisingBy (λ (a b : Entry P). RankBefore a.event.rank b.event.rank) entries →
    AreNotBefore floor (drop (prefix_len (is_below floor) entries) entries)
rest-late floor [] r = tt
rest-late {P} floor (x ∷ xs) r =
    elim (is_below floor x) as (λ b. is_below floor x ≡ b → AreNotBefore floor (drop (cond b (1 + prefix_len (is_below floor) xs) 0) (x ∷ xs))) [
      | true ↦ λ is. subst (λ n. AreNotBefore floor (drop n (x ∷ xs))) (let z : suc (prefix_len (is_below floor) xs) ≡ 1 + prefix_len (is_below floor) xs = omega arith in z) (rest-late floor xs r.1)
      | false ↦ λ is. (
          let late : TimeAtMost floor x.event.rank.key.time = (let t : time_before x.event.rank.key.time floor ≡ false = is in grind (arith, nat_tests)) in (
            late,
            every-weaker (λ (y : Entry P). RankBefore x.event.rank y.event.rank) (λ (y : Entry P). TimeAtMost floor y.event.rank.key.time) xs
                (λ y before. let k = rank-order-time x.event.rank y.event.rank before in omega arith) r.0,
          ))
    ] refl

-- ---- each change

-- the past events of each process stand in rising rank
abbrev pub DoPastsRise : {P : Type 0} → World P → Type 0
DoPastsRise {P} world = (w index : ℕ) (part : Part P) (process : LogicalProcess P) → slice_get world.parts w ≡ Some part → slice_get part.processes index ≡ Some process →
    IsRisingBy (λ (a b : Entry P). RankBefore a.event.rank b.event.rank) process.past

module _ {S P : Type 0} (sim : Simulation S P) (old new : World P) (b : IsBooked sim old) where
  -- a part changes alone, and commits nothing
  part-booked : (w : ℕ) (part after : Part P) → slice_get old.parts w ≡ Some part → new.parts ≡ slice_set old.parts w after → new.book ≡ old.book →
      PartCommitsNothing sim w (slice_get old.book.floors w) part after → IsBooked sim new
  part-booked w part after is parts book step = record {
    rows = λ f. (
        let a = sum_by_index-put (part_rows sim f) old.parts w part after is in
        let c = step.rows f in
        let d = ap (sum_by_index (part_rows sim f) 0) parts in
        let e = ap (λ k. sum_by f k.rows) book in
        let was = b.rows f in
        omega arith);
    past_late = subst (λ k. (v : ℕ) (p : Part P) → slice_get new.parts v ≡ Some p → IsPastLate (slice_get k.floors v) p) (sym book)
        (subst (λ ps. (v : ℕ) (p : Part P) → slice_get ps v ≡ Some p → IsPastLate (slice_get old.book.floors v) p) (sym parts)
        (all-put (λ v (p : Part P). IsPastLate (slice_get old.book.floors v) p) old.parts w part after is b.past_late step.late));
  }

  -- of each change
  pub booked-kept : Change sim old new → AreTimesSound sim old → DoPastsRise old → IsBooked sim new
  unfolding part_after_send part_after_fetch part_after_cut part_after_commit rows_of_commit with_rows
  booked-kept (stays e) s rise = subst (IsBooked sim) (sym e) b
  booked-kept (local w part after is change e) s rise =
      part-booked w part after is (ap (λ n. n.parts) e) (ap (λ n. n.book) e)
      (local-commits sim w (slice_get old.book.floors w) part after
      (λ floor has. (
      let low = s.floors.handed_in w part floor is has in
      let high = s.floors.announced w part is in
      let none = (s.at floor).round.announced (omega arith) in
      let here = sum-at (early_in floor) old.parts w part is in
      omega arith)) change)
  booked-kept (sends w v part inbox is in_is e) s rise =
      part-booked w part (part_after_send sim v part) is (ap (λ n. n.parts) e) (ap (λ n. n.book) e) (same-commits sim w (slice_get old.book.floors w) part _ refl)
  booked-kept (fetches w part inbox is in_is none e) s rise =
      part-booked w part (part_after_fetch inbox part) is (ap (λ n. n.parts) e) (ap (λ n. n.book) e) (same-commits sim w (slice_get old.book.floors w) part _ refl)
  booked-kept (cuts w part board is cut_is e) s rise =
      part-booked w part (part_after_cut sim.end old.board.announced part) is (ap (λ n. n.parts) e) (ap (λ n. n.book) e) (same-commits sim w (slice_get old.book.floors w) part _ refl)
  booked-kept (reports w part is may e) s rise =
      part-booked w part _ is (ap (λ n. n.parts) e) (ap (λ n. n.book) e) (same-commits sim w (slice_get old.book.floors w) part _ refl)
  booked-kept (commits w part is open_is may e) s rise =
      let after = part_after_commit part in
      let parts = ap (λ n. n.parts) e in
      record {
        rows = λ f. (
            let a = sum_by_index-put (part_rows sim f) old.parts w part after is in
            let c = commit-rows sim f w part.floor 0 part.processes in
            let d = ap (sum_by_index (part_rows sim f) 0) parts in
            let g = ap (λ n. sum_by f n.book.rows) e in
            let split = sum_by-append f old.book.rows (rows_of_commit sim w part) in
            let was = b.rows f in
            omega arith);
        past_late = subst (λ n. (v : ℕ) (p : Part P) → slice_get n.parts v ≡ Some p → IsPastLate (slice_get n.book.floors v) p) (sym e)
            (λ v p at floor has index process there. elim (put-cases old.parts w v part after p is at) [
              | inl own ↦ (
                  let mine = (commit-has (slice_get old.book.floors w) part.floor may) in
                  let handed_in = get-put_same old.book.floors w mine.0 part.floor mine.1 in
                  let now : slice_get (slice_set old.book.floors w part.floor) w ≡ Some floor = ap (λ k. slice_get (slice_set old.book.floors w part.floor) k) (sym own.0) ∙ has in
                  let same : part.floor ≡ floor = cc in
                  let from = get-map (process_after_commit part.floor) part.processes index process (ap (λ q. slice_get q.processes index) (sym own.1) ∙ there) in
                  subst (λ t. AreNotBefore t process.past) same
                  (subst (λ q. AreNotBefore part.floor q.past) (sym from.2) (rest-late part.floor from.0.past (rise w index part from.0 is from.1))))
              | inr other ↦ b.past_late v p other.1 floor (sym (get-put_other old.book.floors w v part.floor other.0) ∙ has) index process there
            ]);
      }
  booked-kept (closes open_is at_end e) s rise = subst (IsBooked sim) (sym e) (record { rows = b.rows; past_late = b.past_late })

-- ---- the opening world

-- nothing is committed, and the book is empty
pub opening-booked : {S P : Type 0} (sim : Simulation S P) (serial : ℕ) → IsBooked sim (opening_world sim serial)
unfolding opening_world
opening-booked {P = P} sim serial = record {
  rows = λ f. sym (no-rows f 0 0 sim.workers);
  past_late = λ w part at floor has index process there. (
      let from = get-map (opening_part sim serial) (range_with_len 0 sim.workers) w part at in
      let is = get-replicate (process_count sim from.0) index empty process (ap (λ p. slice_get p.processes index) (sym from.2) ∙ there) in
      subst (λ (q : LogicalProcess P). AreNotBefore floor q.past) (sym is) tt);
}
  where
    empty : LogicalProcess P
    empty = record { done = []; past = []; pending = []; waiting = [] }

    no-process_rows : (f : Row → ℕ) (w i n : ℕ) → sum_by_index (process_rows sim f w) i (replicate n empty) ≡ 0
    no-process_rows f w i zero = refl
    no-process_rows f w i (suc n) = (let ih = no-process_rows f w (i + 1) n in omega arith)

    no-rows : (f : Row → ℕ) (i a n : ℕ) → sum_by_index (part_rows sim f) i (map (opening_part sim serial) (range_with_len a n)) ≡ 0
    no-rows f i a zero = refl
    no-rows f i a (suc n) =
        let x = no-process_rows f i 0 (process_count sim a) in
        let ih = no-rows f (i + 1) (a + 1) n in
        omega arith
