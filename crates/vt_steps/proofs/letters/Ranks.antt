-- The ranks of what each process has executed rise strictly, committed or not. Execute compares with the last past entry;
-- where all are committed, it is the announced time that keeps them before what comes: no committed event is at or after a
-- worker's floor, no floor is after the announced time, and no letter is before it.
use Rattle.std.proofs.Common.{◌≡◌, inl, inr, ℕ, zero, suc, ◌+◌, ◌-◌, ◌/◌, ◌%◌, ◌<◌, true, false, cond, List, [], ◌∷◌, ◌++◌, length, take, refl, sym, ◌∙◌, ap, subst, arith, append_assoc, append-nil, Option, Some, None, slice_get, slice_set}
use Rattle.std.specs.List.{AllPairs, flat_map, last_or, prefix_len, range_with_len, slice_index_or, AllByRecursion}
use Rattle.std.proofs.lemmas.Bool.{ltb-true}
use Rattle.vt_key.specs.promise.Order.{rank_before}
use Rattle.vt_key.specs.inside.Order.{RankBefore}
use Rattle.vt_key.specs.promise.Times.{Time, TimeAtMost, TimeBefore, opening_time}
use Rattle.vt_key.proofs.OrderLemmas.{rank-transitive, rank_before-true, before-rank_before}
use Rattle.vt_key.specs.declared.letter.Letter.{Letter}
use Rattle.vt_key.specs.declared.letter.Sign.{Sign}
use Rattle.vt_key.specs.declared.letter.Sign.TheVariants.{Plus, Minus}
use Rattle.vt_key.specs.promise.Lists.{Among, IsRisingBy}
use Rattle.vt_model.specs.promise.Histories.{IsLawful}
use Rattle.vt_model.specs.promise.Simulation.{Simulation}
use Rattle.vt_steps.specs.declared.step.Step.{Step}
use Rattle.vt_steps.specs.promise.Claims.{IsProcess}
use Rattle.vt_steps.specs.inside.Claims.{DoRanksRise}
use Rattle.vt_steps.specs.promise.Letters.{letter_time, stamped, unstamped}
use Rattle.vt_steps.specs.promise.Next.{reached}
use Rattle.vt_steps.specs.promise.PartSteps.{is_below, part_after_commit, part_after_cut, part_after_fetch, part_after_send, process_after_commit, with_effect}
use Rattle.vt_steps.specs.promise.ProcessSteps.{ProcessEffect, effect_of_execute, effect_of_undo, may_follow, with_letter}
use Rattle.vt_steps.specs.promise.World.{Entry, LogicalProcess, Part, World, all_letters, least, letters_in, opening_part, opening_world, process_at, process_count, triple_after, entry_rank}
use Rattle.vt_key.proofs.ListLemmas.{among-append, among-flat_map, among-left, among-right, every-among, every-append, every-weaker, get-among, no_last, rising-across, rising-append, rising-left}
use Rattle.vt_steps.proofs.lists.Indices.{all-put, get-map, get-replicate}
use Rattle.vt_steps.proofs.steps.Changes.{Act, executes, undoes, cancels, Leaves, homes, arrives, Local, acts, takes, Change, stays, local, sends, fetches, cuts, reports, commits, closes, run_keeps}
use Rattle.vt_steps.proofs.history.OwnHistories.{history-before_last, history-commit}
use Rattle.vt_steps.proofs.history.QuietHistories.{DoAllRanksRise, least-at_most}
use Rattle.vt_steps.proofs.time.Announced.{announced-least}
use Rattle.vt_steps.proofs.time.Floors.{AreTimesSound, floors-kept, opening-times, times-kept}

-- ---- ranks of entries

-- one entry's rank is before another's
abbrev pub IsEntryBefore : {P : Type 0} → Entry P → Entry P → Type 0
IsEntryBefore d e = RankBefore d.event.rank e.event.rank

-- a process whose ranks rise, and whose committed events are before the floor
pub record IsOrdered {P : Type 0} (floor : Time) (process : LogicalProcess P) : Type 0 where
  pub rising : IsRisingBy IsEntryBefore (process.done ++ process.past)
  pub committed : AllByRecursion (λ e. TimeBefore e.event.rank.key.time floor) process.done

module _ {P : Type 0} where
  -- what may follow the last past entry, and is not before the floor, follows all
  follows-all : (floor : Time) (process : LogicalProcess P) (new : Entry P) → IsOrdered floor process → may_follow entry_rank (last_or None process.past) new.event.rank ≡ true →
      TimeAtMost floor new.event.rank.key.time → (x : Entry P) → Among x (process.done ++ process.past) → IsEntryBefore x new
  follows-all floor process new ordered may late x m = by_last (last_or None process.past) refl may
    where
      by_last : (last : Option (Entry P)) → last_or None process.past ≡ last → may_follow entry_rank last new.event.rank ≡ true → IsEntryBefore x new
      by_last None is ok =
          let none : process.done ++ process.past ≡ process.done = ap (λ past. process.done ++ past) (no_last process.past is) ∙ append-nil process.done in
          let before = every-among (λ (e : Entry P). TimeBefore e.event.rank.key.time floor) process.done x ordered.committed (subst (Among x) none m) in
          inl (inl (omega arith))
      by_last (Some last) is ok =
          let front : List (Entry P) = process.done ++ take (length process.past - 1) process.past in
          let whole = history-before_last process last is in
          let rising : IsRisingBy IsEntryBefore (front ++ last ∷ []) = subst (IsRisingBy IsEntryBefore) whole ordered.rising in
          let step : IsEntryBefore last new = rank_before-true last.event.rank new.event.rank ok in
          elim (among-append x front (last ∷ []) (subst (Among x) whole m)) [
            | inl earlier ↦ rank-transitive x.event.rank last.event.rank new.event.rank (rising-across IsEntryBefore front (last ∷ []) rising x last earlier (inl refl)) step
            | inr same ↦ elim same [ inl e ↦ subst (λ z. IsEntryBefore z new) (sym e) step | inr none ↦ absurd none ]
          ]

  -- the floor rises
  ordered-raised : (floor higher : Time) (process : LogicalProcess P) → TimeAtMost floor higher → IsOrdered floor process → IsOrdered higher process
  ordered-raised floor higher process up h = record {
    rising = h.rising;
    committed = every-weaker (λ (e : Entry P). TimeBefore e.event.rank.key.time floor) (λ e. TimeBefore e.event.rank.key.time higher) process.done (λ e low. omega arith) h.committed;
  }

  -- those in front that are below the floor are before it
  front-before : (floor : Time) (xs : List (Entry P)) → AllByRecursion (λ e. TimeBefore e.event.rank.key.time floor) (take (prefix_len (is_below floor) xs) xs)
  front-before floor [] = tt
  front-before floor (x ∷ xs) =
      elim (is_below floor x) as (λ b. is_below floor x ≡ b → AllByRecursion (λ e. TimeBefore e.event.rank.key.time floor) (take (cond b (1 + prefix_len (is_below floor) xs) 0) (x ∷ xs))) [
        | true ↦ λ is.
            (let more : 1 + prefix_len (is_below floor) xs ≡ suc (prefix_len (is_below floor) xs) = omega arith in
            subst (λ n. AllByRecursion (λ e. TimeBefore e.event.rank.key.time floor) (take n (x ∷ xs))) (sym more) (ltb-true x.event.rank.key.time floor is, front-before floor xs))
        | false ↦ λ is. tt
      ] refl

  -- a process commits
  commit-ordered : (floor : Time) (process : LogicalProcess P) → IsOrdered floor process → IsOrdered floor (process_after_commit floor process)
  commit-ordered floor process h =
      let n = prefix_len (is_below floor) process.past in
      record {
        rising = subst (IsRisingBy IsEntryBefore) (history-commit n process) h.rising;
        committed = every-append (λ e. TimeBefore e.event.rank.key.time floor) process.done (take n process.past) h.committed (front-before floor process.past);
      }

  -- a process takes a letter
  with_letter-ordered : (floor : Time) (process : LogicalProcess P) (sign : Sign) (letter : Letter P) → IsOrdered floor process → IsOrdered floor (with_letter process sign letter)
  with_letter-ordered floor process Plus letter h = record { rising = h.rising; committed = h.committed }
  with_letter-ordered floor process Minus letter h = record { rising = h.rising; committed = h.committed }

-- a process acts, where nothing that is pending is before the floor
act-ordered : {S P : Type 0} (sim : Simulation S P) (p w serial : ℕ) (floor : Time) (old : LogicalProcess P) (effect : ProcessEffect P) → Act sim p w serial old effect →
    ((letter : Letter P) → Among letter old.pending → TimeAtMost floor (letter_time letter)) → IsOrdered floor old → IsOrdered floor effect.process
unfolding effect_of_execute effect_of_undo
act-ordered {P = P} sim p w serial floor old effect (executes least rest pending may is) late h =
    let entry : Entry P = record { event = least.event; sent = stamped w serial (sim.fire p (triple_after sim p (old.done ++ old.past)) (unstamped least.event)).sends } in
    let low = late least (subst (Among least) (sym pending) (inl refl)) in
    let longer : (old.done ++ old.past) ++ entry ∷ [] ≡ old.done ++ (old.past ++ entry ∷ []) = append_assoc old.done old.past (entry ∷ []) in
    subst (λ a. IsOrdered floor a.process) (sym is) (record {
      rising = subst (IsRisingBy IsEntryBefore) longer (rising-append IsEntryBefore (old.done ++ old.past) (entry ∷ []) h.rising (tt, tt)
          (λ x y m n. elim n [ inl e ↦ subst (IsEntryBefore x) (sym e) (follows-all floor old entry h may low x m) | inr none ↦ absurd none ]));
      committed = h.committed;
    })
act-ordered {P = P} sim p w serial floor old effect (undoes last last_is must is) late h =
    subst (λ a. IsOrdered floor a.process) (sym is) (record {
      rising = rising-left IsEntryBefore (old.done ++ take (length old.past - 1) old.past) (last ∷ []) (subst (IsRisingBy IsEntryBefore) (history-before_last old last last_is) h.rising);
      committed = h.committed;
    })
act-ordered sim p w serial floor old effect (cancels stamp minus plus waits pends keys is) late h =
    subst (λ a. IsOrdered floor a.process) (sym is) (record { rising = h.rising; committed = h.committed })

-- ---- parts and worlds

-- each process of the part is ordered, by the part's floor
pub IsOrderedPart : {P : Type 0} → Part P → Type 0
IsOrderedPart {P} part = (index : ℕ) (process : LogicalProcess P) → slice_get part.processes index ≡ Some process → IsOrdered part.floor process

module _ {P : Type 0} where
  -- a part with the same processes and a floor that has not fallen
  part-raised : (old new : Part P) → new.processes ≡ old.processes → TimeAtMost old.floor new.floor → IsOrderedPart old → IsOrderedPart new
  unfolding IsOrderedPart
  part-raised old new same up h index process at = ordered-raised old.floor new.floor process up (h index process (sym (ap (λ ps. slice_get ps index) same) ∙ at))

  -- a process gives way to an ordered one
  effect-ordered : (part : Part P) (index : ℕ) (process : LogicalProcess P) (effect : ProcessEffect P) → slice_get part.processes index ≡ Some process →
      (IsOrdered part.floor process → IsOrdered part.floor effect.process) → IsOrderedPart part → IsOrderedPart (with_effect part index effect)
  unfolding IsOrderedPart
  effect-ordered part index process effect at f h = all-put (λ j q. IsOrdered part.floor q) part.processes index process effect.process at h f

  -- a part commits
  part-commits : (part : Part P) → IsOrderedPart part → IsOrderedPart (part_after_commit part)
  unfolding IsOrderedPart part_after_commit
  part-commits part h index process at =
      let from = get-map (process_after_commit part.floor) part.processes index process at in
      subst (IsOrdered part.floor) (sym from.2) (commit-ordered part.floor from.0 (h index from.0 from.1))

module _ {S P : Type 0} (sim : Simulation S P) where
  -- a letter leaves
  leaves-ordered : (w : ℕ) (old new : Part P) (letter : Letter P) → Leaves sim w old new letter → IsOrderedPart old → IsOrderedPart new
  unfolding IsOrderedPart
  leaves-ordered w old new letter (homes found e) h = subst IsOrderedPart (sym e) h
  leaves-ordered w old new letter (arrives i mail at same e) h = subst IsOrderedPart (sym e) h

  -- a local step, where no letter of the part is before its floor
  local-ordered : (w : ℕ) (old new : Part P) → Local sim w old new → ((letter : Letter P) → Among letter (letters_in old) → TimeAtMost old.floor (letter_time letter)) → IsOrderedPart old → IsOrderedPart new
  local-ordered w old new (acts index process effect at act e) late h =
      let pending : (letter : Letter P) → Among letter process.pending → TimeAtMost old.floor (letter_time letter) =
      λ letter m. late letter
      (among-right letter _ _ (among-flat_map (λ (q : LogicalProcess P). q.pending ++ q.waiting) letter process old.processes (get-among old.processes index process at) (among-left letter process.pending process.waiting m))) in
      subst IsOrderedPart (sym e) (effect-ordered old index process effect at (act-ordered sim (process_at sim w index) w old.serial old.floor process effect act pending) h)
  local-ordered w old new (takes part letter index process leaves at index_is free e) late h =
      let effect : ProcessEffect P = record { process = with_letter process letter.sign letter; letters = []; serials = 0 } in
      subst IsOrderedPart (sym e) (effect-ordered part index process effect at (with_letter-ordered part.floor process letter.sign letter) (leaves-ordered w old part letter leaves h))

  -- each part of the world is ordered
  abbrev pub IsOrderedWorld : World P → Type 0
  IsOrderedWorld world = (w : ℕ) (part : Part P) → slice_get world.parts w ≡ Some part → IsOrderedPart part

  -- a part gives way to an ordered one
  part-ordered : (old new : World P) (w : ℕ) (part after : Part P) → slice_get old.parts w ≡ Some part → new.parts ≡ slice_set old.parts w after → (IsOrderedPart part → IsOrderedPart after) → IsOrderedWorld old → IsOrderedWorld new
  part-ordered old new w part after is e f h v found at = all-put (λ j z. IsOrderedPart z) old.parts w part after is h f v found (sym (ap (λ ps. slice_get ps v) e) ∙ at)

  -- each change keeps it, where no floor is after the announced time, no letter is before that, and it does not fall
  change-ordered : (old new : World P) → Change sim old new → TimeAtMost old.board.announced (least sim.end old) → ((w : ℕ) (part : Part P) → slice_get old.parts w ≡ Some part → TimeAtMost part.floor old.board.announced) →
      TimeAtMost old.board.announced new.board.announced → IsOrderedWorld old → IsOrderedWorld new
  unfolding part_after_send part_after_fetch part_after_cut
  change-ordered old new (stays e) low floors up h = subst IsOrderedWorld (sym e) h
  change-ordered old new (local w part after is change e) low floors up h =
      let late : (letter : Letter P) → Among letter (letters_in part) → TimeAtMost part.floor (letter_time letter) =
      λ letter m.
      (let floor = floors w part is in
      let here = least-at_most sim.end (all_letters old) letter (among-left letter (flat_map letters_in old.parts) _ (among-flat_map letters_in letter part old.parts (get-among old.parts w part is) m)) in
      omega arith) in
      part-ordered old new w part after is (ap (λ n. n.parts) e) (local-ordered w part after change late) h
  change-ordered old new (sends w v part inbox is in_is e) low floors up h =
      part-ordered old new w part (part_after_send sim v part) is (ap (λ n. n.parts) e) (part-raised part (part_after_send sim v part) refl (omega arith)) h
  change-ordered old new (fetches w part inbox is in_is none e) low floors up h =
      part-ordered old new w part (part_after_fetch inbox part) is (ap (λ n. n.parts) e) (part-raised part (part_after_fetch inbox part) refl (omega arith)) h
  change-ordered old new (cuts w part board is cut_is e) low floors up h =
      part-ordered old new w part (part_after_cut sim.end old.board.announced part) is (ap (λ n. n.parts) e) (part-raised part (part_after_cut sim.end old.board.announced part) refl (floors w part is)) h
  change-ordered old new (reports w part is may e) low floors up h =
      let floor = floors w part is in
      let same = ap (λ n. n.board.announced) e in
      part-ordered old new w part (record part { floor = _ }) is (ap (λ n. n.parts) e) (part-raised part (record part { floor = _ }) refl (omega arith)) h
  change-ordered old new (commits w part is open_is may e) low floors up h = part-ordered old new w part (part_after_commit part) is (ap (λ n. n.parts) e) (part-commits part) h
  change-ordered old new (closes open_is at_end e) low floors up h = λ v part at. h v part (sym (ap (λ n. slice_get n.parts v) e) ∙ at)

  -- at the opening nothing is executed
  opening-ordered : (serial : ℕ) → IsOrderedWorld (opening_world sim serial)
  unfolding opening_world IsOrderedPart
  opening-ordered serial w part at index process there =
      let empty : LogicalProcess P = record { done = []; past = []; pending = []; waiting = [] } in
      let from = get-map (opening_part sim serial) (range_with_len 0 sim.workers) w part at in
      let is = get-replicate (process_count sim from.0) index empty process (sym (ap (λ z. slice_get z.processes index) from.2) ∙ there) in
      subst (IsOrdered part.floor) (sym is) (record { rising = tt; committed = tt })

  -- so each reached world is ordered, where the simulation is lawful
  pub reached-ordered : IsLawful sim → (serial : ℕ) (steps : List Step) → IsOrderedWorld (reached sim serial steps)
  reached-ordered lawful serial steps =
      (run_keeps sim (λ world. AreTimesSound sim world × IsOrderedWorld world)
      (λ old new change h. (
        times-kept sim lawful old new change h.0,
        change-ordered old new change (announced-least sim old h.0.at) h.0.floors.announced (floors-kept sim old new (h.0.at opening_time).round.least_end h.0.floors change).announced h.1,
      ))
      steps (opening_world sim serial) (opening-times sim lawful serial, opening-ordered serial)).1

  -- the ranks of each process rise
  pub reached-ranks : IsLawful sim → (serial : ℕ) (steps : List Step) → DoAllRanksRise sim (reached sim serial steps)
  unfolding IsOrderedPart
  reached-ranks lawful serial steps p process is = (reached-ordered lawful serial steps (p % sim.workers) is.0 is.1 (p / sim.workers) process is.2).rising

  -- what each process has committed is before its worker's floor
  pub reached-committed : IsLawful sim → (serial : ℕ) (steps : List Step) (w index : ℕ) (part : Part P) (process : LogicalProcess P) → slice_get (reached sim serial steps).parts w ≡ Some part →
      slice_get part.processes index ≡ Some process → AllByRecursion (λ e. TimeBefore e.event.rank.key.time part.floor) process.done
  unfolding IsOrderedPart
  reached-committed lawful serial steps w index part process at there = (reached-ordered lawful serial steps w part at index process there).committed

-- ---- by indices, as the claim says it

-- what stands at an index of a list is one of it
among-at : {X : Type 0} (xs : List X) (j : ℕ) (d : X) → j < length xs → Among (slice_index_or xs j d) xs
among-at [] j d h = absurd (omega arith)
among-at (x ∷ xs) zero d h = inl refl
among-at (x ∷ xs) (suc j) d h = inr (among-at xs j d (omega arith))

-- a rising list, by its indices and the test of ranks
rising-pairs : {P : Type 0} (xs : List (Entry P)) → IsRisingBy IsEntryBefore xs → AllPairs (λ (a b : Entry P). rank_before a.event.rank b.event.rank ≡ true) xs
rising-pairs [] h i j d less within = absurd (omega arith)
rising-pairs (x ∷ xs) h i zero d less within = absurd (omega arith)
rising-pairs (x ∷ xs) h zero (suc j) d less within =
    before-rank_before x.event.rank (slice_index_or xs j d).event.rank (every-among (IsEntryBefore x) xs (slice_index_or xs j d) h.0 (among-at xs j d (omega arith)))
rising-pairs (x ∷ xs) h (suc i) (suc j) d less within = rising-pairs xs h.1 i j d (omega arith) (omega arith)

-- the ranks of each reached world rise
pub ranks_rise : {S P : Type 0} (sim : Simulation S P) → IsLawful sim → (serial : ℕ) (steps : List Step) (p : ℕ) (process : LogicalProcess P) →
    IsProcess sim (reached sim serial steps) p process → DoRanksRise process
ranks_rise sim lawful serial steps p process is = rising-pairs (process.done ++ process.past) (reached-ranks sim lawful serial steps p process is)
