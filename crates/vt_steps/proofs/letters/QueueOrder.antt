-- The pending messages of each process stand in strictly rising rank, and so do its waiting anti-messages. A letter comes only
-- where none of its rank is held; and no two events that are pending or past have one rank, so an event that is undone comes
-- back among others.
use Rattle.std.proofs.Common.{◌≡◌, inl, inr, ℕ, zero, suc, ◌-◌, ◌/◌, ◌%◌, ◌||◌, Bool, true, false, List, [], ◌∷◌, ◌++◌, length, take, drop, refl, sym, ◌∙◌, ap, subst, Some, slice_get, slice_set}
use Rattle.std.specs.List.{list_any, prefix_len, range_with_len}
use Rattle.std.proofs.lemmas.Bool.{cases_Bool}
use Rattle.vt_key.specs.promise.Order.{rank_before, rank_same}
use Rattle.vt_key.specs.inside.Order.{RankBefore}
use Rattle.vt_key.specs.promise.Lists.{Among, IsRisingBy}
use Rattle.vt_key.specs.promise.Queues.{has_rank, has_stamp, letter_rank, without_first}
use Rattle.vt_key.specs.inside.Queues.{holds_rank, IsRising}
use Rattle.vt_key.specs.declared.letter.Letter.{Letter}
use Rattle.vt_key.specs.declared.letter.Sign.{Sign}
use Rattle.vt_key.specs.declared.letter.Sign.TheVariants.{Plus, Minus}
use Rattle.vt_key.specs.declared.order.Rank.{Rank}
use Rattle.vt_key.proofs.ListLemmas.{among-append, among-left, among-right, before_last, every-all, every-among, every-without_first, insert_ordered-among, rising-across, rising-append, rising-left}
use Rattle.vt_key.proofs.OrderLemmas.{rank-irreflexive, rank_same-true, same-rank_same}
use Rattle.vt_key.proofs.RisingLemmas.{first-false, second-false, IsRising-insert, IsRising-without}
use Rattle.vt_model.specs.promise.Simulation.{Simulation}
use Rattle.vt_steps.specs.declared.step.Step.{Step}
use Rattle.vt_steps.specs.promise.Claims.{IsProcess}
use Rattle.vt_steps.specs.inside.Claims.{DoQueuesRise}
use Rattle.vt_steps.specs.promise.Letters.{signed, stamped, unstamped}
use Rattle.vt_steps.specs.promise.Next.{reached}
use Rattle.vt_steps.specs.promise.PartSteps.{is_below, part_after_commit, part_after_cut, part_after_fetch, part_after_send, process_after_commit, with_effect}
use Rattle.vt_steps.specs.promise.ProcessSteps.{ProcessEffect, effect_of_execute, effect_of_undo, holds, with_letter}
use Rattle.vt_steps.specs.promise.World.{Entry, LogicalProcess, Part, World, entry_rank, opening_part, opening_world, process_at, process_count, triple_after}
use Rattle.vt_steps.proofs.lists.Indices.{all-put, get-map, get-replicate}
use Rattle.vt_steps.proofs.steps.Changes.{Act, executes, undoes, cancels, Leaves, homes, arrives, Local, acts, takes, Change, stays, local, sends, fetches, cuts, reports, commits, closes, run_keeps}

-- the entries have different ranks
abbrev DoRanksDiffer : {P : Type 0} → Entry P → Entry P → Type 0
DoRanksDiffer d e = d.event.rank ≡ e.event.rank → ⊥

-- the queues of a process rise, and no two of its events that are pending or past have one rank
pub record IsQueued {P : Type 0} (process : LogicalProcess P) : Type 0 where
  pub queues : DoQueuesRise process
  pub past : IsRisingBy DoRanksDiffer process.past
  pub apart : (letter : Letter P) (e : Entry P) → Among letter process.pending → Among e process.past → letter.event.rank ≡ e.event.rank → ⊥

-- ---- ranks that are not there

-- where no element passes, this one doesn't
none-passes : {X : Type 0} (test : X → Bool) (xs : List X) (x : X) → list_any test xs ≡ false → Among x xs → test x ≡ false
none-passes test [] x none m = absurd m
none-passes test (y ∷ ys) x none m =
    elim m [ inl e ↦ ap test e ∙ first-false (test y) (list_any test ys) none | inr n ↦ none-passes test ys x (second-false (test y) (list_any test ys) none) n ]

-- ranks that are not the same differ
ranks-differ : (a b : Rank) → rank_same a b ≡ false → a ≡ b → ⊥
ranks-differ a b other same = let e : true ≡ false = sym (same-rank_same a) ∙ ap (rank_same a) same ∙ other in cc

-- a rank from which those of all letters differ is not held
none-held : {P : Type 0} (rank : Rank) (letters : List (Letter P)) → ((letter : Letter P) → Among letter letters → letter.event.rank ≡ rank → ⊥) → holds_rank rank letters ≡ false
none-held rank [] apart = refl
none-held rank (x ∷ xs) apart =
    elim (cases_Bool (rank_same x.event.rank rank)) [
      | inl same ↦ absurd (apart x (inl refl) (rank_same-true x.event.rank rank same))
      | inr other ↦ ap (λ b. b || holds_rank rank xs) other ∙ none-held rank xs (λ letter m. apart letter (inr m))
    ]

-- what stands among the others, where the first that passes is left out, stands among all
without-among : {X : Type 0} (test : X → Bool) (xs : List X) (x : X) → Among x (without_first test xs) → Among x xs
without-among test xs x m = every-among (λ y. Among y xs) (without_first test xs) x (every-without_first (λ y. Among y xs) test xs (every-all (λ y. Among y xs) xs (λ y n. n))) m

-- what stands among all but the first ones stands among all
drop-among : {X : Type 0} (n : ℕ) (xs : List X) (x : X) → Among x (drop n xs) → Among x xs
drop-among zero xs x m = m
drop-among (suc n) [] x m = m
drop-among (suc n) (y ∷ ys) x m = inr (drop-among n ys x m)

-- all but the first ones of a list still rise
rising-drop : {X : Type 0} (R : X → X → Type 0) (n : ℕ) (xs : List X) → IsRisingBy R xs → IsRisingBy R (drop n xs)
rising-drop R zero xs h = h
rising-drop R (suc n) [] h = tt
rising-drop R (suc n) (x ∷ xs) h = rising-drop R n xs h.1

-- ---- at a process

-- a process acts
act-queued : {S P : Type 0} (sim : Simulation S P) (p w serial : ℕ) (old : LogicalProcess P) (effect : ProcessEffect P) → Act sim p w serial old effect → IsQueued old → IsQueued effect.process
unfolding effect_of_execute effect_of_undo
act-queued {P = P} sim p w serial old effect (executes least rest pending may is) h =
    let entry : Entry P = record { event = least.event; sent = stamped w serial (sim.fire p (triple_after sim p (old.done ++ old.past)) (unstamped least.event)).sends } in
    let rises : IsRising (least ∷ rest) = subst IsRising pending h.queues.pending in
    let first : Among least old.pending = subst (Among least) (sym pending) (inl refl) in
    subst (λ a. IsQueued a.process) (sym is) (record {
      queues = record { pending = rises.1; waiting = h.queues.waiting };
      past = rising-append DoRanksDiffer old.past (entry ∷ []) h.past (tt, tt)
          (λ x y m n same. elim n [ inl e ↦ h.apart least x first m (sym (same ∙ ap (λ (z : Entry P). z.event.rank) e)) | inr none ↦ none ]);
      apart = λ letter e m n same. elim (among-append e old.past (entry ∷ []) n) [
        | inl before ↦ h.apart letter e (subst (Among letter) (sym pending) (inr m)) before same
        | inr last ↦ elim last [
          | inl at ↦
              rank-irreflexive least.event.rank (subst (RankBefore least.event.rank) (same ∙ ap (λ (z : Entry P). z.event.rank) at)
              (every-among (λ (l : Letter P). RankBefore (letter_rank least) (letter_rank l)) rest letter rises.0 m))
          | inr none ↦ none
        ]
      ];
    })
act-queued {P = P} sim p w serial old effect (undoes last last_is must is) h =
    let front : List (Entry P) = take (length old.past - 1) old.past in
    let whole : old.past ≡ front ++ last ∷ [] = before_last old.past last last_is in
    let differ : IsRisingBy DoRanksDiffer (front ++ last ∷ []) = subst (IsRisingBy DoRanksDiffer) whole h.past in
    let there : Among last old.past = subst (Among last) (sym whole) (among-right last front (last ∷ []) (inl refl)) in
    let none : holds_rank last.event.rank old.pending ≡ false = none-held last.event.rank old.pending (λ letter m. h.apart letter last m there) in
    let back : Letter P = signed Plus last.event in
    subst (λ a. IsQueued a.process) (sym is) (record {
      queues = record { pending = IsRising-insert back old.pending none h.queues.pending; waiting = h.queues.waiting };
      past = rising-left DoRanksDiffer front (last ∷ []) differ;
      apart = λ letter e m n same. elim (insert_ordered-among (λ a b. rank_before (letter_rank a) (letter_rank b)) back old.pending letter m) [
        | inl at ↦ rising-across DoRanksDiffer front (last ∷ []) differ e last n (inl refl) (sym same ∙ ap (λ (l : Letter P). l.event.rank) at)
        | inr k ↦ h.apart letter e k (subst (Among e) (sym whole) (among-left e front (last ∷ []) n)) same
      ];
    })
act-queued sim p w serial old effect (cancels stamp minus plus waits pends keys is) h =
    subst (λ a. IsQueued a.process) (sym is) (record {
      queues = record { pending = IsRising-without (has_stamp stamp) old.pending h.queues.pending; waiting = IsRising-without (has_stamp stamp) old.waiting h.queues.waiting };
      past = h.past;
      apart = λ letter e m n. h.apart letter e (without-among (has_stamp stamp) old.pending letter m) n;
    })

module _ {P : Type 0} where
  -- a process takes a letter that it doesn't hold
  with_letter-queued : (process : LogicalProcess P) (sign : Sign) (letter : Letter P) → holds entry_rank process.pending process.waiting process.past sign letter.event.rank ≡ false → IsQueued process →
      IsQueued (with_letter process sign letter)
  with_letter-queued process Plus letter free h =
      let in_past : Entry P → Bool = λ e. rank_same e.event.rank letter.event.rank in
      let not_pending = first-false (list_any (has_rank letter.event.rank) process.pending) (list_any in_past process.past) free in
      let not_past = second-false (list_any (has_rank letter.event.rank) process.pending) (list_any in_past process.past) free in
      record {
        queues = record { pending = IsRising-insert letter process.pending not_pending h.queues.pending; waiting = h.queues.waiting };
        past = h.past;
        apart = λ l e m n same. elim (insert_ordered-among (λ a b. rank_before (letter_rank a) (letter_rank b)) letter process.pending l m) [
          | inl at ↦ ranks-differ e.event.rank letter.event.rank (none-passes in_past process.past e not_past n) (sym same ∙ ap (λ (z : Letter P). z.event.rank) at)
          | inr k ↦ h.apart l e k n same
        ];
      }
  with_letter-queued process Minus letter free h =
      record { queues = record { pending = h.queues.pending; waiting = IsRising-insert letter process.waiting free h.queues.waiting }; past = h.past; apart = h.apart }

-- ---- parts and worlds

-- the queues of each process of the part rise
pub IsQueuedPart : {P : Type 0} → Part P → Type 0
IsQueuedPart {P} part = (index : ℕ) (process : LogicalProcess P) → slice_get part.processes index ≡ Some process → IsQueued process

module _ {P : Type 0} where
  -- a part with the same processes
  same-queued : (old new : Part P) → new.processes ≡ old.processes → IsQueuedPart old → IsQueuedPart new
  unfolding IsQueuedPart
  same-queued old new same h index process at = h index process (sym (ap (λ ps. slice_get ps index) same) ∙ at)

  -- a process gives way to another
  effect-queued : (part : Part P) (index : ℕ) (process : LogicalProcess P) (effect : ProcessEffect P) → slice_get part.processes index ≡ Some process →
      (IsQueued process → IsQueued effect.process) → IsQueuedPart part → IsQueuedPart (with_effect part index effect)
  unfolding IsQueuedPart
  effect-queued part index process effect at f h = all-put (λ j q. IsQueued q) part.processes index process effect.process at h f

  -- a part commits
  part-commits : (part : Part P) → IsQueuedPart part → IsQueuedPart (part_after_commit part)
  unfolding IsQueuedPart part_after_commit
  part-commits part h index process at =
      let from = get-map (process_after_commit part.floor) part.processes index process at in
      let was = h index from.0 from.1 in
      let n = prefix_len (is_below part.floor) from.0.past in
      subst IsQueued (sym from.2) (record {
        queues = record { pending = was.queues.pending; waiting = was.queues.waiting };
        past = rising-drop DoRanksDiffer n from.0.past was.past;
        apart = λ letter e m k. was.apart letter e m (drop-among n from.0.past e k);
      })

module _ {S P : Type 0} (sim : Simulation S P) where
  -- a letter leaves
  leaves-queued : (w : ℕ) (old new : Part P) (letter : Letter P) → Leaves sim w old new letter → IsQueuedPart old → IsQueuedPart new
  unfolding IsQueuedPart
  leaves-queued w old new letter (homes found e) h = subst IsQueuedPart (sym e) h
  leaves-queued w old new letter (arrives i mail at same e) h = subst IsQueuedPart (sym e) h

  -- a local step
  local-queued : (w : ℕ) (old new : Part P) → Local sim w old new → IsQueuedPart old → IsQueuedPart new
  local-queued w old new (acts index process effect at act e) h =
      subst IsQueuedPart (sym e) (effect-queued old index process effect at (act-queued sim (process_at sim w index) w old.serial process effect act) h)
  local-queued w old new (takes part letter index process leaves at index_is free e) h =
      let effect : ProcessEffect P = record { process = with_letter process letter.sign letter; letters = []; serials = 0 } in
      subst IsQueuedPart (sym e) (effect-queued part index process effect at (with_letter-queued process letter.sign letter free) (leaves-queued w old part letter leaves h))

  -- the queues of each process of the world rise
  abbrev IsQueuedWorld : World P → Type 0
  IsQueuedWorld world = (w : ℕ) (part : Part P) → slice_get world.parts w ≡ Some part → IsQueuedPart part

  -- a part gives way to another
  part-queued : (old new : World P) (w : ℕ) (part after : Part P) → slice_get old.parts w ≡ Some part → new.parts ≡ slice_set old.parts w after → (IsQueuedPart part → IsQueuedPart after) → IsQueuedWorld old → IsQueuedWorld new
  part-queued old new w part after is e f h v found at = all-put (λ j z. IsQueuedPart z) old.parts w part after is h f v found (sym (ap (λ ps. slice_get ps v) e) ∙ at)

  -- each change keeps it
  change-queued : (old new : World P) → Change sim old new → IsQueuedWorld old → IsQueuedWorld new
  unfolding part_after_send part_after_fetch part_after_cut
  change-queued old new (stays e) h = subst IsQueuedWorld (sym e) h
  change-queued old new (local w part after is change e) h = part-queued old new w part after is (ap (λ n. n.parts) e) (local-queued w part after change) h
  change-queued old new (sends w v part inbox is in_is e) h = part-queued old new w part (part_after_send sim v part) is (ap (λ n. n.parts) e) (same-queued part (part_after_send sim v part) refl) h
  change-queued old new (fetches w part inbox is in_is none e) h = part-queued old new w part (part_after_fetch inbox part) is (ap (λ n. n.parts) e) (same-queued part (part_after_fetch inbox part) refl) h
  change-queued old new (cuts w part board is cut_is e) h =
      part-queued old new w part (part_after_cut sim.end old.board.announced part) is (ap (λ n. n.parts) e) (same-queued part (part_after_cut sim.end old.board.announced part) refl) h
  change-queued old new (reports w part is may e) h = part-queued old new w part (record part { floor = _ }) is (ap (λ n. n.parts) e) (same-queued part (record part { floor = _ }) refl) h
  change-queued old new (commits w part is open_is may e) h = part-queued old new w part (part_after_commit part) is (ap (λ n. n.parts) e) (part-commits part) h
  change-queued old new (closes open_is at_end e) h = λ v part at. h v part (sym (ap (λ n. slice_get n.parts v) e) ∙ at)

  -- at the opening no letter has come
  opening-queued : (serial : ℕ) → IsQueuedWorld (opening_world sim serial)
  unfolding opening_world IsQueuedPart
  opening-queued serial w part at index process there =
      let empty : LogicalProcess P = record { done = []; past = []; pending = []; waiting = [] } in
      let from = get-map (opening_part sim serial) (range_with_len 0 sim.workers) w part at in
      let is = get-replicate (process_count sim from.0) index empty process (sym (ap (λ z. slice_get z.processes index) from.2) ∙ there) in
      subst IsQueued (sym is) (record { queues = record { pending = tt; waiting = tt }; past = tt; apart = λ letter e m n same. m })

  -- so the queues of each reached world rise
  pub queues_rise : (serial : ℕ) (steps : List Step) (p : ℕ) (process : LogicalProcess P) → IsProcess sim (reached sim serial steps) p process → DoQueuesRise process
  unfolding IsQueuedPart
  queues_rise serial steps p process is =
      (run_keeps sim IsQueuedWorld change-queued steps (opening_world sim serial) (opening-queued serial) (p % sim.workers) is.0 is.1 (p / sim.workers) process is.2).queues
