-- The guards on letters never fail: a letter that comes home or is accepted finds its process, which does not hold it already.
-- If it did, its stamp would have two plus copies, or two minus copies.
use Rattle.std.proofs.Common.{◌≡◌, inl, inr, ℕ, ◌+◌, ◌/◌, ◌%◌, ◌≤◌, ◌<◌, Bool, true, false, cond, List, [], ◌∷◌, refl, ◌∙◌, ap, arith, Option, Some, None, slice_get, Ok}
use Rattle.std.specs.List.{sum_by, find, list_any, remove}
use Rattle.std.specs.Option.{option_map, option_and_then}
use Rattle.std.proofs.lemmas.Bool.{eqb-true, or_cases, and_parts}
use Rattle.vt_key.specs.promise.Order.{key_same, rank_same, stamp_same}
use Rattle.vt_key.specs.promise.Queues.{has_rank, without_first}
use Rattle.vt_key.proofs.OrderLemmas.{same-stamp_same}
use Rattle.vt_key.specs.declared.letter.Event.{Event}
use Rattle.vt_key.specs.declared.letter.Letter.{Letter}
use Rattle.vt_key.specs.declared.letter.Mail.{Mail}
use Rattle.vt_key.specs.declared.letter.Sign.{Sign}
use Rattle.vt_key.specs.declared.letter.Sign.TheVariants.{Plus, Minus}
use Rattle.vt_key.specs.declared.order.Rank.{Rank}
use Rattle.vt_key.specs.declared.order.Stamp.{Stamp}
use Rattle.vt_key.specs.promise.Lists.{Among}
use Rattle.vt_model.specs.promise.Histories.{IsLawful}
use Rattle.vt_model.specs.promise.Simulation.{Simulation}
use Rattle.vt_steps.specs.declared.step.Reply.TheVariants.{Done}
use Rattle.vt_steps.specs.declared.step.Step.{Step}
use Rattle.vt_steps.specs.declared.step.Step.TheVariants.{Home, Accept}
use Rattle.vt_steps.specs.inside.Copies.{as_count, entry_sum, is_copy, is_event_of, letter_sum, letter_weight, mail_weight, minus, part_entries, part_sum, plus, process_entries, process_sum}
use Rattle.vt_steps.specs.promise.Next.{done_or_refused, next, reached, with_part}
use Rattle.vt_steps.specs.promise.PartSteps.{accept, deliver, home, is_for, with_effect}
use Rattle.vt_steps.specs.promise.ProcessSteps.{accept_process, holds, with_letter}
use Rattle.vt_steps.specs.promise.World.{Entry, LogicalProcess, Part, World, entry_rank}
use Rattle.vt_key.proofs.ListLemmas.{every-among, every-get, find-among, find-passes, get-among}
use Rattle.vt_steps.proofs.lists.Sums.{sum-among, sum-at}
use Rattle.vt_steps.proofs.steps.Shape.{known-process, reached-shape}
use Rattle.vt_steps.proofs.letters.Stamps.{StampFacts, stamp-facts}
use Rattle.vt_steps.proofs.steps.Everywhere.{part-in}
use Rattle.vt_steps.proofs.history.OwnHistories.{reached-own}
use Rattle.vt_steps.proofs.steps.Bounds.{IsBounded, reached-bounds}

-- ---- a letter that is held

-- where some element passes there is one that does
any-among : {X : Type 0} (test : X → Bool) (xs : List X) → list_any test xs ≡ true → (x : X) × Among x xs × (test x ≡ true)
any-among test [] h = absurd (let k : false ≡ true = h in cc)
any-among test (x ∷ xs) h =
    elim (or_cases (test x) (list_any test xs) h) [ inl t ↦ (x, inl refl, t) | inr t ↦ (let r = any-among test xs t in (r.0, inr r.1, r.2)) ]

module _ {P : Type 0} where
  -- a letter is a copy of its own stamp
  own-copy : (sign : Sign) (event : Event P) → is_copy sign event.rank.stamp sign event ≡ 1
  own-copy Plus event = ap as_count (same-stamp_same event.rank.stamp)
  own-copy Minus event = ap as_count (same-stamp_same event.rank.stamp)

  -- one of a rank has its stamp
  rank-stamp : (event : Event P) (rank : Rank) → rank_same event.rank rank ≡ true → stamp_same event.rank.stamp rank.stamp ≡ true
  unfolding rank_same
  rank-stamp event rank h = (and_parts (key_same event.rank.key rank.key) (stamp_same event.rank.stamp rank.stamp) h).1

  -- so it is a copy of it
  rank-copy : (sign : Sign) (event : Event P) (rank : Rank) → rank_same event.rank rank ≡ true → is_copy sign rank.stamp sign event ≡ 1
  rank-copy Plus event rank h = ap as_count (rank-stamp event rank h)
  rank-copy Minus event rank h = ap as_count (rank-stamp event rank h)

  -- the letters of a part weigh at most what all do
  part-letters : (f : Sign → Event P → ℕ) (world : World P) (w : ℕ) (part : Part P) → slice_get world.parts w ≡ Some part → part_sum f part ≤ letter_sum f world
  unfolding letter_sum
  part-letters f world w part at = let a = sum-at (part_sum f) world.parts w part at in omega arith

  -- and so do its entries
  part-entries : (g : Entry P → ℕ) (world : World P) (w : ℕ) (part : Part P) → slice_get world.parts w ≡ Some part → part_entries g part ≤ entry_sum g world
  unfolding entry_sum
  part-entries g world w part at = sum-at (part_entries g) world.parts w part at

-- a copy in the outbox or the arrived mail, and one at the process: one too many
not-held : {S P : Type 0} (sim : Simulation S P) (serial : ℕ) (world : World P) (w index : ℕ) (part : Part P) (process : LogicalProcess P) (sign : Sign) (rank : Rank) → StampFacts sim serial rank.stamp world →
    slice_get world.parts w ≡ Some part → slice_get part.processes index ≡ Some process →
    1 ≤ sum_by (letter_weight (is_copy sign rank.stamp)) part.outbox + sum_by (mail_weight (is_copy sign rank.stamp)) part.arrived → holds entry_rank process.pending process.waiting process.past sign rank ≡ true → ⊥
not-held {P = P} sim serial world w index part process Plus rank facts at there outside h =
    let f : Sign → Event P → ℕ = is_copy Plus rank.stamp in
    let g : Entry P → ℕ = is_event_of rank.stamp in
    let a = part-letters f world w part at in
    let b = part-entries g world w part at in
    let c = sum-at (process_sum f) part.processes index process there in
    let d = sum-at (process_entries g) part.processes index process there in
    let one = facts.at_most_one in
    let whole : plus world rank.stamp ≡ letter_sum f world + entry_sum g world = refl in
    let letters : part_sum f part ≡ sum_by (letter_weight f) part.outbox + (sum_by (mail_weight f) part.arrived + sum_by (process_sum f) part.processes) = refl in
    elim (or_cases (list_any (has_rank rank) process.pending) (list_any (λ entry. rank_same entry.event.rank rank) process.past) h) [
      | inl k ↦ (
          let r = any-among (has_rank rank) process.pending k in
          let e = sum-among (λ letter. f Plus letter.event) process.pending r.0 r.1 in
          let i = rank-copy Plus r.0.event rank r.2 in
          let queued : process_sum f process ≡ sum_by (λ letter. f Plus letter.event) process.pending + sum_by (λ letter. f Minus letter.event) process.waiting = refl in
          omega arith)
      | inr k ↦ (
          let r = any-among (λ (entry : Entry P). rank_same entry.event.rank rank) process.past k in
          let e = sum-among g process.past r.0 r.1 in
          let i : g r.0 ≡ 1 = ap as_count (rank-stamp r.0.event rank r.2) in
          let executed : process_entries g process ≡ sum_by g process.done + sum_by g process.past = refl in
          let all : part_entries g part ≡ sum_by (process_entries g) part.processes = refl in
          omega arith)
    ]
not-held {P = P} sim serial world w index part process Minus rank facts at there outside h =
    let f : Sign → Event P → ℕ = is_copy Minus rank.stamp in
    let a = part-letters f world w part at in
    let c = sum-at (process_sum f) part.processes index process there in
    let one = facts.at_most_one in
    let balance = facts.balance in
    let whole : minus world rank.stamp ≡ letter_sum f world = refl in
    let r = any-among (has_rank rank) process.waiting h in
    let e = sum-among (λ letter. f Minus letter.event) process.waiting r.0 r.1 in
    let i = rank-copy Minus r.0.event rank r.2 in
    let letters : part_sum f part ≡ sum_by (letter_weight f) part.outbox + (sum_by (mail_weight f) part.arrived + sum_by (process_sum f) part.processes) = refl in
    let queued : process_sum f process ≡ sum_by (λ letter. f Plus letter.event) process.pending + sum_by (λ letter. f Minus letter.event) process.waiting = refl in
    omega arith

-- ---- Home and Accept

module _ {S P : Type 0} (sim : Simulation S P) where
  -- a letter that its process does not hold gets there
  delivered : (part : Part P) (letter : Letter P) (process : LogicalProcess P) → slice_get part.processes (letter.event.dest / sim.workers) ≡ Some process →
      (holds entry_rank process.pending process.waiting process.past letter.sign letter.event.rank ≡ true → ⊥) → (after : Part P) × (deliver sim part letter ≡ Some after)
  unfolding accept_process
  delivered part letter process there free = by_held (holds entry_rank process.pending process.waiting process.past letter.sign letter.event.rank) refl
    where
      by_held : (b : Bool) → holds entry_rank process.pending process.waiting process.past letter.sign letter.event.rank ≡ b → (after : Part P) × (deliver sim part letter ≡ Some after)
      by_held true e = absurd (free e)
      by_held false e = (
        with_effect part (letter.event.dest / sim.workers) (record { process = with_letter process letter.sign letter; letters = []; serials = 0 }),
        ap (λ o. option_map (with_effect part (letter.event.dest / sim.workers)) (option_and_then (accept_process letter) o)) there
            ∙ ap (λ b. option_map (with_effect part (letter.event.dest / sim.workers)) (cond b None (Some (record { process = with_letter process letter.sign letter; letters = []; serials = 0 })))) e,
      )

  -- a local step that goes on from a part is answered as done
  local-done : (world : World P) (w : ℕ) (part after : Part P) (step : Part P → Option (Part P)) → slice_get world.parts w ≡ Some part → step part ≡ Some after →
      (done_or_refused world (option_map (with_part world w) (option_and_then step (slice_get world.parts w)))).answer ≡ Ok Done
  local-done world w part after step at goes =
      ap (λ o. (done_or_refused world (option_map (with_part world w) (option_and_then step o))).answer) at ∙ ap (λ o. (done_or_refused world (option_map (with_part world w) o)).answer) goes

  module _ (lawful : IsLawful sim) (serial : ℕ) (steps : List Step) (w : ℕ) (part : Part P) (at : slice_get (reached sim serial steps).parts w ≡ Some part) where
    -- the process that a letter of w is for is there
    receiver-there : (letter : Letter P) → is_for sim.workers w letter ≡ true → letter.event.dest < sim.lps → (process : LogicalProcess P) × (slice_get part.processes (letter.event.dest / sim.workers) ≡ Some process)
    receiver-there letter for_w known =
        let own : letter.event.dest % sim.workers ≡ w = eqb-true (letter.event.dest % sim.workers) w for_w in
        known-process sim (reached sim serial steps) (reached-shape sim serial steps) letter.event.dest part lawful.some_worker known (ap (slice_get (reached sim serial steps).parts) own ∙ at)

    -- a letter that comes home is not held there
    pub homes-done : (letter : Letter P) → find (is_for sim.workers w) part.outbox ≡ Some letter → (next sim (reached sim serial steps) (Home w)).answer ≡ Ok Done
    unfolding next
    homes-done letter found =
        let world = reached sim serial steps in
        let stamp : Stamp = letter.event.rank.stamp in
        let member = find-among (is_for sim.workers w) part.outbox letter found in
        let bounded = every-among (λ (l : Letter P). IsBounded sim l.event) part.outbox letter (part-in (IsBounded sim) world w part at (reached-bounds sim lawful serial steps)).outbox member in
        let process = receiver-there letter (find-passes (is_for sim.workers w) part.outbox letter found) bounded.known in
        let counted = sum-among (letter_weight (is_copy letter.sign stamp)) part.outbox letter member in
        let one : letter_weight (is_copy letter.sign stamp) letter ≡ 1 = own-copy letter.sign letter.event in
        let free = not-held sim serial world w (letter.event.dest / sim.workers) part process.0 letter.sign letter.event.rank (stamp-facts sim serial stamp steps) at process.1 (omega arith) in
        let left : Part P = record part { outbox = without_first (is_for sim.workers w) part.outbox } in
        let after = delivered left letter process.0 process.1 free in
        let goes : home sim w part ≡ Some after.0 = ap (option_and_then (deliver sim left)) found ∙ after.1 in
        local-done world w part after.0 (home sim w) at goes

    -- a letter that is accepted is not held there
    pub accepts-done : (i : ℕ) (mail : Mail P) → slice_get part.arrived i ≡ Some mail → (next sim (reached sim serial steps) (Accept w i)).answer ≡ Ok Done
    unfolding next
    accepts-done i mail there =
        let world = reached sim serial steps in
        let letter : Letter P = mail.letter in
        let stamp : Stamp = letter.event.rank.stamp in
        let bounded = every-get (λ (m : Mail P). IsBounded sim m.letter.event) part.arrived i mail there (part-in (IsBounded sim) world w part at (reached-bounds sim lawful serial steps)).arrived in
        let for_w = every-get (λ (m : Mail P). is_for sim.workers w m.letter ≡ true) part.arrived i mail there ((reached-own sim serial steps).parts w part at).arrived in
        let process = receiver-there letter for_w bounded.known in
        let counted = sum-among (mail_weight (is_copy letter.sign stamp)) part.arrived mail (get-among part.arrived i mail there) in
        let one : mail_weight (is_copy letter.sign stamp) mail ≡ 1 = own-copy letter.sign letter.event in
        let free = not-held sim serial world w (letter.event.dest / sim.workers) part process.0 letter.sign letter.event.rank (stamp-facts sim serial stamp steps) at process.1 (omega arith) in
        let left : Part P = record part { arrived = remove part.arrived i } in
        let after = delivered left letter process.0 process.1 free in
        let goes : accept sim i part ≡ Some after.0 = ap (option_and_then (λ (m : Mail P). deliver sim left m.letter)) there ∙ after.1 in
        local-done world w part after.0 (accept sim i) at goes
