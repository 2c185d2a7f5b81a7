-- The entries of each process, by its number; and where a stamp is counted, there is a letter, an entry or a sent event that
-- has it.
use Rattle.std.proofs.Common.{◌≡◌, ℕ, ◌+◌, ◌/◌, ◌%◌, ◌≤◌, ◌<◌, inl, inr, Bool, true, false, List, [], ◌++◌, map, refl, sym, ◌∙◌, ap, subst, arith, Option, Some, None, slice_get}
use Rattle.std.specs.List.{sum_by, flat_map}
use Rattle.std.specs.Option.{option_and_then}
use Rattle.std.proofs.lemmas.Bool.{and_parts}
use Rattle.vt_key.specs.promise.Order.{stamp_same}
use Rattle.vt_key.proofs.OrderLemmas.{stamp_same-true, same-stamp_same}
use Rattle.vt_key.specs.declared.letter.Event.{Event}
use Rattle.vt_key.specs.declared.letter.Letter.{Letter}
use Rattle.vt_key.specs.declared.letter.Sign.{Sign}
use Rattle.vt_key.specs.declared.letter.Sign.TheVariants.{Plus, Minus}
use Rattle.vt_key.specs.declared.order.Stamp.{Stamp}
use Rattle.vt_key.specs.promise.Lists.{Among}
use Rattle.vt_model.specs.promise.Simulation.{Simulation}
use Rattle.vt_steps.specs.promise.Claims.{IsProcess}
use Rattle.vt_steps.specs.inside.Copies.{letter_weight, mail_weight, process_sum, part_sum, letter_sum, process_entries, part_entries, entry_sum, as_count, is_sign, is_copy, of_stamp}
use Rattle.vt_steps.specs.promise.World.{Entry, LogicalProcess, Part, World, letters_in, all_letters, process_at}
use Rattle.vt_key.proofs.ListLemmas.{among-left, among-right, among-append, among-flat_map, among-map, every-among, every-append, every-get}
use Rattle.vt_steps.proofs.lists.Sums.{some-at, some-among, some-either, sum-among, sum-at}
use Rattle.vt_steps.proofs.steps.Changes.{chain_has}
use Rattle.vt_steps.proofs.steps.Shape.{IsShaped, process-known, part-within, index-of_index, worker-of_index}
use Rattle.vt_steps.proofs.steps.Everywhere.{InEntry, InProcess, InWorld, part-in}

-- ---- by the number of a process

-- what a process has executed, if it is there
abbrev pub entries_in : {P : Type 0} → Option (LogicalProcess P) → List (Entry P)
entries_in None = []
entries_in (Some process) = process.done ++ process.past

module _ {S P : Type 0} (sim : Simulation S P) (world : World P) where
  -- process p, if it is there
  abbrev pub process_of : ℕ → Option (LogicalProcess P)
  process_of p = option_and_then (λ part. slice_get part.processes (p / sim.workers)) (slice_get world.parts (p % sim.workers))

  -- what process p has executed, committed or not
  abbrev pub entries_of : ℕ → List (Entry P)
  entries_of p = entries_in (process_of p)

  -- the process that is there
  is-process : (p : ℕ) (process : LogicalProcess P) → process_of p ≡ Some process → IsProcess sim world p process
  is-process p process is = chain_has (λ part. slice_get part.processes (p / sim.workers)) (slice_get world.parts (p % sim.workers)) process is

  -- and the way back
  process-is : (p : ℕ) (process : LogicalProcess P) → IsProcess sim world p process → process_of p ≡ Some process
  process-is p process is = ap (option_and_then (λ part. slice_get part.processes (p / sim.workers))) is.1 ∙ is.2

  -- its entries are those
  pub entries-of_process : (p : ℕ) (process : LogicalProcess P) → IsProcess sim world p process → entries_of p ≡ process.done ++ process.past
  entries-of_process p process is = ap entries_in (process-is p process is)

  -- what holds of no entries, and of those of the process that is there, holds of a process's entries
  pub by-process : (p : ℕ) (Q : List (Entry P) → Type 0) → Q [] → ((process : LogicalProcess P) → IsProcess sim world p process → Q (process.done ++ process.past)) → Q (entries_of p)
  by-process p Q nothing some = of (process_of p) refl
    where
      of : (o : Option (LogicalProcess P)) → process_of p ≡ o → Q (entries_in o)
      of None is = nothing
      of (Some process) is = some process (is-process p process is)

  -- the process at an index of a worker has its number
  pub process-at_index : (w index : ℕ) (part : Part P) (process : LogicalProcess P) → w < sim.workers → slice_get world.parts w ≡ Some part → slice_get part.processes index ≡ Some process →
      IsProcess sim world (process_at sim w index) process
  process-at_index w index part process within at there =
      let rest = worker-of_index sim w index within in
      let whole = index-of_index sim w index within in
      (part, ap (slice_get world.parts) rest ∙ at, ap (slice_get part.processes) whole ∙ there)

-- ---- an entry and the sums

module _ {S P : Type 0} (sim : Simulation S P) (world : World P) where
  -- what holds everywhere holds in each entry
  pub entry-in : (Q : Event P → Type 0) → InWorld Q world → (p : ℕ) (entry : Entry P) → Among entry (entries_of sim world p) → InEntry Q entry
  entry-in Q h p entry =
      by-process sim world p (λ l. Among entry l → InEntry Q entry) (λ m. absurd m)
      (λ process is m.
      (let part = part-in Q world (p % sim.workers) is.0 is.1 h in
      let here = every-get (InProcess Q) is.0.processes (p / sim.workers) process is.2 part.processes in
      every-among (InEntry Q) (process.done ++ process.past) entry (every-append (InEntry Q) process.done process.past here.done here.past) m))

  -- an entry weighs at most what all do
  pub entry-counted : (g : Entry P → ℕ) (p : ℕ) (entry : Entry P) → Among entry (entries_of sim world p) → g entry ≤ entry_sum g world
  unfolding entry_sum
  entry-counted g p entry =
      by-process sim world p (λ l. Among entry l → g entry ≤ entry_sum g world) (λ m. absurd m)
      (λ process is m.
      (let a = sum-at (part_entries g) world.parts (p % sim.workers) is.0 is.1 in
      let b = sum-at (process_entries g) is.0.processes (p / sim.workers) process is.2 in
      let c : g entry ≤ sum_by g process.done + sum_by g process.past =
      elim (among-append entry process.done process.past m) [ inl k ↦ (let d = sum-among g process.done entry k in omega arith) | inr k ↦ (let d = sum-among g process.past entry k in omega arith) ] in
      omega arith))

  -- where the entries weigh something, an entry of a process below lps does
  pub entry-found : IsShaped sim world → (g : Entry P → ℕ) → 1 ≤ entry_sum g world → (p : ℕ) × (p < sim.lps) × (entry : Entry P) × Among entry (entries_of sim world p) × (1 ≤ g entry)
  unfolding entry_sum
  entry-found shape g h =
      let r = some-at (part_entries g) world.parts h in
      let s = some-at (process_entries g) r.1.processes r.3 in
      let here : (entry : Entry P) × Among entry (s.1.done ++ s.1.past) × (1 ≤ g entry) =
      elim (some-either (sum_by g s.1.done) (sum_by g s.1.past) s.3) [
        | inl a ↦ (let t = some-among g s.1.done a in (t.0, among-left t.0 s.1.done s.1.past t.1, t.2))
        | inr b ↦ (let t = some-among g s.1.past b in (t.0, among-right t.0 s.1.done s.1.past t.1, t.2))
      ] in
      let is = process-at_index sim world r.0 s.0 r.1 s.1 (part-within sim world shape r.0 r.1 r.2) r.2 s.2 in (
        process_at sim r.0 s.0,
        process-known sim world shape r.0 s.0 r.1 s.1 r.2 s.2,
        here.0,
        subst (Among here.0) (sym (entries-of_process sim world (process_at sim r.0 s.0) s.1 is)) here.1,
        here.2,
      )

-- ---- a count of a stamp

-- what is counted passed the test
counted-true : (b : Bool) → 1 ≤ as_count b → b ≡ true
counted-true true h = refl
counted-true false h = absurd (let z : as_count false ≡ 0 = refl in omega arith)

module _ {P : Type 0} where
  -- an event counts for its own stamp
  pub own-stamp : (event : Event P) → of_stamp event.rank.stamp event ≡ 1
  own-stamp event = ap as_count (same-stamp_same event.rank.stamp)

  -- an event that counts for a stamp has it
  pub stamp-counted : (stamp : Stamp) (event : Event P) → 1 ≤ of_stamp stamp event → event.rank.stamp ≡ stamp
  stamp-counted stamp event h = stamp_same-true event.rank.stamp stamp (counted-true _ h)

  -- and so has a letter that does
  copy-stamp : (sign own : Sign) (stamp : Stamp) (event : Event P) → 1 ≤ is_copy sign stamp own event → event.rank.stamp ≡ stamp
  copy-stamp sign own stamp event h = stamp_same-true event.rank.stamp stamp (and_parts (is_sign sign own) (stamp_same event.rank.stamp stamp) (counted-true _ h)).1

  module _ (sign : Sign) (stamp : Stamp) where
    -- a stamp that is counted among the letters of a part is on one of them
    part-letter : (part : Part P) → 1 ≤ part_sum (is_copy sign stamp) part → (letter : Letter P) × Among letter (letters_in part) × (letter.event.rank.stamp ≡ stamp)
    part-letter part h =
        let came : List (Letter P) = map (λ mail. mail.letter) part.arrived in
        let queued : List (Letter P) = flat_map (λ process. process.pending ++ process.waiting) part.processes in
        let f : Sign → Event P → ℕ = is_copy sign stamp in
        elim (some-either (sum_by (letter_weight f) part.outbox) (sum_by (mail_weight f) part.arrived + sum_by (process_sum f) part.processes) h) [
          | inl a ↦ (let r = some-among (letter_weight f) part.outbox a in (r.0, among-left r.0 (part.outbox ++ came) queued (among-left r.0 part.outbox came r.1), copy-stamp sign r.0.sign stamp r.0.event r.2))
          | inr b ↦ elim (some-either (sum_by (mail_weight f) part.arrived) (sum_by (process_sum f) part.processes) b) [
            | inl a ↦ (
                let r = some-among (mail_weight f) part.arrived a in (
                  r.0.letter,
                  among-left r.0.letter (part.outbox ++ came) queued (among-right r.0.letter part.outbox came (among-map (λ mail. mail.letter) r.0 part.arrived r.1)),
                  copy-stamp sign r.0.letter.sign stamp r.0.letter.event r.2,
                ))
            | inr c ↦ (
                let r = some-among (process_sum f) part.processes c in
                let here : (letter : Letter P) × Among letter (r.0.pending ++ r.0.waiting) × (letter.event.rank.stamp ≡ stamp) =
                elim (some-either (sum_by (λ letter. f Plus letter.event) r.0.pending) (sum_by (λ letter. f Minus letter.event) r.0.waiting) r.2) [
                  | inl a ↦ (let s = some-among (λ letter. f Plus letter.event) r.0.pending a in (s.0, among-left s.0 r.0.pending r.0.waiting s.1, copy-stamp sign Plus stamp s.0.event s.2))
                  | inr d ↦ (let s = some-among (λ letter. f Minus letter.event) r.0.waiting d in (s.0, among-right s.0 r.0.pending r.0.waiting s.1, copy-stamp sign Minus stamp s.0.event s.2))
                ] in
                (here.0, among-right here.0 (part.outbox ++ came) queued (among-flat_map (λ process. process.pending ++ process.waiting) here.0 r.0 part.processes r.1 here.1), here.2))
          ]
        ]

    -- a stamp that is counted among the letters of a world is on one of them
    pub letter-found : (world : World P) → 1 ≤ letter_sum (is_copy sign stamp) world → (letter : Letter P) × Among letter (all_letters world) × (letter.event.rank.stamp ≡ stamp)
    unfolding letter_sum
    letter-found world h =
        let f : Sign → Event P → ℕ = is_copy sign stamp in
        elim (some-either (sum_by (part_sum f) world.parts) (sum_by (sum_by (mail_weight f)) world.inboxes) h) [
          | inl a ↦ (
              let r = some-among (part_sum f) world.parts a in
              let s = part-letter r.0 r.2 in
              (s.0, among-left s.0 (flat_map letters_in world.parts) _ (among-flat_map letters_in s.0 r.0 world.parts r.1 s.1), s.2))
          | inr b ↦ (
              let r = some-among (sum_by (mail_weight f)) world.inboxes b in
              let s = some-among (mail_weight f) r.0 r.2 in (
                s.0.letter,
                among-right s.0.letter (flat_map letters_in world.parts) _ (among-map (λ mail. mail.letter) s.0 (flat_map (λ inbox. inbox) world.inboxes) (among-flat_map (λ inbox. inbox) s.0 r.0 world.inboxes r.1 s.1)),
                copy-stamp sign s.0.letter.sign stamp s.0.letter.event s.2,
              ))
        ]
