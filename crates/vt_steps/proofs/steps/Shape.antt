-- The shape of a world: as many parts and inboxes as workers, and each worker's processes. No step changes it, so the number
-- of each process that stands in a reached world is below lps.
use Rattle.std.proofs.Common.{◌≡◌, ℕ, suc, ◌+◌, ◌-◌, ◌*◌, ◌/◌, ◌%◌, ◌≤◌, ◌<◌, List, length, refl, sym, ◌∙◌, ap, subst, arith, Some, slice_get, slice_set}
use Rattle.std.specs.List.{range_with_len}
use Rattle.std.proofs.Math.ListN.{length-set}
use Rattle.std.proofs.Math.Nat.{le-div_iff_mul-le, div-add-mod', suc-mul, mod-lt}
use Rattle.std.proofs.lemmas.Nat.{mod-mul-add, div-mul-add}
use Rattle.std.proofs.lemmas.List.{length-map, length-replicate}
use Rattle.std.proofs.lemmas.List.FromFn.{length-map-range_with_len}
use Rattle.std.proofs.lemmas.Option.{slice_get_within}
use Rattle.vt_model.specs.promise.Simulation.{Simulation}
use Rattle.vt_steps.specs.declared.step.Step.{Step}
use Rattle.vt_steps.specs.inside.Claims.{HasEach}
use Rattle.vt_steps.specs.promise.Next.{reached}
use Rattle.vt_key.specs.declared.letter.Letter.{Letter}
use Rattle.vt_steps.specs.promise.World.{LogicalProcess, Part, World, process_at, process_count, opening_part, opening_world}
use Rattle.vt_steps.specs.promise.PartSteps.{part_after_commit, part_after_cut, part_after_fetch, part_after_send}
use Rattle.vt_steps.proofs.lists.Indices.{all-put, get-map, get-range, get-within}
use Rattle.vt_steps.proofs.steps.Changes.{Leaves, homes, arrives, Local, acts, takes, Change, stays, local, sends, fetches, cuts, reports, commits, closes, run_keeps}

-- ---- numbers of processes and their indices

module _ {S P : Type 0} (sim : Simulation S P) where
  -- a process has the number of its index
  pub own-index : (p : ℕ) → process_at sim (p % sim.workers) (p / sim.workers) ≡ p
  own-index p = div-add-mod' p sim.workers

  -- the worker of the process at an index
  pub worker-of_index : (w index : ℕ) → w < sim.workers → process_at sim w index % sim.workers ≡ w
  worker-of_index w index within = mod-mul-add index sim.workers w within

  -- and the index
  pub index-of_index : (w index : ℕ) → w < sim.workers → process_at sim w index / sim.workers ≡ index
  index-of_index w index within = div-mul-add index sim.workers w within

  -- a worker's indices are those of processes below lps
  pub index-known : (w index : ℕ) → w < sim.workers → index < process_count sim w → process_at sim w index < sim.lps
  index-known w index within less =
      let some : 0 < sim.workers = omega arith in
      let whole : suc index * sim.workers ≤ sim.lps + (sim.workers - 1) - w = (le-div_iff_mul-le {k = sim.workers} {x = suc index} {y = sim.lps + (sim.workers - 1) - w} some).0 less in
      let more : suc index * sim.workers ≡ index * sim.workers + sim.workers = suc-mul index sim.workers in
      omega arith

  -- and each process below lps has an index
  pub known-index : (p : ℕ) → 1 ≤ sim.workers → p < sim.lps → p / sim.workers < process_count sim (p % sim.workers)
  known-index p some less =
      let whole = own-index p in
      let within : p % sim.workers < sim.workers = mod-lt p some in
      let more : suc (p / sim.workers) * sim.workers ≡ p / sim.workers * sim.workers + sim.workers = suc-mul (p / sim.workers) sim.workers in
      let fits : suc (p / sim.workers) * sim.workers ≤ sim.lps + (sim.workers - 1) - p % sim.workers = omega arith in
      (le-div_iff_mul-le {k = sim.workers} {x = suc (p / sim.workers)} {y = sim.lps + (sim.workers - 1) - p % sim.workers} some).1 fits

-- ---- the shape of a world

-- as many of each as there are workers, and of processes as each worker has
pub record IsShaped {S P : Type 0} (sim : Simulation S P) (world : World P) : Type 0 where
  pub parts : length world.parts ≡ sim.workers
  pub inboxes : length world.inboxes ≡ sim.workers
  pub processes : (w : ℕ) (part : Part P) → slice_get world.parts w ≡ Some part → length part.processes ≡ process_count sim w

module _ {S P : Type 0} (sim : Simulation S P) where
  -- a letter that leaves a part leaves its processes
  leaves-processes : (w : ℕ) (old new : Part P) (letter : Letter P) → Leaves sim w old new letter → new.processes ≡ old.processes
  leaves-processes w old new letter (homes found e) = ap (λ part. part.processes) e
  leaves-processes w old new letter (arrives i mail at same e) = ap (λ part. part.processes) e

  -- a local step keeps the number of processes
  local-processes : (w : ℕ) (old new : Part P) → Local sim w old new → length new.processes ≡ length old.processes
  local-processes w old new (acts index process effect at act e) = ap (λ part. length part.processes) e ∙ length-set old.processes index effect.process
  local-processes w old new (takes part letter index process leaves at index_is free e) =
      ap (λ part. length part.processes) e ∙ length-set part.processes index _ ∙ ap length (leaves-processes w old part letter leaves)

  -- a part with as many processes takes a part's place
  part-shaped : (old new : World P) (w : ℕ) (part after : Part P) → IsShaped sim old → slice_get old.parts w ≡ Some part → new.parts ≡ slice_set old.parts w after → length new.inboxes ≡ length old.inboxes →
      length after.processes ≡ length part.processes → IsShaped sim new
  part-shaped old new w part after h is parts inboxes same = record {
    parts = ap length parts ∙ length-set old.parts w after ∙ h.parts;
    inboxes = inboxes ∙ h.inboxes;
    processes = λ v found at. all-put (λ j (z : Part P). length z.processes ≡ process_count sim j) old.parts w part after is h.processes (λ k. same ∙ k) v found (ap (λ ps. slice_get ps v) (sym parts) ∙ at);
  }

  -- each change keeps the shape
  pub shape-kept : (old new : World P) → Change sim old new → IsShaped sim old → IsShaped sim new
  unfolding part_after_send part_after_fetch part_after_cut part_after_commit
  shape-kept old new (stays e) h = subst (IsShaped sim) (sym e) h
  shape-kept old new (local w part after is change e) h =
      part-shaped old new w part after h is (ap (λ n. n.parts) e) (ap (λ n. length n.inboxes) e) (local-processes w part after change)
  shape-kept old new (sends w v part inbox is in_is e) h =
      part-shaped old new w part (part_after_send sim v part) h is (ap (λ n. n.parts) e) (ap (λ n. length n.inboxes) e ∙ length-set old.inboxes v _) refl
  shape-kept old new (fetches w part inbox is in_is none e) h =
      part-shaped old new w part (part_after_fetch inbox part) h is (ap (λ n. n.parts) e) (ap (λ n. length n.inboxes) e ∙ length-set old.inboxes w _) refl
  shape-kept old new (cuts w part board is cut_is e) h =
      part-shaped old new w part (part_after_cut sim.end old.board.announced part) h is (ap (λ n. n.parts) e) (ap (λ n. length n.inboxes) e) refl
  shape-kept old new (reports w part is may e) h = part-shaped old new w part _ h is (ap (λ n. n.parts) e) (ap (λ n. length n.inboxes) e) refl
  shape-kept old new (commits w part is open_is may e) h =
      part-shaped old new w part (part_after_commit part) h is (ap (λ n. n.parts) e) (ap (λ n. length n.inboxes) e) (length-map part.processes _)
  shape-kept old new (closes open_is at_end e) h = record {
    parts = ap (λ n. length n.parts) e ∙ h.parts;
    inboxes = ap (λ n. length n.inboxes) e ∙ h.inboxes;
    processes = λ v part at. h.processes v part (sym (ap (λ n. slice_get n.parts v) e) ∙ at);
  }

  -- the opening world has it
  pub opening-shape : (serial : ℕ) → IsShaped sim (opening_world sim serial)
  unfolding opening_world
  opening-shape serial = record {
    parts = length-map-range_with_len (opening_part sim serial) 0 sim.workers;
    inboxes = length-replicate sim.workers _;
    processes = λ w part at. (
        let from = get-map (opening_part sim serial) (range_with_len 0 sim.workers) w part at in
        let which = (get-range 0 sim.workers w from.0 from.1).0 in
        let same : from.0 ≡ w = omega arith in
        ap (λ (z : Part P). length z.processes) from.2 ∙ length-replicate (process_count sim from.0) _ ∙ ap (process_count sim) same);
  }

  -- and each reached world
  pub reached-shape : (serial : ℕ) (steps : List Step) → IsShaped sim (reached sim serial steps)
  reached-shape serial steps = run_keeps sim (IsShaped sim) (λ old new. shape-kept old new) steps (opening_world sim serial) (opening-shape serial)

  -- ---- processes of a shaped world

  -- each part is a worker's
  pub part-within : (world : World P) → IsShaped sim world → (w : ℕ) (part : Part P) → slice_get world.parts w ≡ Some part → w < sim.workers
  part-within world h w part at = let within = slice_get_within world.parts w part at in let size = h.parts in omega arith

  -- each process is one below lps
  pub process-known : (world : World P) → IsShaped sim world → (w index : ℕ) (part : Part P) (process : LogicalProcess P) → slice_get world.parts w ≡ Some part → slice_get part.processes index ≡ Some process →
      process_at sim w index < sim.lps
  process-known world h w index part process at there =
      index-known sim w index (part-within world h w part at) (let within = slice_get_within part.processes index process there in let size = h.processes w part at in omega arith)

  -- each process below lps is there, at its index of its worker
  pub known-process : (world : World P) → IsShaped sim world → (p : ℕ) (part : Part P) → 1 ≤ sim.workers → p < sim.lps → slice_get world.parts (p % sim.workers) ≡ Some part →
      (process : LogicalProcess P) × (slice_get part.processes (p / sim.workers) ≡ Some process)
  known-process world h p part some less at =
      get-within part.processes (p / sim.workers) (let fits = known-index sim p some less in let size = h.processes (p % sim.workers) part at in omega arith)

  -- so a shaped world has each part and each process, and no others
  pub shaped-has_each : (world : World P) → IsShaped sim world → 1 ≤ sim.workers → HasEach sim world
  shaped-has_each world h some = record {
    parts = h.parts;
    inboxes = h.inboxes;
    part = λ w less. there w less;
    process = λ p less. (
        let part = there (p % sim.workers) (mod-lt p some) in
        let process = known-process world h p part.0 some less part.1 in
        (process.0, (part.0, part.1, process.1)));
    known = λ p process is. subst (λ n. n < sim.lps) (own-index sim p) (process-known world h (p % sim.workers) (p / sim.workers) is.0 process is.1 is.2);
  }
    where
      there : (w : ℕ) → w < sim.workers → (part : Part P) × (slice_get world.parts w ≡ Some part)
      there w less = get-within world.parts w (let size = h.parts in omega arith)
