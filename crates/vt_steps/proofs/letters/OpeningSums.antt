-- Sums over the opening world: its letters are what the starts sent, and nothing is executed.
use Rattle.std.proofs.Common.{◌≡◌, ℕ, ◌+◌, ◌<◌, List, [], map, length, ◌∙◌, ap, arith}
use Rattle.std.specs.List.{sum_by, range_with_len}
use Rattle.std.specs.Option.{option_map_or}
use Rattle.std.proofs.lemmas.List.Folds.{sum_by-replicate}
use Rattle.vt_key.specs.declared.letter.Event.{Event}
use Rattle.vt_key.specs.declared.letter.Mail.{Mail}
use Rattle.vt_key.specs.declared.letter.Sign.{Sign}
use Rattle.vt_key.specs.declared.letter.Sign.TheVariants.{Plus}
use Rattle.vt_model.specs.promise.Simulation.{Simulation}
use Rattle.vt_steps.specs.inside.Copies.{letter_weight, mail_weight, process_sum, part_sum, letter_sum, process_entries, part_entries, entry_sum, serial_at}
use Rattle.vt_steps.specs.promise.Letters.{signed}
use Rattle.vt_steps.specs.promise.World.{Entry, LogicalProcess, opening_part, opening_world, process_count, start_events, start_sends}
use Rattle.vt_steps.proofs.lists.Indices.{get-map_range}
use Rattle.vt_steps.proofs.lists.Sums.{sum_by-map, sum_by-same, sum_by-zero}

module _ {S P : Type 0} (sim : Simulation S P) (serial : ℕ) where
  -- the letters of a part
  part-letters : (f : Sign → Event P → ℕ) (w : ℕ) → part_sum f (opening_part sim serial w) ≡ sum_by (letter_weight f) (map (signed Plus) (start_events sim serial w))
  part-letters f w =
      let empty : LogicalProcess P = record { done = []; past = []; pending = []; waiting = [] } in
      let a = sum_by-replicate (process_sum f) (process_count sim w) empty in
      omega arith

  -- the entries of a part
  part-nothing : (g : Entry P → ℕ) (w : ℕ) → part_entries g (opening_part sim serial w) ≡ 0
  part-nothing g w =
      let empty : LogicalProcess P = record { done = []; past = []; pending = []; waiting = [] } in
      let a = sum_by-replicate (process_entries g) (process_count sim w) empty in
      omega arith

  -- the letters of the world
  pub opening-letters : (f : Sign → Event P → ℕ) → letter_sum f (opening_world sim serial) ≡ sum_by (λ w. sum_by (letter_weight f) (map (signed Plus) (start_events sim serial w))) (range_with_len 0 sim.workers)
  unfolding letter_sum opening_world
  opening-letters f =
      let none : List (Mail P) = [] in
      let a = sum_by-map (part_sum f) (opening_part sim serial) (range_with_len 0 sim.workers) in
      let b = sum_by-same (λ w. part_sum f (opening_part sim serial w)) (λ w. sum_by (letter_weight f) (map (signed Plus) (start_events sim serial w))) (part-letters f) (range_with_len 0 sim.workers) in
      let c = sum_by-replicate (sum_by (mail_weight f)) sim.workers none in
      omega arith

  -- its entries
  pub opening-entries : (g : Entry P → ℕ) → entry_sum g (opening_world sim serial) ≡ 0
  unfolding entry_sum opening_world
  opening-entries g =
      let a = sum_by-map (part_entries g) (opening_part sim serial) (range_with_len 0 sim.workers) in
      let b = sum_by-same (λ w. part_entries g (opening_part sim serial w)) (λ w. 0) (part-nothing g) (range_with_len 0 sim.workers) in
      let c = sum_by-zero (range_with_len 0 sim.workers) in
      omega arith

  -- the next serial of a worker: after those of its starts' events
  pub opening-serial : (w : ℕ) → w < sim.workers → serial_at (opening_world sim serial) w ≡ serial + length (start_sends sim w)
  unfolding opening_world
  opening-serial w h =
      let from_zero : 0 + w ≡ w = omega arith in
      ap (λ o. option_map_or (λ part. part.serial) o 0) (get-map_range (opening_part sim serial) 0 sim.workers w h) ∙ ap (λ v. serial + length (start_sends sim v)) from_zero
