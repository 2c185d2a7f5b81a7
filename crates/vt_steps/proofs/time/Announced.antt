-- In every reached world the announced time is at most the least time of what is unprocessed or travelling.
use Rattle.std.proofs.Common.{◌≡◌, ℕ, true, false, List, [], ◌∷◌, map, refl, sym, subst, ◌∙◌, ap, arith, Some, slice_get, slice_set}
use Rattle.std.specs.List.{sum_by, range_with_len}
use Rattle.std.proofs.Math.Nat.{le_refl}
use Rattle.std.proofs.lemmas.List.{length-replicate}
use Rattle.std.proofs.lemmas.List.FromFn.{length-map-range_with_len}
use Rattle.std.proofs.lemmas.List.Folds.{sum_by-replicate}
use Rattle.std.proofs.lemmas.List.Sums.{sum_by-cons}
use Rattle.vt_key.specs.promise.Times.{Time, TimeAtMost, opening_time}
use Rattle.vt_key.specs.declared.letter.Colour.{Colour}
use Rattle.vt_key.specs.declared.letter.Colour.TheVariants.{White, Red}
use Rattle.vt_key.specs.declared.letter.Letter.{Letter}
use Rattle.vt_key.specs.declared.letter.Mail.{Mail}
use Rattle.vt_key.specs.declared.letter.Sign.TheVariants.{Plus}
use Rattle.vt_model.specs.promise.Simulation.{Simulation}
use Rattle.vt_model.specs.promise.Histories.{IsLawful}
use Rattle.vt_steps.specs.promise.BoardSteps.{is_clear, with_open_round, with_report, after_report}
use Rattle.vt_steps.specs.inside.Copies.{letter_weight, part_entries, letter_sum, entry_sum}
use Rattle.vt_steps.specs.promise.Letters.{signed, count_colour}
use Rattle.vt_steps.specs.promise.PartSteps.{part_after_send, part_after_fetch, part_after_cut, part_after_commit, report_sent, report_got, report_least}
use Rattle.vt_steps.specs.promise.World.{Part, World, opening_part, opening_world, start_events, all_letters, least}
use Rattle.vt_steps.proofs.letters.Balance.{commit-balance}
use Rattle.vt_steps.proofs.steps.Changes.{Change, stays, local, sends, fetches, cuts, reports, commits, closes, if_has}
use Rattle.vt_steps.proofs.letters.Colours.{sent_in, got_in}
use Rattle.vt_steps.proofs.time.Early.{early, early_letters, all_early, late-none, at-most-least, everywhere-early}
use Rattle.vt_steps.proofs.time.EarlyLocal.{hasty, local-early, local-same}
use Rattle.vt_steps.proofs.time.Flags.{clear-is, may-tells}
use Rattle.vt_steps.proofs.letters.OpeningSums.{opening-letters, opening-entries}
use Rattle.vt_steps.proofs.time.Passes.{open-kept, open-round_is_open, cut-kept, report-kept, report-is_open, pass-kept}
use Rattle.vt_steps.proofs.lists.Indices.{get-map}
use Rattle.vt_steps.proofs.time.Rounds.{IsRoundSound, part-kept, send-kept, fetch-kept}
use Rattle.vt_steps.proofs.steps.Shape.{IsShaped, shape-kept, opening-shape, process-known}
use Rattle.vt_steps.proofs.lists.Sums.{sum_by-put, sum_by-map, sum_by-same, sum_by-zero, sum-at}

-- what holds of a reached world, at any time t: its round of cuts is sound, and all sends are later than their entries
pub record IsTimeSound {S P : Type 0} (sim : Simulation S P) (t : Time) (world : World P) : Type 0 where
  pub round : IsRoundSound sim.end t world.parts world.inboxes world.board
  pub entries : sum_by (part_entries hasty) world.parts ≡ 0
  pub shape : IsShaped sim world

-- ---- each change keeps it

-- all sends are still later than their entries
entries-put : {P : Type 0} (old : World P) (w : ℕ) (part after : Part P) → slice_get old.parts w ≡ Some part → (part_entries hasty part ≡ 0 → part_entries hasty after ≡ 0) →
    sum_by (part_entries hasty) old.parts ≡ 0 → sum_by (part_entries hasty) (slice_set old.parts w after) ≡ 0
entries-put old w part after is kept none =
    let a = sum_by-put (part_entries hasty) old.parts w part after is in
    let b = sum-at (part_entries hasty) old.parts w part is in
    let c = kept (omega arith) in
    omega arith

module _ {S P : Type 0} (sim : Simulation S P) (lawful : IsLawful sim) (t : Time) (old new : World P) where
  -- of each change
  change-kept : Change sim old new → IsTimeSound sim t old → IsShaped sim new → IsTimeSound sim t new
  unfolding part_after_send part_after_fetch part_after_cut part_after_commit
  change-kept (stays e) g shape = subst (IsTimeSound sim t) (sym e) g
  change-kept (local w part after is change e) g shape =
      let none = g.entries in
      let here = sum-at (part_entries hasty) old.parts w part is in
      let step = local-early sim lawful t w part after (λ index process at. process-known sim old g.shape w index part process is at) change in
      record {
        round = subst (λ n. IsRoundSound sim.end t n.parts n.inboxes n.board) (sym e)
            (part-kept sim.end t old.parts old.inboxes old.board w part after is (local-same sim w part after change) (step.letters (omega arith)) g.round);
        entries = ap (λ n. sum_by (part_entries hasty) n.parts) e ∙ entries-put old w part after is step.entries g.entries;
        shape = shape;
      }
  change-kept (sends w v part inbox is in_is e) g shape = record {
    round = subst (λ n. IsRoundSound sim.end t n.parts n.inboxes n.board) (sym e) (send-kept sim t old.parts old.inboxes old.board w v part inbox is in_is g.round);
    entries = ap (λ n. sum_by (part_entries hasty) n.parts) e ∙ entries-put old w part (part_after_send sim v part) is (λ h. h) g.entries;
    shape = shape;
  }
  change-kept (fetches w part inbox is in_is none e) g shape = record {
    round = subst (λ n. IsRoundSound sim.end t n.parts n.inboxes n.board) (sym e) (fetch-kept sim.end t old.parts old.inboxes old.board w part inbox is in_is none g.round);
    entries = ap (λ n. sum_by (part_entries hasty) n.parts) e ∙ entries-put old w part (part_after_fetch inbox part) is (λ h. h) g.entries;
    shape = shape;
  }
  change-kept (cuts w part board is cut_is e) g shape =
      let opened = with_open_round sim.end old.board in
      let has = if_has (is_clear (slice_get opened.has_cut w)) _ board cut_is in
      let clear = clear-is (slice_get opened.has_cut w) has.0 in
      let after = part_after_cut sim.end old.board.announced part in
      let kept = cut-kept sim.end t old.board.announced old.parts old.inboxes opened w part is (open-round_is_open sim.end old.board) clear (open-kept sim.end t old.parts old.inboxes old.board g.round) in
      record {
        round = subst (λ n. IsRoundSound sim.end t n.parts n.inboxes n.board) (sym e) (subst (IsRoundSound sim.end t (slice_set old.parts w after) old.inboxes) (sym has.1) kept);
        entries = ap (λ n. sum_by (part_entries hasty) n.parts) e ∙ entries-put old w part after is (λ h. h) g.entries;
        shape = shape;
      }
  change-kept (reports w part is may e) g shape =
      let told = may-tells w (report_least sim.end part) old.board may in
      let board = with_report w (report_sent part) (report_got part) (report_least sim.end part) old.board in
      let reported = report-kept sim.end t old.parts old.inboxes old.board w part is told.0 told.1 told.2 g.round in
      let passed = pass-kept sim.end t old.parts old.inboxes board (report-is_open w (report_sent part) (report_got part) (report_least sim.end part) old.board told.0) reported in
      let after : Part P = record part { floor = (after_report sim.end board).board.announced } in
      record {
        round = subst (λ n. IsRoundSound sim.end t n.parts n.inboxes n.board) (sym e)
            (part-kept sim.end t old.parts old.inboxes (after_report sim.end board).board w part after is (record { colour = refl; sent = refl; got = refl; red_minimum = refl }) (λ h. h) passed);
        entries = ap (λ n. sum_by (part_entries hasty) n.parts) e ∙ entries-put old w part after is (λ h. h) g.entries;
        shape = shape;
      }
  change-kept (commits w part is open_is may e) g shape =
      let b = commit-balance part in
      let letters = b.letters (early t) in
      let entries = b.entries hasty in
      record {
        round = subst (λ n. IsRoundSound sim.end t n.parts n.inboxes n.board) (sym e)
            (part-kept sim.end t old.parts old.inboxes old.board w part (part_after_commit part) is (record { colour = refl; sent = refl; got = refl; red_minimum = refl }) (λ h. omega arith) g.round);
        entries = ap (λ n. sum_by (part_entries hasty) n.parts) e ∙ entries-put old w part (part_after_commit part) is (λ h. omega arith) g.entries;
        shape = shape;
      }
  change-kept (closes open_is at_end e) g shape = record {
    round = subst (λ n. IsRoundSound sim.end t n.parts n.inboxes n.board) (sym e) g.round;
    entries = ap (λ n. sum_by (part_entries hasty) n.parts) e ∙ g.entries;
    shape = shape;
  }

  -- each change keeps what holds at any time
  pub time-kept : Change sim old new → IsTimeSound sim t old → IsTimeSound sim t new
  time-kept change g = change-kept change g (shape-kept sim old new change g.shape)

-- ---- the opening world

-- none is before the time of all starts
none-at-opening : {P : Type 0} (letters : List (Letter P)) → early_letters opening_time letters ≡ 0
none-at-opening [] = refl
none-at-opening (letter ∷ letters) =
    let a = sum_by-cons (letter_weight (early opening_time)) letter letters in
    let ih = none-at-opening letters in
    let b = late-none opening_time letter.sign letter.event (omega arith) in
    omega arith

module _ {S P : Type 0} (sim : Simulation S P) (serial : ℕ) where
  -- a part of the opening world is an opening part
  opening-part-is : (w : ℕ) (part : Part P) → slice_get (opening_world sim serial).parts w ≡ Some part → (v : ℕ) × (part ≡ opening_part sim serial v)
  unfolding opening_world
  opening-part-is w part at = let from = get-map (opening_part sim serial) (range_with_len 0 sim.workers) w part at in (from.0, from.2)

  -- nothing was sent or got in any colour
  nothing-counted : (c : Colour) → (sum_by (λ w. sent_in c (opening_part sim serial w)) (range_with_len 0 sim.workers) ≡ 0) × (sum_by (λ w. got_in c (opening_part sim serial w)) (range_with_len 0 sim.workers) ≡ 0)
  nothing-counted White = (sum_by-zero (range_with_len 0 sim.workers), sum_by-zero (range_with_len 0 sim.workers))
  nothing-counted Red = (sum_by-zero (range_with_len 0 sim.workers), sum_by-zero (range_with_len 0 sim.workers))

  -- no letter is before the announced time, which is that of all starts
  none-before-opening : (t : Time) → TimeAtMost t opening_time → all_early t (opening_world sim serial).parts (opening_world sim serial).inboxes ≡ 0
  unfolding opening_world letter_sum
  none-before-opening t h =
      let same : t ≡ opening_time = omega arith in
      let a = opening-letters sim serial (early opening_time) in
      let b = sum_by-same (λ w. early_letters opening_time (map (signed Plus) (start_events sim serial w))) (λ w. 0) (λ w. none-at-opening (map (signed Plus) (start_events sim serial w))) (range_with_len 0 sim.workers) in
      let c = sum_by-zero (range_with_len 0 sim.workers) in
      let d = ap (λ u. all_early u (opening_world sim serial).parts (opening_world sim serial).inboxes) same in
      omega arith

  -- what holds at any time holds of the opening world
  pub opening-time-sound : (t : Time) → IsTimeSound sim t (opening_world sim serial)
  unfolding opening_world entry_sum
  opening-time-sound t =
      let size = length-map-range_with_len (opening_part sim serial) 0 sim.workers in
      let none : List (Mail P) = [] in
      record {
        round = record {
          now = White;
          cut_size = length-replicate sim.workers false ∙ sym size;
          report_size = length-replicate sim.workers false ∙ sym size;
          inbox_size = length-replicate sim.workers none ∙ sym size;
          counts = λ c.
              (let a = sum_by-replicate (count_colour c) sim.workers none in
              let b = sum_by-map (sent_in c) (opening_part sim serial) (range_with_len 0 sim.workers) in
              let d = sum_by-map (got_in c) (opening_part sim serial) (range_with_len 0 sim.workers) in
              let e = nothing-counted c in
              omega arith);
          opened = λ open_is. absurd (let h : false ≡ true = open_is in cc);
          between = λ shut. record {
            colours = λ w part at. (let from = opening-part-is w part at in ap (λ p. p.colour) from.1);
            no_old_mail = (let a = sum_by-replicate (count_colour Red) sim.workers none in omega arith);
          };
          least_end = omega arith;
          announced_end = omega arith;
          announced = none-before-opening t;
          red_late = λ h w part at. (let from = opening-part-is w part at in let red = ap (λ p. p.red_minimum) from.1 in omega arith);
        };
        entries = opening-entries sim serial hasty;
        shape = opening-shape sim serial;
      }

-- ---- what follows

module _ {S P : Type 0} (sim : Simulation S P) where
  -- the announced time is at most the least time
  pub announced-least : (world : World P) → ((t : Time) → IsTimeSound sim t world) → TimeAtMost world.board.announced (least sim.end world)
  announced-least world sound =
      let t = world.board.announced in
      let g = (sound t).round in
      let none = g.announced (le_refl t) in
      let bound = g.announced_end in
      let all = everywhere-early t world in
      at-most-least sim.end t (all_letters world) (omega arith) (omega arith)
