-- Floors: each worker's hand-in floor is at most its floor, and that at most the announced time; the announced time is at most
-- the least value reported so far, so it never falls, nor does the book's floor.
use Rattle.std.proofs.Common.{◌≡◌, inl, inr, ℕ, zero, suc, true, false, List, [], ◌∷◌, length, refl, sym, subst, ◌∙◌, ap, arith, Option, Some, None, slice_get, slice_set}
use Rattle.std.specs.List.{range_with_len}
use Rattle.std.proofs.Math.ListN.{length-set}
use Rattle.std.proofs.Math.Nat.{le_refl}
use Rattle.std.proofs.lemmas.List.{length-replicate}
use Rattle.std.proofs.lemmas.List.FromFn.{length-map-range_with_len}
use Rattle.std.proofs.lemmas.Bool.{eqb-true}
use Rattle.std.proofs.lemmas.Bool.Decides.{nat_tests}
use Rattle.vt_key.specs.promise.Times.{Time, TimeAtMost, opening_time, time_at_most}
use Rattle.vt_model.specs.promise.Simulation.{Simulation}
use Rattle.vt_model.specs.promise.Histories.{IsLawful}
use Rattle.vt_steps.specs.declared.step.Step.{Step}
use Rattle.vt_steps.specs.promise.BoardSteps.{is_clear, with_open_round, with_report, after_report}
use Rattle.vt_steps.specs.promise.BookSteps.{may_commit, with_rows}
use Rattle.vt_steps.specs.promise.Next.{next, run, reached}
use Rattle.vt_steps.specs.promise.PartSteps.{part_after_send, part_after_fetch, part_after_cut, part_after_commit, report_sent, report_got, report_least}
use Rattle.vt_steps.specs.promise.World.{Part, Board, Book, World, opening_part, opening_world, book_floor}
use Rattle.vt_steps.specs.promise.Letters.{least_of}
use Rattle.vt_steps.proofs.time.Announced.{IsTimeSound, time-kept, opening-time-sound}
use Rattle.vt_steps.proofs.steps.Changes.{homes, arrives, Local, acts, takes, Change, stays, local, sends, fetches, cuts, reports, commits, closes, next_changes, run_keeps, if_has}
use Rattle.vt_steps.proofs.steps.Outcomes.{with_open_round-either, after_report-either}
use Rattle.vt_steps.proofs.lists.Indices.{all-put, get-map, get-replicate, get-within}
use Rattle.vt_steps.proofs.time.Flags.{put-cases, may-tells}

-- ---- the least of a list of floors

-- it is at most each
pub floor-at : (end : Time) (floors : List Time) (w : ℕ) (floor : Time) → slice_get floors w ≡ Some floor → TimeAtMost (least_of end floors) floor
floor-at end [] w floor e = absurd (let h : None ≡ Some floor = e in cc)
floor-at end (f ∷ fs) zero floor e = let same : f ≡ floor = cc in omega arith
floor-at end (f ∷ fs) (suc w) floor e = let ih = floor-at end fs w floor e in omega arith

-- where one rises, it doesn't fall
pub floor-rises : (end : Time) (floors : List Time) (w : ℕ) (floor higher : Time) → slice_get floors w ≡ Some floor → TimeAtMost floor higher →
    TimeAtMost (least_of end floors) (least_of end (slice_set floors w higher))
floor-rises end [] w floor higher e h = omega arith
floor-rises end (f ∷ fs) zero floor higher e h = let same : f ≡ floor = cc in omega arith
floor-rises end (f ∷ fs) (suc w) floor higher e h = let ih = floor-rises end fs w floor higher e h in omega arith

-- ---- what holds of floors

-- of a world: hand-in floors are at most floors, floors at most the announced time, and a closed book's floor is the end
pub record AreFloorsSound {P : Type 0} (end : Time) (parts : List (Part P)) (board : Board) (book : Book) : Type 0 where
  pub size : length book.floors ≡ length parts
  pub announced : (w : ℕ) (part : Part P) → slice_get parts w ≡ Some part → TimeAtMost part.floor board.announced
  pub handed_in : (w : ℕ) (part : Part P) (floor : Time) → slice_get parts w ≡ Some part → slice_get book.floors w ≡ Some floor → TimeAtMost floor part.floor
  -- in an open round the announced time is at most the least value reported so far
  pub least : board.is_open ≡ true → TimeAtMost board.announced board.least
  pub bounded : TimeAtMost board.announced end
  pub closed : book.is_closed ≡ true → book_floor end book ≡ end

-- ---- a part changes

-- the worker's floor rises, at most to the announced time
part-floor : {P : Type 0} (end : Time) (parts : List (Part P)) (board : Board) (book : Book) (w : ℕ) (part after : Part P) → slice_get parts w ≡ Some part →
    TimeAtMost part.floor after.floor → TimeAtMost after.floor board.announced → AreFloorsSound end parts board book → AreFloorsSound end (slice_set parts w after) board book
part-floor end parts board book w part after is rises bound f = record {
  size = f.size ∙ sym (length-set parts w after);
  announced = all-put (λ v (p : Part _). TimeAtMost p.floor board.announced) parts w part after is f.announced (λ h. bound);
  handed_in = λ v p floor at has.
      all-put (λ v (p : Part _). (floor : Time) → slice_get book.floors v ≡ Some floor → TimeAtMost floor p.floor) parts w part after is (λ v p at floor has. f.handed_in v p floor at has)
      (λ h floor has. let k = h floor has in omega arith) v p at floor has;
  least = f.least;
  bounded = f.bounded;
  closed = f.closed;
}

-- the worker's floor stays
same-floor : {P : Type 0} (end : Time) (parts : List (Part P)) (board : Board) (book : Book) (w : ℕ) (part after : Part P) → slice_get parts w ≡ Some part →
    after.floor ≡ part.floor → AreFloorsSound end parts board book → AreFloorsSound end (slice_set parts w after) board book
same-floor end parts board book w part after is same f = part-floor end parts board book w part after is (omega arith) (let k = f.announced w part is in omega arith) f

-- a local step keeps the worker's floor
pub local-floor : {S P : Type 0} (sim : Simulation S P) (w : ℕ) (part after : Part P) → Local sim w part after → after.floor ≡ part.floor
local-floor sim w part after (acts index process effect at act after_is) = ap (λ a. a.floor) after_is
local-floor sim w part after (takes mid letter index process (homes found mid_is) at index_is free after_is) = ap (λ a. a.floor) after_is ∙ ap (λ a. a.floor) mid_is
local-floor sim w part after (takes mid letter index process (arrives i mail found same mid_is) at index_is free after_is) = ap (λ a. a.floor) after_is ∙ ap (λ a. a.floor) mid_is

-- ---- the board changes

-- its announced time doesn't fall
pub record BoardRises (end : Time) (old new : Board) : Type 0 where
  pub announced : TimeAtMost old.announced new.announced
  pub least : new.is_open ≡ true → TimeAtMost new.announced new.least
  pub bounded : TimeAtMost new.announced end

-- a board whose announced time has not fallen takes the board's place
new-board : {P : Type 0} (end : Time) (parts : List (Part P)) (old new : Board) (book : Book) → BoardRises end old new → AreFloorsSound end parts old book → AreFloorsSound end parts new book
new-board end parts old new book b f =
    let rise = b.announced in
    record { size = f.size; announced = λ w p at. (let k = f.announced w p at in omega arith); handed_in = f.handed_in; least = b.least; bounded = b.bounded; closed = f.closed }

-- a round is open
open-rises : {P : Type 0} (end : Time) (parts : List (Part P)) (board : Board) (book : Book) → AreFloorsSound end parts board book → BoardRises end board (with_open_round end board)
open-rises end parts board book f =
    with_open_round-either end board (BoardRises end board)
    (λ is. record { announced = le_refl board.announced; least = f.least; bounded = f.bounded })
    (λ shut. record { announced = le_refl board.announced; least = λ opened. f.bounded; bounded = f.bounded })

-- a pass closes: what is announced is the least value reported
pass-rises : (end : Time) (board : Board) → TimeAtMost board.announced board.least → TimeAtMost board.announced end → TimeAtMost board.least end →
    BoardRises end board (after_report end board).board
pass-rises end board least bounded least_end =
    after_report-either end board (λ effect. BoardRises end board effect.board)
    (λ some. record { announced = le_refl board.announced; least = λ still. least; bounded = bounded })
    (λ all same. record { announced = least; least = λ still. absurd (let h : false ≡ true = still in cc); bounded = least_end })
    (λ all apart. record { announced = le_refl board.announced; least = λ still. bounded; bounded = bounded })

-- ---- the book changes

-- a worker that may commit has a hand-in floor, at most its floor
pub commit-has : (o : Option Time) (floor : Time) → may_commit o floor ≡ true → (handed_in : Time) × (o ≡ Some handed_in) × TimeAtMost handed_in floor
commit-has None floor e = absurd (let h : false ≡ true = e in cc)
commit-has (Some f) floor e = (f, refl, let h : time_at_most f floor ≡ true = e in grind (arith, nat_tests))

-- ---- each change

-- from one world to the next neither the announced time nor the book's floor falls, and what holds of floors is kept
pub record FloorsKept {P : Type 0} (end : Time) (old new : World P) : Type 0 where
  pub sound : AreFloorsSound end new.parts new.board new.book
  pub announced : TimeAtMost old.board.announced new.board.announced
  pub floor : TimeAtMost (book_floor end old.book) (book_floor end new.book)

module _ {S P : Type 0} (sim : Simulation S P) (old new : World P) (least_end : TimeAtMost old.board.least sim.end) (f : AreFloorsSound sim.end old.parts old.board old.book) where
  -- a part changes alone, and its floor stays
  floor-stays : (w : ℕ) (part after : Part P) → slice_get old.parts w ≡ Some part → after.floor ≡ part.floor → new.parts ≡ slice_set old.parts w after → new.board ≡ old.board → new.book ≡ old.book → FloorsKept sim.end old new
  floor-stays w part after is same parts board book = record {
    sound = subst (λ b. AreFloorsSound sim.end new.parts new.board b) (sym book) (subst (λ b. AreFloorsSound sim.end new.parts b old.book) (sym board) (subst (λ ps. AreFloorsSound sim.end ps old.board old.book) (sym parts)
        (same-floor sim.end old.parts old.board old.book w part after is same f)));
    announced = (let a = ap (λ (b : Board). b.announced) board in omega arith);
    floor = (let a = ap (book_floor sim.end) book in omega arith);
  }

  -- of each change
  pub floors-kept : Change sim old new → FloorsKept sim.end old new
  unfolding part_after_send part_after_fetch part_after_cut part_after_commit with_rows with_report
  floors-kept (stays e) = subst (FloorsKept sim.end old) (sym e) (record { sound = f; announced = le_refl _; floor = le_refl _ })
  floors-kept (local w part after is change e) =
      floor-stays w part after is (local-floor sim w part after change) (ap (λ n. n.parts) e) (ap (λ n. n.board) e) (ap (λ n. n.book) e)
  floors-kept (sends w v part inbox is in_is e) =
      floor-stays w part (part_after_send sim v part) is refl (ap (λ n. n.parts) e) (ap (λ n. n.board) e) (ap (λ n. n.book) e)
  floors-kept (fetches w part inbox is in_is none e) =
      floor-stays w part (part_after_fetch inbox part) is refl (ap (λ n. n.parts) e) (ap (λ n. n.board) e) (ap (λ n. n.book) e)
  floors-kept (cuts w part board is cut_is e) =
      let opened = with_open_round sim.end old.board in
      let has = if_has (is_clear (slice_get opened.has_cut w)) _ board cut_is in
      let rises = open-rises sim.end old.parts old.board old.book f in
      let same_announced = ap (λ (b : Board). b.announced) has.1 in
      let same_least = ap (λ (b : Board). b.least) has.1 in
      let same_open = ap (λ (b : Board). b.is_open) has.1 in
      let up = rises.announced in
      let own = f.announced w part is in
      let bounded = rises.bounded in
      let risen : BoardRises sim.end old.board board = record {
        announced = omega arith;
        least = λ still. (let k = rises.least (sym same_open ∙ still) in omega arith);
        bounded = omega arith;
      } in
      let moved = new-board sim.end old.parts old.board board old.book risen f in
      subst (FloorsKept sim.end old) (sym e)
      (record {
        sound = part-floor sim.end old.parts board old.book w part (part_after_cut sim.end old.board.announced part) is own (omega arith) moved;
        announced = omega arith;
        floor = le_refl _;
      })
  floors-kept (reports w part is may e) =
      let told = may-tells w (report_least sim.end part) old.board may in
      let value : TimeAtMost old.board.announced (report_least sim.end part) = told.3 in
      let board = with_report w (report_sent part) (report_got part) (report_least sim.end part) old.board in
      let least_was = f.least told.0 in
      let bounded = f.bounded in
      let rises = pass-rises sim.end board (omega arith) bounded (omega arith) in
      let up = rises.announced in
      let own = f.announced w part is in
      let risen : BoardRises sim.end old.board (after_report sim.end board).board = record { announced = up; least = rises.least; bounded = rises.bounded } in
      let moved = new-board sim.end old.parts old.board (after_report sim.end board).board old.book risen f in
      let after : Part P = record part { floor = (after_report sim.end board).board.announced } in
      subst (FloorsKept sim.end old) (sym e)
      (record {
        sound = part-floor sim.end old.parts (after_report sim.end board).board old.book w part after is (omega arith) (le_refl _) moved;
        announced = up;
        floor = le_refl _;
      })
  floors-kept (commits w part is open_is may e) =
      let has = commit-has (slice_get old.book.floors w) part.floor may in
      let floors = slice_set old.book.floors w part.floor in
      let after = part_after_commit part in
      let moved = same-floor sim.end old.parts old.board old.book w part after is refl f in
      subst (FloorsKept sim.end old) (sym e)
      (record {
        sound = record {
          size = length-set old.book.floors w part.floor ∙ moved.size;
          announced = moved.announced;
          handed_in = λ v p floor at handed_in. elim (put-cases old.book.floors w v has.0 part.floor floor has.1 handed_in) [
            | inl mine ↦ elim (put-cases old.parts w v part after p is at) [
              | inl own ↦ (let a = mine.1 in let b = ap (λ (q : Part P). q.floor) own.1 in omega arith)
              | inr other ↦ absurd (other.0 mine.0)
            ]
            | inr others ↦ moved.handed_in v p floor at others.1
          ];
          least = f.least;
          bounded = f.bounded;
          closed = λ shut. absurd (let h : true ≡ false = sym shut ∙ open_is in cc);
        };
        announced = le_refl _;
        floor = floor-rises sim.end old.book.floors w has.0 part.floor has.1 has.2;
      })
  floors-kept (closes open_is at_end e) =
      subst (FloorsKept sim.end old) (sym e)
      (record {
        sound = record { size = f.size; announced = f.announced; handed_in = f.handed_in; least = f.least; bounded = f.bounded; closed = λ shut. eqb-true (book_floor sim.end old.book) sim.end at_end };
        announced = le_refl _;
        floor = le_refl _;
      })

-- ---- reached worlds

-- the opening world: all floors are the time of all starts
pub opening-floors : {S P : Type 0} (sim : Simulation S P) (serial : ℕ) → AreFloorsSound sim.end (opening_world sim serial).parts (opening_world sim serial).board (opening_world sim serial).book
unfolding opening_world
opening-floors {P = P} sim serial = record {
  size = length-replicate sim.workers opening_time ∙ sym (length-map-range_with_len (opening_part sim serial) 0 sim.workers);
  announced = λ w part at. (let own = opening-floor w part at in omega arith);
  handed_in = λ w part floor at has. (let own = opening-floor w part at in let h = get-replicate sim.workers w opening_time floor has in omega arith);
  least = λ still. absurd (let h : false ≡ true = still in cc);
  bounded = omega arith;
  closed = λ shut. absurd (let h : false ≡ true = shut in cc);
}
  where
    opening-floor : (w : ℕ) (part : Part P) → slice_get (opening_world sim serial).parts w ≡ Some part → part.floor ≡ opening_time
    opening-floor w part at = ap (λ (p : Part P). p.floor) (get-map (opening_part sim serial) (range_with_len 0 sim.workers) w part at).2

-- what holds of times and floors
pub record AreTimesSound {S P : Type 0} (sim : Simulation S P) (world : World P) : Type 0 where
  pub at : (t : Time) → IsTimeSound sim t world
  pub floors : AreFloorsSound sim.end world.parts world.board world.book

module _ {S P : Type 0} (sim : Simulation S P) (lawful : IsLawful sim) where
  -- each change keeps it
  pub times-kept : (old new : World P) → Change sim old new → AreTimesSound sim old → AreTimesSound sim new
  times-kept old new change s = record {
    at = λ t. time-kept sim lawful t old new change (s.at t);
    floors = (floors-kept sim old new (s.at opening_time).round.least_end s.floors change).sound;
  }

  -- it holds of the opening world
  pub opening-times : (serial : ℕ) → AreTimesSound sim (opening_world sim serial)
  opening-times serial = record { at = λ t. opening-time-sound sim serial t; floors = opening-floors sim serial }

  -- and of each reached world
  pub reached-times : (serial : ℕ) (steps : List Step) → AreTimesSound sim (reached sim serial steps)
  reached-times serial steps = run_keeps sim (AreTimesSound sim) times-kept steps (opening_world sim serial) (opening-times serial)

  -- ---- what follows

  -- the book's floor is at most the announced time
  pub floor-announced : (world : World P) → AreTimesSound sim world → TimeAtMost (book_floor sim.end world.book) world.board.announced
  floor-announced world s =
      let some = lawful.some_worker in
      let workers = (s.at opening_time).shape.parts in
      let size = s.floors.size in
      let part = get-within world.parts 0 (omega arith) in
      let floor = get-within world.book.floors 0 (omega arith) in
      let a = s.floors.announced 0 part.0 part.1 in
      let b = s.floors.handed_in 0 part.0 floor.0 part.1 floor.1 in
      let c = floor-at sim.end world.book.floors 0 floor.0 floor.1 in
      omega arith

  -- neither the announced time nor the book's floor falls in any further steps
  pub nothing-falls : (more : List Step) (world : World P) → AreTimesSound sim world →
      TimeAtMost (book_floor sim.end world.book) (book_floor sim.end (run sim world more).book) × TimeAtMost world.board.announced (run sim world more).board.announced
  unfolding run
  nothing-falls [] world s = (le_refl _, le_refl _)
  nothing-falls (step ∷ more) world s =
      let new = (next sim world step).world in
      let change = next_changes sim world step in
      let here = floors-kept sim world new (s.at opening_time).round.least_end s.floors change in
      let rest = nothing-falls more new (times-kept world new change s) in
      let a = here.floor in
      let b = rest.0 in
      let c = here.announced in
      let d = rest.1 in
      (omega arith, omega arith)
