-- The guards on times never fail: no report is below the announced time, and no floor below the hand-in floor.
use Rattle.std.proofs.Common.{◌≡◌, ℕ, ◌<◌, true, false, ◌∙◌, ap, arith, Some, slice_get, Ok}
use Rattle.std.specs.Prelude.{IsTrue}
use Rattle.std.proofs.Math.Nat.{le_refl}
use Rattle.std.proofs.lemmas.Bool.Decides.{nat_tests}
use Rattle.std.proofs.lemmas.Option.{slice_get_within}
use Rattle.std.proofs.lemmas.Bool.{and_from}
use Rattle.vt_key.specs.promise.Times.{TimeAtMost, opening_time, time_at_most}
use Rattle.vt_model.specs.promise.Simulation.{Simulation}
use Rattle.vt_steps.specs.declared.step.Reply.TheVariants.{Done}
use Rattle.vt_steps.specs.declared.step.Step.TheVariants.{Report, Commit}
use Rattle.vt_steps.specs.promise.BoardSteps.{all_set, is_clear, may_report}
use Rattle.vt_steps.specs.promise.BookSteps.{may_commit}
use Rattle.vt_steps.specs.inside.Claims.{IsTaken}
use Rattle.vt_steps.specs.promise.Next.{next}
use Rattle.vt_steps.proofs.steps.CellSteps.{next-report, next-commit}
use Rattle.vt_steps.specs.promise.PartSteps.{report_least}
use Rattle.vt_steps.specs.promise.World.{Part, World, letters_in}
use Rattle.vt_steps.proofs.time.Early.{early_in, at-most-least, letters-early}
use Rattle.vt_steps.proofs.time.Floors.{AreTimesSound}
use Rattle.vt_steps.proofs.lists.Indices.{get-within}
use Rattle.vt_steps.proofs.lists.Sums.{sum-at}

module _ {S P : Type 0} (sim : Simulation S P) (world : World P) (s : AreTimesSound sim world) where
  -- ---- Report

  -- what a worker would report is not before the announced time
  report-late : (w : ℕ) (part : Part P) → slice_get world.parts w ≡ Some part → TimeAtMost world.board.announced (report_least sim.end part)
  report-late w part at =
      let t = world.board.announced in
      let round = (s.at t).round in
      let same : TimeAtMost t t = le_refl t in
      let red = round.red_late same w part at in
      let none = round.announced same in
      let here = sum-at (early_in t) world.parts w part at in
      let counted = letters-early t part in
      let late = at-most-least sim.end t (letters_in part) round.announced_end (omega arith) in
      omega arith

  -- it may report, if all have cut and it has not reported in this pass
  may-report : (w : ℕ) (part : Part P) → slice_get world.parts w ≡ Some part → world.board.is_open ≡ true → all_set world.board.has_cut ≡ true → slice_get world.board.has_reported w ≡ Some false →
      may_report w (report_least sim.end part) world.board ≡ true
  may-report w part at open_is all clear =
      let value = report-late w part at in
      let late : time_at_most world.board.announced (report_least sim.end part) ≡ true = grind (arith, nat_tests) in
      and_from world.board.is_open _ open_is
      (and_from (all_set world.board.has_cut) _ all
      (and_from (is_clear (slice_get world.board.has_reported w)) _ (ap is_clear clear) late))

  -- so its report is taken
  pub report-taken : (w : ℕ) → IsTrue world.board.is_open → IsTrue (all_set world.board.has_cut) → slice_get world.board.has_reported w ≡ Some false → IsTaken sim world (Report w)
  report-taken w open_is all clear =
      let size = (s.at opening_time).round.report_size in
      let part = get-within world.parts w (let a = slice_get_within world.board.has_reported w false clear in omega arith) in
      (_, ap (λ o. o.answer) (next-report sim world w part.0 part.1 (may-report w part.0 part.1 open_is all clear)))

  -- ---- Commit

  -- each worker may commit
  may-commit : (w : ℕ) (part : Part P) → slice_get world.parts w ≡ Some part → may_commit (slice_get world.book.floors w) part.floor ≡ true
  may-commit w part at =
      let size = s.floors.size in
      let floor = get-within world.book.floors w (let a = slice_get_within world.parts w part at in omega arith) in
      let low = s.floors.handed_in w part floor.0 at floor.1 in
      let test : time_at_most floor.0 part.floor ≡ true = grind (arith, nat_tests) in
      ap (λ o. may_commit o part.floor) floor.1 ∙ test

  -- so its commit is done, unless the book is closed
  pub commit-done : (w : ℕ) → w < sim.workers → world.book.is_closed ≡ false → (next sim world (Commit w)).answer ≡ Ok Done
  commit-done w within open_is =
      let size = (s.at opening_time).shape.parts in
      let part = get-within world.parts w (omega arith) in
      ap (λ o. o.answer) (next-commit sim world w part.0 part.1 open_is (may-commit w part.0 part.1))
