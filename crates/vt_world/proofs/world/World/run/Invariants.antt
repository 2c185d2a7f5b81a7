use Rattle.std.proofs.Common.{◌≡◌, ◌≤◌, take}
use Rattle.std.specs.Prelude.{IsTrue}
use Rattle.vt_key.specs.promise.Times.{TimeAtMost}
use Rattle.vt_model.specs.promise.Simulation.{simulation_of}
use Rattle.vt_model.specs.promise.Settings.{end_of}
use Rattle.vt_steps.specs.promise.Next.{run, answers}
use Rattle.vt_steps.specs.promise.World.{book_floor}
use Rattle.vt_world.specs.promise.Calls.{AreWithinLimits, refusals}
use Rattle.vt_world.proofs.world.World.run.Given as goal

abbrev pub invariant-loop-at : goal.invariant-loop-at
invariant-loop-at g l =
    let first = l.initial.self in
    let sim = simulation_of (g.M.Model.handlers first.model) first.config in
    record {
      model : l.self.model ≡ l.initial.self.model;
      config : l.self.config ≡ l.initial.self.config;
      ran : l.self.world ≡ run sim first.world (take l.at l.steps);
      within : AreWithinLimits sim first.world (take l.at l.steps);
      count : l.refused ≡ refusals (answers sim first.world (take l.at l.steps));
      few : l.refused ≤ l.at;
      announced : TimeAtMost first.world.board.announced l.self.world.board.announced;
      floor : TimeAtMost (book_floor (end_of first.config) first.world.book) (book_floor (end_of l.self.config) l.self.world.book);
      stays : IsTrue first.world.book.is_closed → l.self.world.book ≡ first.world.book;
    }
