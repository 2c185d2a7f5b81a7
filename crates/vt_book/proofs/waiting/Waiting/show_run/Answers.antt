use Rattle.std.proofs.Common.{◌++◌, ◌∷◌, [], length, length-append, refl, sym, ap, subst, arith}
use Rattle.vt_book.specs.inside.Runs.{AreRising, AreMoved, run_rows}
use Rattle.vt_book.proofs.MovedLemmas.{moved-then}
use Rattle.vt_book.proofs.RunLemmas.{shown-moved}
use Rattle.vt_book.proofs.waiting.Waiting.show_run.Goals.{After-show_first}
use Rattle.vt_book.proofs.waiting.Waiting.show_run.Goals as goal

moved : (c : After-show_first) → AreMoved c.args.time c.args.shown.now.items (run_rows c.args.run.now ++ c.args.self.now) c.show_first.new.shown.items (run_rows c.show_first.new.self ++ c.args.self.now)
moved c =
    let others = c.args.self.now in
    let is = c.loop-time.invariant in
    moved-then c.args.time c.args.shown.now.items (run_rows c.args.run.now ++ others) c.loop-time.shown.items (run_rows c.loop-time.run ++ others) c.show_first.new.shown.items (run_rows c.show_first.new.self ++ others) is.moved
    (shown-moved c.args.time c.loop-time.run c.show_first.new.self c.loop-time.shown.items c.show_first.new.shown.items others is.early is.first is.rising c.show_first.ensures.shown)

pub returns-then-not-is_due-clause-moved : goal.returns-then-not-is_due-clause-moved
returns-then-not-is_due-clause-moved c = moved (goal.at.returns-then-not-is_due-clause-moved c).After-show_first

pub loop-time-preserved : goal.loop-time-preserved
loop-time-preserved c =
    let s = c.show_first.ensures.shown in
    let is = c.loop-time.invariant in
    let fewer = ap length s.taken in
    let more = ap length s.records in
    let longer = length-append c.loop-time.shown.items (s.row.rec ∷ []) in
    record {
      early = sym c.if-not-is_due.ensures;
      first = c.if-not-is_behind.ensures refl;
      rising = (subst AreRising s.taken is.rising).1;
      moved = moved (goal.at.loop-time-preserved c).After-show_first;
      count = omega arith;
      capacity = omega arith;
      few = omega arith;
    }
