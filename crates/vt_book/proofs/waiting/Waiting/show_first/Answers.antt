use Rattle.std.proofs.Common.{◌++◌, length-append, sym, ap, ◌∙◌, arith}
use Rattle.std.specs.BinaryHeap.{heap_items}
use Rattle.std.specs.List.{sum_by}
use Rattle.vt_model.specs.promise.Sequential.{rows_before}
use Rattle.vt_steps.specs.inside.Rows.{AreSameRows}
use Rattle.vt_book.specs.inside.Runs.{AreWaiting, AreBehind, IsRun, first_row, run_rows, rows_of_runs}
use Rattle.vt_book.proofs.MovedLemmas.{moved-none, moved-same}
use Rattle.vt_book.proofs.RowLists.{same-before, same-length, same-none}
use Rattle.vt_book.proofs.RunLemmas.{taken-run, taken-waiting, taken-rows, taken-first, none-due}
use Rattle.vt_book.proofs.waiting.Waiting.show_first.Goals.{After-is_due}
use Rattle.vt_book.proofs.waiting.Waiting.show_first.Goals as goal

-- ---- the run that was taken out, and the others

is-run : (c : After-is_due) → IsRun c.in-Some.run'
is-run c = taken-run c.in-Some.run' (heap_items c.self.inside.runs) (heap_items c.pop.new.self) c.in-Some.ensures.permutation c.self.invariant

waiting : (c : After-is_due) → AreWaiting (heap_items c.pop.new.self)
waiting c =
    taken-waiting c.in-Some.run' (heap_items c.self.inside.runs) (heap_items c.pop.new.self) c.in-Some.ensures.permutation c.self.invariant (c.in-Some.ensures.heap_order c.self.invariant.heap).0

first : (c : After-is_due) → AreBehind (first_row c.in-Some.run') (rows_of_runs (heap_items c.pop.new.self))
first c =
    taken-first c.in-Some.run' (heap_items c.self.inside.runs) (heap_items c.pop.new.self) c.in-Some.ensures.permutation c.self.invariant (c.in-Some.ensures.below_top c.self.invariant.heap)

rows : (c : After-is_due) → AreSameRows c.args.self.now (run_rows c.in-Some.run' ++ rows_of_runs (heap_items c.pop.new.self))
rows c f =
    ap (sum_by f) (sym c.self.view_is)
    ∙ taken-rows c.in-Some.run' (heap_items c.self.inside.runs) (heap_items c.pop.new.self) c.in-Some.ensures.permutation c.self.invariant f

-- ---- where its first row isn't before the time

pub put_back-requires-clause-waiting : goal.put_back-requires-clause-waiting
put_back-requires-clause-waiting c = waiting (goal.at.put_back-requires-clause-waiting c).After-is_due

pub returns-then-not-is_due-clause-moved : goal.returns-then-not-is_due-clause-moved
returns-then-not-is_due-clause-moved c =
    let all = run_rows c.in-Some.run' ++ rows_of_runs (heap_items c.pop.new.self) in
    let shown = c.args.shown.now.items in
    moved-same c.args.time shown c.args.self.now all shown (rows_of_runs (heap_items c.put_back.new.runs)) all (rows (goal.at.returns-then-not-is_due-clause-moved c).After-is_due) c.put_back.ensures.rows
    (moved-none c.args.time shown all)

pub returns-then-not-is_due-clause-room : goal.returns-then-not-is_due-clause-room
returns-then-not-is_due-clause-room c =
    let all = run_rows c.in-Some.run' ++ rows_of_runs (heap_items c.pop.new.self) in
    let before = same-length c.args.self.now all (rows (goal.at.returns-then-not-is_due-clause-room c).After-is_due) in
    let after = same-length (rows_of_runs (heap_items c.put_back.new.runs)) all c.put_back.ensures.rows in
    let room = c.requires.room in
    omega arith

pub returns-then-not-is_due-clause-ended : goal.returns-then-not-is_due-clause-ended
returns-then-not-is_due-clause-ended c is =
    let found = (goal.at.returns-then-not-is_due-clause-ended c).After-is_due in
    let others = rows_of_runs (heap_items c.pop.new.self) in
    let left = rows_of_runs (heap_items c.put_back.new.runs) in
    let none = none-due c.args.time c.in-Some.run' others (is-run found) (first found) (sym c.is_due.ensures ∙ c.if-not-is_due.true) in
    same-none (rows_before c.args.time left) (λ f. same-before c.args.time left (run_rows c.in-Some.run' ++ others) c.put_back.ensures.rows f ∙ ap (sum_by f) none)

-- ---- where it is

pub invariant_of-self-2 : goal.invariant_of-self-2
invariant_of-self-2 c = waiting (goal.at.invariant_of-self-2 c).After-is_due

pub show_run-requires-clause-first : goal.show_run-requires-clause-first
show_run-requires-clause-first c = first (goal.at.show_run-requires-clause-first c).After-is_due

pub put_back-requires-2-clause-waiting : goal.put_back-requires-2-clause-waiting
put_back-requires-2-clause-waiting c = waiting (goal.at.put_back-requires-2-clause-waiting c).After-is_due

pub returns-clause-moved : goal.returns-clause-moved
returns-clause-moved c =
    let others = rows_of_runs (heap_items c.pop.new.self) in
    moved-same c.args.time c.args.shown.now.items c.args.self.now (run_rows c.in-Some.run' ++ others) c.show_run.new.shown.items (rows_of_runs (heap_items c.put_back-2.new.runs)) (run_rows c.show_run.new.run ++ others)
    (rows (goal.at.returns-clause-moved c).After-is_due) c.put_back-2.ensures.rows c.show_run.ensures.moved

pub returns-clause-room : goal.returns-clause-room
returns-clause-room c =
    let others = rows_of_runs (heap_items c.pop.new.self) in
    let before = same-length c.args.self.now (run_rows c.in-Some.run' ++ others) (rows (goal.at.returns-clause-room c).After-is_due) in
    let after = same-length (rows_of_runs (heap_items c.put_back-2.new.runs)) (run_rows c.show_run.new.run ++ others) c.put_back-2.ensures.rows in
    let a = length-append (run_rows c.in-Some.run') others in
    let b = length-append (run_rows c.show_run.new.run) others in
    let room = c.requires.room in
    let kept = c.show_run.ensures.room in
    let capacity = c.show_run.ensures.capacity in
    omega arith

pub returns-clause-fewer : goal.returns-clause-fewer
returns-clause-fewer c is =
    let others = rows_of_runs (heap_items c.pop.new.self) in
    let before = same-length c.args.self.now (run_rows c.in-Some.run' ++ others) (rows (goal.at.returns-clause-fewer c).After-is_due) in
    let after = same-length (rows_of_runs (heap_items c.put_back-2.new.runs)) (run_rows c.show_run.new.run ++ others) c.put_back-2.ensures.rows in
    let a = length-append (run_rows c.in-Some.run') others in
    let b = length-append (run_rows c.show_run.new.run) others in
    let fewer = c.show_run.ensures.fewer in
    omega arith
