use Rattle.std.proofs.Common.{◌<◌, length, sym, ap, subst, arith}
use Rattle.std.specs.BinaryHeap.{heap_items}
use Rattle.std.specs.List.{sum_by}
use Rattle.std.proofs.lemmas.List.Sums.{sum_by-append}
use Rattle.std.proofs.lemmas.Bool.Decides.{nat_tests}
use Rattle.vt_book.specs.declared.run.Run.{Run}
use Rattle.vt_book.specs.inside.Runs.{AreRising, run_rows, rows_of_runs}
use Rattle.vt_book.proofs.RunLemmas.{new-run, put-waiting, put-rows}
use Rattle.vt_book.proofs.waiting.Waiting.add.Goals as goal

pub invariant_of-self-2 : goal.invariant_of-self-2
invariant_of-self-2 c =
    let run : Run = c.new.result in
    let rows = c.args.rows.items in
    let some : run.begin < length run.rows.items =
    (let empty = c.is_empty.ensures in let no = c.if-is_empty.false in let zero = c.new.ensures.0 in let same = ap length c.new.ensures.1 in grind (arith, nat_tests)) in
    let rising : AreRising (run_rows run) = subst AreRising (sym (new-run run rows c.new.ensures.0 c.new.ensures.1)) c.requires in
    put-waiting run (heap_items c.self.inside.runs) (heap_items c.push.new.self) c.in-Ok.ensures.permutation (some, rising) c.self.invariant c.in-Ok.ensures.heap_order

pub returns-clause-rows : goal.returns-clause-rows
returns-clause-rows c f =
    let run : Run = c.new.result in
    let rows = c.args.rows.items in
    let put = put-rows run (heap_items c.self.inside.runs) (heap_items c.push.new.self) c.in-Ok.ensures.permutation f in
    let a = sum_by-append f (run_rows run) (rows_of_runs (heap_items c.self.inside.runs)) in
    let b = ap (sum_by f) (new-run run rows c.new.ensures.0 c.new.ensures.1) in
    let d = ap (sum_by f) c.self.view_is in
    let e = sum_by-append f c.args.self.now rows in
    omega arith
