use Rattle.std.proofs.Common.{◌<◌, length, length-drop, arith}
use Rattle.std.specs.BinaryHeap.{heap_items}
use Rattle.vt_book.proofs.RunLemmas.{put-waiting, put-rows}
use Rattle.vt_book.proofs.waiting.put_back.Goals as goal

pub returns-clause-waiting : goal.returns-clause-waiting
returns-clause-waiting c =
    let run = c.args.run in
    let some : run.begin < length run.rows.items =
    (let count = c.len.ensures in let no = c.if-len-eq0.false in let left = length-drop run.begin run.rows.items in omega arith) in
    put-waiting run (heap_items c.args.runs.now) (heap_items c.push.new.self) c.in-Ok.ensures.permutation (some, c.requires.rising) c.requires.waiting c.in-Ok.ensures.heap_order

pub returns-clause-rows : goal.returns-clause-rows
returns-clause-rows c = put-rows c.args.run (heap_items c.args.runs.now) (heap_items c.push.new.self) c.in-Ok.ensures.permutation
