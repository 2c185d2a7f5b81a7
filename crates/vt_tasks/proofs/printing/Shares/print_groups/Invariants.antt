use Rattle.std.specs.Slice.Iter.{chunks_rest}
use Rattle.vt_text.specs.promise.Records.{record_lines}
use Rattle.vt_text.specs.inside.Writing.{AppendsAllButHeld}
use Rattle.vt_tasks.proofs.printing.Shares.print_groups.Given as goal

-- the lines were written but for those of the groups that are left
abbrev pub invariant-loop-group : goal.invariant-loop-group
invariant-loop-group g l =
    AppendsAllButHeld (g.W.Write.contents l.fn.writer) (g.W.Write.contents l.writer) (record_lines l.version (chunks_rest l.group-iterator)) (record_lines l.version l.records)
