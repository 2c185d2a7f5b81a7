use Rattle.std.proofs.Common.{◌≡◌, ◌*◌, drop}
use Rattle.vt_text.specs.promise.Records.{record_lines}
use Rattle.vt_text.specs.inside.Writing.{AppendsAllButHeld}
use Rattle.vt_tasks.proofs.printing.print_group.Given as goal

-- the lines of the shares so far were written, and those of the rest were not
abbrev pub invariant-loop-share : goal.invariant-loop-share
invariant-loop-share g l = record {
  rest : l.rest ≡ drop (l.share-index * 16384) l.records;
  written : AppendsAllButHeld (g.W.Write.contents l.fn.writer) (g.W.Write.contents l.writer) (record_lines l.version l.rest) (record_lines l.version l.records);
}
