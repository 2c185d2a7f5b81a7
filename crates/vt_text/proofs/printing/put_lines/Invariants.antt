use Rattle.std.proofs.Common.{◌++◌, take}
use Rattle.vt_text.specs.promise.Records.{record_lines}
use Rattle.vt_text.specs.inside.Writing.{AppendsAllButHeld}
use Rattle.vt_text.proofs.printing.put_lines.Given as goal

-- of what was gathered and the lines of the records so far, some was written and the rest is held
abbrev pub invariant-loop-item : goal.invariant-loop-item
invariant-loop-item g l =
    AppendsAllButHeld (g.W.Write.contents l.fn.writer) (g.W.Write.contents l.writer) l.text (l.fn.text ++ record_lines l.version (take l.item-index l.records))
