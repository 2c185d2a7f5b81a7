use Rattle.std.proofs.Common.{◌++◌, take}
use Rattle.vt_text.specs.inside.Writing.{AppendsAllButHeld}
use Rattle.vt_tasks.specs.promise.Printed.{final_lines}
use Rattle.vt_tasks.proofs.printed.put_finals.Given as goal

-- of what was gathered and the lines of the values so far, some was written and the rest is held
abbrev pub invariant-loop-lp : goal.invariant-loop-lp
invariant-loop-lp g l =
    AppendsAllButHeld (g.W.Write.contents l.fn.writer) (g.W.Write.contents l.writer) l.text (l.fn.text ++ final_lines 0 (take l.lp l.finals))
