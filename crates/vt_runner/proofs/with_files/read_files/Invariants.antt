use Rattle.std.proofs.Common.{take}
use Rattle.vt_runner.specs.inside.WithFiles.{MayHaveAll}
use Rattle.vt_runner.proofs.with_files.read_files.Given as goal

-- the files so far were read
abbrev pub invariant-loop-choice : goal.invariant-loop-choice
invariant-loop-choice g l = MayHaveAll (g.D.Files.told l.opened) (take l.choice-index l.choices) l.files.items
