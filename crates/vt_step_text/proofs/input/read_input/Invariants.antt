use Rattle.std.proofs.Common.{◌-◌, ◌+◌, vec_len}
use Rattle.std.specs.Io.KnownBytes.{Consumes}
use Rattle.vt_step_text.specs.declared.limits.TheConstants.{MAX_INPUT}
use Rattle.vt_step_text.proofs.input.read_input.Given as goal

-- the input is what was read
abbrev pub invariant-reads : goal.invariant-reads
invariant-reads g l = Consumes (g.R.Read.remaining l.fn.reader) (g.R.Read.remaining l.reader) l.input.items

abbrev pub decreases-reads : goal.decreases-reads
decreases-reads g l = MAX_INPUT + 1 - vec_len l.input
