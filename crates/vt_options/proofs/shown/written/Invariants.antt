use Rattle.std.proofs.Common.{◌≤◌}
use Rattle.std.specs.Char.Iter.{escape_rest, escape_left, escape_end}
use Rattle.std.proofs.Common.{string_bytes}
use Rattle.vt_options.proofs.ShownLemmas.{IsPart}
use Rattle.vt_options.proofs.shown.written.Given as goal

abbrev pub invariant-escape : goal.invariant-escape
invariant-escape l = (escape_end l.rest ≤ 10) × IsPart l.fn.spared l.fn.c (string_bytes l.text) (escape_left l.rest) (escape_rest l.rest) l.columns

abbrev pub decreases-escape : goal.decreases-escape
decreases-escape l = escape_left l.rest
