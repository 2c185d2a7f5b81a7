use Rattle.std.proofs.Common.{◌≡◌, ◌+◌, ◌-◌, ◌<◌}
use Rattle.vt_stream.specs.inside.Words.{word_of, moved}
use Rattle.vt_parts.specs.inside.Drawing.{first_hit, failures}
use Rattle.vt_parts.proofs.drawing.geometric.Given as goal

abbrev pub invariant-tries : goal.invariant-tries
invariant-tries l = record {
  value : first_hit (word_of l.fn.draws.stream.now) l.numerator l.denominator l.failed (l.limit - l.failed) ≡ failures (word_of l.fn.draws.stream.now) l.numerator l.denominator l.limit;
  drawn : l.draws.drawn ≡ l.fn.draws.drawn + l.failed;
  same_reference : l.draws.stream.ghost_name ≡ l.fn.draws.stream.ghost_name;
  fresh : l.failed ≡ 0 → l.draws.stream.now ≡ l.fn.draws.stream.now;
  stream : 0 < l.failed → l.draws.stream.now ≡ moved l.fn.draws.stream.now l.failed;
}
