use Rattle.std.proofs.Common.{arith}
use Rattle.vt_text.proofs.TextLemmas.{length_most, length_small}
use Rattle.vt_text.proofs.buffer.put_number.Goals as goal

pub write_digits-requires : goal.write_digits-requires
write_digits-requires c = (omega (arith, length_most c.args.n c.ranges.n.fits, c.requires.room), c.requires.within)

pub returns-clause-short : goal.returns-clause-short
returns-clause-short c = omega (arith, length_most c.args.n c.ranges.n.fits, c.write_digits.ensures.start)

pub returns-clause-small : goal.returns-clause-small
returns-clause-small c small = omega (arith, length_small c.args.n small, c.write_digits.ensures.start)
