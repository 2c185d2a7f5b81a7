use Rattle.std.proofs.Common.{arith}
use Rattle.vt_marks.proofs.BitLemmas.{none-from, first-from}
use Rattle.vt_marks.proofs.bits.first_one.Goals as goal

pub returns-then-rest-eq0-clause-nothing : goal.returns-then-rest-eq0-clause-nothing
returns-then-rest-eq0-clause-nothing c = none-from c.args.word c.args.from (omega arith) c.requires c.if-rest-eq0.true

pub returns-clause-set : goal.returns-clause-set
returns-clause-set c = let f = first-from c.args.word c.args.from (omega arith) c.requires c.if-rest-eq0.false in (f.from_there, f.within_word, f.one)

pub returns-clause-first : goal.returns-clause-first
returns-clause-first c = let f = first-from c.args.word c.args.from (omega arith) c.requires c.if-rest-eq0.false in f.first
