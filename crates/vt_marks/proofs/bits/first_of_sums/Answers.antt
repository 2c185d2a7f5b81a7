use Rattle.std.proofs.Common.{arith, rules}
use Rattle.vt_marks.proofs.BitLemmas.{nothing-later, bit-within, word-within, later-set, later-first}
use Rattle.vt_marks.proofs.bits.first_of_sums.Goals as goal

pub returns-in_default-first_set-clause-nothing : goal.returns-in_default-first_set-clause-nothing
returns-in_default-first_set-clause-nothing c =
    nothing-later c.args.words.now c.args.sums.now c.args.from c.requires.sums (search rules) c.in_default-first_set.ensures.nothing

pub overflow_add-result-2 : goal.overflow_add-result-2
overflow_add-result-2 c =
    let s = c.in-Some-first_set.ensures in
    let fits = c.type_inv.words c.in-Some-first_set.next in
    let bit = bit-within c.args.words.now c.args.sums.now c.args.from c.requires.sums (search rules) c.in-Some-first_set.next s.set.0 s.set.1 s.first (omega (arith, fits)) in
    let word = word-within c.args.words.now c.args.sums.now c.args.from c.requires.sums (search rules) c.in-Some-first_set.next s.set.0 s.set.1 s.first (omega (arith, fits)) in
    omega (arith, bit, word, c.requires.few)

pub returns-clause-set : goal.returns-clause-set
returns-clause-set c =
    let s = c.in-Some-first_set.ensures in
    let fits = c.type_inv.words c.in-Some-first_set.next in
    later-set c.args.words.now c.args.sums.now c.args.from c.requires.sums (search rules) c.in-Some-first_set.next s.set.0 s.set.1 s.first (omega (arith, fits))

pub returns-clause-first : goal.returns-clause-first
returns-clause-first c =
    let s = c.in-Some-first_set.ensures in
    let fits = c.type_inv.words c.in-Some-first_set.next in
    later-first c.args.words.now c.args.sums.now c.args.from c.requires.sums (search rules) c.in-Some-first_set.next s.set.0 s.set.1 s.first (omega (arith, fits))
