use Rattle.std.proofs.Common.{◌∙◌, nat_eq, ap, sym, w64}
use Rattle.std.proofs.lemmas.Nat.Bits.{bit_at_set_same, bit_at_set_other, bit_at_clear_same, bit_at_clear_other}
use Rattle.vt_marks.proofs.BitLemmas.{cleared, one_there}
use Rattle.vt_marks.proofs.bits.with_bit.Goals as goal

pub returns-then-value-clause-own : goal.returns-then-value-clause-own
returns-then-value-clause-own c = one_there _ _ (bit_at_set_same w64 _ _ c.requires) ∙ sym c.if-value.true

pub returns-then-value-clause-others : goal.returns-then-value-clause-others
returns-then-value-clause-others c other less differs = ap (λ b. nat_eq b 1) (bit_at_set_other w64 _ _ c.requires other differs)

pub returns-else-value-clause-own : goal.returns-else-value-clause-own
returns-else-value-clause-own c = cleared _ _ (bit_at_clear_same w64 _ _ c.requires) ∙ sym c.if-value.false

pub returns-else-value-clause-others : goal.returns-else-value-clause-others
returns-else-value-clause-others c other less differs = ap (λ b. nat_eq b 1) (bit_at_clear_other w64 _ _ c.requires other less differs)
