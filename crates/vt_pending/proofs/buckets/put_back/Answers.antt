use Rattle.std.proofs.Common.{ℕ, ◌≢◌, ◌↔◌, sym, subst}
use Rattle.std.specs.Prelude.{IsBitSet}
use Rattle.vt_pending.proofs.Words.{clear-bit, clear-other-bit}
use Rattle.vt_pending.proofs.buckets.put_back.Goals as goal

pub returns-then-is_empty-clause-bit : goal.returns-then-is_empty-clause-bit
returns-then-is_empty-clause-bit g c = (
  (λ set. absurd (clear-bit c.args.mask.bits c.args.number c.requires.marked (subst (λ n. IsBitSet n c.args.number) c.without.ensures set))),
  (λ some. absurd (some (c.is_empty.ensures.0 c.if-is_empty.true))),
)

pub returns-then-is_empty-clause-others : goal.returns-then-is_empty-clause-others
returns-then-is_empty-clause-others g c =
    subst (λ n. (i : ℕ) → i ≢ c.args.number → IsBitSet n i ↔ IsBitSet c.args.mask.bits i) (sym c.without.ensures) (clear-other-bit c.args.mask.bits c.args.number)
