use Rattle.std.proofs.Common.{◌≡◌, ◌∙◌, sym, subst, bit_and, ◌-◌, ◌%◌, w32, arith}
use Rattle.std.proofs.lemmas.Nat.{and_mask, one_shl}
use Rattle.std.proofs.lemmas.Nat.Bits.{bit_at-trailing_zeros}
use Rattle.std.specs.Int.{trailing_zeros}
use Rattle.vt_model.proofs.settings.Config.owner.Goals as goal

pub returns-then-self-clause-value : goal.returns-then-self-clause-value
returns-then-self-clause-value c =
    let config = c.args.self.now in
    let zeros = trailing_zeros w32 config.workers in
    let few = (bit_at-trailing_zeros w32 config.workers (omega (arith, config.some_worker)) (omega (arith, config.few_workers))).0 in
    let power = sym (one_shl zeros 32 few) ∙ c.if-self.true in
    subst (λ n. bit_and c.args.p (n - 1) ≡ c.args.p % n) power (and_mask c.args.p zeros)
