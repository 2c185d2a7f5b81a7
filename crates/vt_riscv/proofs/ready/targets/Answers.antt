use Rattle.std.proofs.Common.{rules, ◌≡◌, ℕ, ◌<◌, List, [], ◌∷◌, ◌++◌, length, slice_index, sym, subst, arith}
use Rattle.vt_riscv.specs.inside.Readiness.{IsAimed}
use Rattle.vt_riscv.proofs.ReadyLemmas.{one_aimed}
use Rattle.vt_riscv.proofs.ready.targets.Goals as goal

pub instructions-preserved : goal.instructions-preserved
instructions-preserved c =
    let heads = c.args.heads.now in
    let immediates = c.args.immediates.now in
    let all = c.instructions.all.items in
    let pushed : c.push.new.self.items ≡ all ++ c.target.result ∷ [] = search rules in
    let here : IsAimed heads (slice_index immediates (length all)) c.target.result (length all) = λ known. search rules in
    record {
      few = omega arith;
      each = subst (λ (ts : List ℕ). (k : ℕ) → k < length ts → IsAimed heads (slice_index immediates k) (slice_index ts k) k) (sym pushed) (one_aimed heads immediates all c.target.result c.instructions.invariant.each here);
    }
