use Rattle.std.proofs.Common.{rules, ◌≡◌, ◌∙◌, ℕ, ◌*◌, List, [], ◌∷◌, ◌++◌, refl, sym, ap, arith, map}
use Rattle.std.specs.List.{range_with_len}
use Rattle.std.proofs.lemmas.List.FromFn.{map-range_with_len_more}
use Rattle.vt_riscv.specs.declared.instruction.Instruction.{Instruction}
use Rattle.vt_riscv.specs.promise.Codes.{instruction_at}
use Rattle.vt_riscv.proofs.code.instructions.Goals as goal

pub indices-preserved : goal.indices-preserved
indices-preserved c =
    let read = λ (k : ℕ). instruction_at c.args.compressed c.args.bytes.now (2 * k) in
    let pushed : c.push.new.self.items ≡ c.indices.list.items ++ c.instruction_at.result ∷ [] = search rules in
    record {
      count = refl;
      within = omega arith;
      list = pushed ∙ ap (λ (xs : List Instruction). xs ++ c.instruction_at.result ∷ []) c.indices.invariant.list
          ∙ ap (λ (i : Instruction). map read (range_with_len 0 c.indices.index) ++ i ∷ []) c.instruction_at.ensures
          ∙ sym (map-range_with_len_more read 0 c.indices.index c.indices.index (omega arith));
    }
