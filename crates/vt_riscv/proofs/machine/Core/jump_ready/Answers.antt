use Rattle.std.proofs.Common.{rules, ◌≡◌, ◌-◌, ◌%◌, ◌∙◌, false, if◌then◌else◌, sym}
use Rattle.vt_riscv.specs.declared.machine.Trap.TheVariants.{BadJump}
use Rattle.vt_riscv.specs.promise.Arithmetic.{sum}
use Rattle.vt_riscv.specs.inside.Readiness.{instruction_at}
use Rattle.vt_riscv.specs.inside.Cores.{machine_of}
use Rattle.vt_riscv.specs.promise.Steps.{goes_on, trapped, is_misaligned, with_register, behind}
use Rattle.vt_riscv.specs.inside.Sprints.{at_ready}
use Rattle.vt_riscv.proofs.machine.Core.jump_ready.Goals as goal

pub returns : goal.returns
returns c = λ n bytes.
    let here = at_ready (machine_of n c.args.self.now bytes) c.args.heads.now c.args.here.at in
    let i = instruction_at c.args.heads.now c.args.here.immediate c.args.here.at in
    let address = sum c.args.x c.args.here.immediate in
    let to = address - address % 2 in
    let straight : is_misaligned c.args.code.now to ≡ false = search rules in
    (λ j. goes_on (record (machine_of n (c.link.ensures j) bytes) { pc = to }))
    ∙ (λ j. if sym straight j then trapped BadJump here else goes_on (record (with_register here i.destination (behind here i)) { pc = to }))
