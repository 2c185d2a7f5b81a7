use Rattle.std.proofs.Common.{◌≡◌, ◌<◌, ◌∙◌, false, if◌then◌else◌, length, slice_index, sym, ap, arith}
use Rattle.vt_riscv.specs.declared.machine.Trap.TheVariants.{BadJump}
use Rattle.vt_riscv.specs.promise.Arithmetic.{sum}
use Rattle.vt_riscv.specs.inside.Readiness.{address_at, head_at, instruction_at}
use Rattle.vt_riscv.specs.inside.Cores.{machine_of}
use Rattle.vt_riscv.specs.promise.Steps.{goes_on, trapped, is_misaligned, with_register, behind}
use Rattle.vt_riscv.specs.inside.Sprints.{at_ready}
use Rattle.vt_riscv.proofs.machine.Core.link_ready.Goals as goal

pub returns : goal.returns
returns c = λ n bytes.
    let heads = c.args.heads.now in
    let here = at_ready (machine_of n c.args.self.now bytes) heads c.args.here.at in
    let i = instruction_at heads c.args.here.immediate c.args.here.at in
    let to = sum (address_at (head_at heads c.args.here.at).index) c.args.here.immediate in
    let known : slice_index c.args.targets.now c.args.here.at < length heads = omega arith in
    let aim = c.requires.aim known in
    let straight : is_misaligned c.args.code.now to ≡ false = ap (is_misaligned c.args.code.now) (sym aim.0) ∙ aim.1 in
    (λ j. goes_on (record (machine_of n (c.link.ensures j) bytes) { pc = aim.0 j }))
    ∙ (λ j. if sym straight j then trapped BadJump here else goes_on (record (with_register here i.destination (behind here i)) { pc = to }))
