use Rattle.std.proofs.Common.{rules, ◌≡◌, suc, ◌-◌, ◌∙◌, Bool, true, false, sym, ap, arith, if◌then◌else◌}
use Rattle.vt_riscv.specs.declared.machine.Stop.TheVariants.{Ended, Spent}
use Rattle.vt_riscv.specs.inside.Cores.{machine_of}
use Rattle.vt_riscv.specs.promise.Steps.{Ran, run_of}
use Rattle.vt_riscv.specs.inside.Sprints.{rest_of}
use Rattle.vt_riscv.proofs.RunLemmas.{run-on, run-stop, run-none}
use Rattle.vt_riscv.proofs.machine.Core.run.Goals as goal

pub returns-in-Some-clause-outcome : goal.returns-in-Some-clause-outcome
returns-in-Some-clause-outcome g c =
    let code = c.args.code.now in
    let m = machine_of g.row.N c.steps.self c.steps.state in
    let between = machine_of g.row.N c.sprint-sprint.new.self c.sprint-sprint.new.state in
    let n = machine_of g.row.N c.step.new.self c.step.new.state in
    let off : c.sprint-sprint.result.called ≡ false = search rules in
    let run : run_of code c.steps.left m ≡ run_of code c.sprint-sprint.result.left between = c.sprint-sprint.ensures.run ∙ ap (rest_of code between c.sprint-sprint.result.left) off in
    let more : c.sprint-sprint.result.left ≡ suc (c.sprint-sprint.result.left - 1) = omega arith in
    let whole = sym c.steps.invariant ∙ run ∙ run-stop code c.sprint-sprint.result.left (c.sprint-sprint.result.left - 1) between n c.step.result c.in-Some.stop more c.step.ensures.stop c.step.ensures.machine c.in-Some.is in
    sym (ap (λ (t : Ran _). t.outcome) whole)

pub returns-in-Some-clause-machine : goal.returns-in-Some-clause-machine
returns-in-Some-clause-machine g c =
    let code = c.args.code.now in
    let m = machine_of g.row.N c.steps.self c.steps.state in
    let between = machine_of g.row.N c.sprint-sprint.new.self c.sprint-sprint.new.state in
    let n = machine_of g.row.N c.step.new.self c.step.new.state in
    let off : c.sprint-sprint.result.called ≡ false = search rules in
    let run : run_of code c.steps.left m ≡ run_of code c.sprint-sprint.result.left between = c.sprint-sprint.ensures.run ∙ ap (rest_of code between c.sprint-sprint.result.left) off in
    let more : c.sprint-sprint.result.left ≡ suc (c.sprint-sprint.result.left - 1) = omega arith in
    let whole = sym c.steps.invariant ∙ run ∙ run-stop code c.sprint-sprint.result.left (c.sprint-sprint.result.left - 1) between n c.step.result c.in-Some.stop more c.step.ensures.stop c.step.ensures.machine c.in-Some.is in
    sym (ap (λ (t : Ran _). t.machine) whole)

pub steps-preserved-in_default : goal.steps-preserved-in_default
steps-preserved-in_default g c =
    let code = c.args.code.now in
    let m = machine_of g.row.N c.steps.self c.steps.state in
    let between = machine_of g.row.N c.sprint-sprint.new.self c.sprint-sprint.new.state in
    let n = machine_of g.row.N c.step.new.self c.step.new.state in
    let off : c.sprint-sprint.result.called ≡ false = search rules in
    let run : run_of code c.steps.left m ≡ run_of code c.sprint-sprint.result.left between = c.sprint-sprint.ensures.run ∙ ap (rest_of code between c.sprint-sprint.result.left) off in
    let more : c.sprint-sprint.result.left ≡ suc (c.sprint-sprint.result.left - 1) = omega arith in
    sym (run ∙ run-on code c.sprint-sprint.result.left (c.sprint-sprint.result.left - 1) between n c.step.result more c.step.ensures.stop c.step.ensures.machine c.in_default.is) ∙ c.steps.invariant

pub steps-preserved : goal.steps-preserved
steps-preserved g c =
    let code = c.args.code.now in
    let m = machine_of g.row.N c.steps.self c.steps.state in
    let between = machine_of g.row.N c.sprint-sprint.new.self c.sprint-sprint.new.state in
    let off : c.sprint-sprint.result.called ≡ false = search rules in
    let run : run_of code c.steps.left m ≡ run_of code c.sprint-sprint.result.left between = c.sprint-sprint.ensures.run ∙ ap (rest_of code between c.sprint-sprint.result.left) off in
    sym run ∙ c.steps.invariant

pub returns-then-self-eq-RETURN-clause-outcome : goal.returns-then-self-eq-RETURN-clause-outcome
returns-then-self-eq-RETURN-clause-outcome g c =
    let none : c.steps.left ≡ 0 = omega arith in
    let whole = sym c.steps.invariant ∙ run-none c.args.code.now c.steps.left (machine_of g.row.N c.steps.self c.steps.state) none in
    sym (ap (λ (t : Ran _). t.outcome) whole ∙ ap (λ (b : Bool). record { stop = if b then Ended else Spent; left = 0 }) {y = true} (search rules))

pub returns-then-self-eq-RETURN-clause-machine : goal.returns-then-self-eq-RETURN-clause-machine
returns-then-self-eq-RETURN-clause-machine g c =
    let none : c.steps.left ≡ 0 = omega arith in
    sym (ap (λ (t : Ran _). t.machine) (sym c.steps.invariant ∙ run-none c.args.code.now c.steps.left (machine_of g.row.N c.steps.self c.steps.state) none))

pub returns-else-self-eq-RETURN-clause-outcome : goal.returns-else-self-eq-RETURN-clause-outcome
returns-else-self-eq-RETURN-clause-outcome g c =
    let none : c.steps.left ≡ 0 = omega arith in
    let whole = sym c.steps.invariant ∙ run-none c.args.code.now c.steps.left (machine_of g.row.N c.steps.self c.steps.state) none in
    sym (ap (λ (t : Ran _). t.outcome) whole ∙ ap (λ (b : Bool). record { stop = if b then Ended else Spent; left = 0 }) {y = false} (search rules))

pub returns-else-self-eq-RETURN-clause-machine : goal.returns-else-self-eq-RETURN-clause-machine
returns-else-self-eq-RETURN-clause-machine g c =
    let none : c.steps.left ≡ 0 = omega arith in
    sym (ap (λ (t : Ran _). t.machine) (sym c.steps.invariant ∙ run-none c.args.code.now c.steps.left (machine_of g.row.N c.steps.self c.steps.state) none))
