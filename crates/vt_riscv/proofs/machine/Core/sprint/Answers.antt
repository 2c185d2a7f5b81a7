use Rattle.std.proofs.Common.{rules, ◌≡◌, ℕ, ◌+◌, ◌-◌, ◌<◌, ◌≤◌, ◌∙◌, length, slice_index, sym, ap, arith}
use Rattle.vt_riscv.specs.declared.machine.Stop.TheVariants.{Called}
use Rattle.vt_riscv.specs.declared.sprint.Go.TheVariants as go
use Rattle.vt_riscv.specs.inside.Readiness.{address_at, head_at, IsReadyAt, AreReady}
use Rattle.vt_riscv.specs.inside.Cores.{machine_of}
use Rattle.vt_riscv.specs.promise.Steps.{run_of}
use Rattle.vt_riscv.specs.inside.Sprints.{at_ready}
use Rattle.vt_riscv.proofs.SprintLemmas.{are_ready, aim_there, next_there, not_bad, rests_less, as_many, run-next, run-at, run-to, run-call}
use Rattle.vt_riscv.proofs.machine.Core.sprint.Given.{Over}
use Rattle.vt_riscv.proofs.machine.Core.sprint.Goals as goal
use Rattle.vt_riscv.proofs.machine.Core.sprint.Goals.{After-exec_ready, Joined-exec_ready, in-At, in-To+in-Some-head_number}

-- the lists of the code
are : (g : Over) (c : After-exec_ready g)
    → AreReady c.args.code.now.compressed c.args.code.now.image.items c.args.code.now.instructions.items c.as_slice-heads.result.now c.as_slice-immediates.result.now c.as_slice-targets.result.now c.as_slice-rests.result.now
are g c = are_ready c.args.code.now _ _ _ _ c.as_slice-heads.ensures.value c.as_slice-immediates.ensures.value c.as_slice-targets.ensures.value c.as_slice-rests.ensures.value

-- the one that was to be done
here : (g : Over) (c : After-exec_ready g)
    → IsReadyAt c.args.code.now.compressed c.args.code.now.image.items c.args.code.now.instructions.items c.as_slice-heads.result.now c.as_slice-rests.result.now (slice_index c.as_slice-immediates.result.now c.steps.at) c.steps.at
here g c = (are g c).each c.steps.at c.steps.invariant.within

-- there is one behind it, if it was done
next : (g : Over) (c : After-exec_ready g) → (c.exec_ready.result ≡ go.Not → ⊥) → c.steps.at + 1 < length c.as_slice-heads.result.now
next g c some =
    next_there c.args.code.now _ _ _ _ c.steps.at (are g c) c.steps.invariant.within
    (not_bad c.args.code.now _ _ _ c.steps.at (machine_of g.row.N c.steps.self c.steps.state) (machine_of g.row.N c.exec_ready.new.self c.exec_ready.new.state) c.exec_ready.result (here g c) c.exec_ready.ensures some)

-- and fewer steps are left
less : (g : Over) (c : After-exec_ready g) → (c.exec_ready.result ≡ go.Not → ⊥) → slice_index c.as_slice-rests.result.now (c.steps.at + 1) < slice_index c.as_slice-rests.result.now c.steps.at
less g c some =
    rests_less c.args.code.now _ _ _ c.steps.at (machine_of g.row.N c.steps.self c.steps.state) (machine_of g.row.N c.exec_ready.new.self c.exec_ready.new.state) c.exec_ready.result (here g c) c.exec_ready.ensures some

registers : (g : Over) (c : After-exec_ready g) → length c.exec_ready.new.self.registers ≡ 32
registers g c =
    as_many c.args.code.now _ _ _ c.steps.at (machine_of g.row.N c.steps.self c.steps.state) (machine_of g.row.N c.exec_ready.new.self c.exec_ready.new.state) c.exec_ready.result (here g c) c.exec_ready.ensures
    ∙ c.steps.invariant.registers

-- where a jump or a branch goes on, it goes on at one that is ready
jumps : (g : Over) (c : Joined-exec_ready g) → run_of c.args.code.now c.args.fuel (machine_of g.row.N c.args.self.now c.args.state.now)
    ≡ run_of c.args.code.now (c.steps.spare + slice_index c.as_slice-rests.result.now (c.steps.at + 1)) (at_ready (machine_of g.row.N c.exec_ready.new.self c.exec_ready.new.state) c.as_slice-heads.result.now c.match-exec_ready.to)
jumps g c =
    let code = c.args.code.now in
    let heads = c.as_slice-heads.result.now in
    let m = machine_of g.row.N c.steps.self c.steps.state in
    let n = machine_of g.row.N c.exec_ready.new.self c.exec_ready.new.state in
    let left = c.steps.spare + slice_index c.as_slice-rests.result.now (c.steps.at + 1) in
    let all = are_ready code heads c.as_slice-immediates.result.now c.as_slice-targets.result.now c.as_slice-rests.result.now c.as_slice-heads.ensures.value c.as_slice-immediates.ensures.value c.as_slice-targets.ensures.value c.as_slice-rests.ensures.value in
    let is = all.each c.steps.at c.steps.invariant.within in
    c.steps.invariant.run
    ∙ elim c.match-exec_ready.branch [
      | in-At w ↦ (
          run-at code heads _ _ c.steps.at m n c.exec_ready.result is c.exec_ready.ensures c.steps.spare c.steps.invariant.registers w.in-At.to w.in-At.is
          ∙ ap (λ (t : ℕ). run_of code left (at_ready n heads t)) (sym w.to-is))
      | in-To+in-Some-head_number w ↦ (
          run-to code heads _ _ c.steps.at m n c.exec_ready.result is c.exec_ready.ensures c.steps.spare c.steps.invariant.registers w.in-To.address w.in-To.is
          ∙ ap (λ (p : ℕ). run_of code left (record n { pc = p })) (sym w.in-Some-head_number.ensures.address ∙ ap (λ (t : ℕ). address_at (head_at heads t).index) (sym w.to-is)))
    ]

jumps_done : (g : Over) (c : Joined-exec_ready g) → c.exec_ready.result ≡ go.Not → ⊥
jumps_done g c none = elim c.match-exec_ready.branch [
  | in-At w ↦ absurd (let no : go.At w.in-At.to ≡ go.Not = sym w.in-At.is ∙ none in cc)
  | in-To+in-Some-head_number w ↦ absurd (let no : go.To w.in-To.address ≡ go.Not = sym w.in-To.is ∙ none in cc)
]

pub exec_ready-requires : goal.exec_ready-requires
exec_ready-requires g c =
    let code = c.args.code.now in
    let heads = c.as_slice-heads.result.now in
    let immediates = c.as_slice-immediates.result.now in
    let targets = c.as_slice-targets.result.now in
    let rests = c.as_slice-rests.result.now in
    let are = are_ready code heads immediates targets rests c.as_slice-heads.ensures.value c.as_slice-immediates.ensures.value c.as_slice-targets.ensures.value c.as_slice-rests.ensures.value in
    let within = c.steps.invariant.within in
    (search rules, (within, ((are.each c.steps.at within).small, (omega (arith, within, are.with_targets), aim_there code heads immediates targets rests c.steps.at are within))))

pub steps-preserved-in-Next : goal.steps-preserved-in-Next
steps-preserved-in-Next g c =
    let p = (goal.at.steps-preserved-in-Next g c).After-exec_ready in
    let some : c.exec_ready.result ≡ go.Not → ⊥ = λ none. absurd (let no : go.Next ≡ go.Not = sym c.in-Next.is ∙ none in cc) in
    record {
      run = c.steps.invariant.run
          ∙ run-next c.args.code.now _ _ _ c.steps.at (machine_of g.row.N c.steps.self c.steps.state) (machine_of g.row.N c.exec_ready.new.self c.exec_ready.new.state) c.exec_ready.result (here g p) c.exec_ready.ensures
          c.steps.spare c.steps.invariant.registers c.in-Next.is;
      within = next g p some;
      few = omega (arith, less g p some, c.steps.invariant.few);
      registers = registers g p;
    }

pub steps-smaller-in-Next : goal.steps-smaller-in-Next
steps-smaller-in-Next g c =
    let some : c.exec_ready.result ≡ go.Not → ⊥ = λ none. absurd (let no : go.Next ≡ go.Not = sym c.in-Next.is ∙ none in cc) in
    omega (arith, less g (goal.at.steps-smaller-in-Next g c).After-exec_ready some)

pub bounds-rests-at-in_default-head_number : goal.bounds-rests-at-in_default-head_number
bounds-rests-at-in_default-head_number g c =
    let p = (goal.at.bounds-rests-at-in_default-head_number g c).After-exec_ready in
    let some : c.exec_ready.result ≡ go.Not → ⊥ = λ none. absurd (let no : go.To c.in-To.address ≡ go.Not = sym c.in-To.is ∙ none in cc) in
    omega (arith, next g p some, (are g p).with_rests)

pub overflow_add-result-in_default-head_number : goal.overflow_add-result-in_default-head_number
overflow_add-result-in_default-head_number g c =
    let p = (goal.at.overflow_add-result-in_default-head_number g c).After-exec_ready in
    let some : c.exec_ready.result ≡ go.Not → ⊥ = λ none. absurd (let no : go.To c.in-To.address ≡ go.Not = sym c.in-To.is ∙ none in cc) in
    omega (arith, less g p some, c.steps.invariant.few)

pub returns-in_default-head_number-clause-run : goal.returns-in_default-head_number-clause-run
returns-in_default-head_number-clause-run g c =
    let p = (goal.at.returns-in_default-head_number-clause-run g c).After-exec_ready in
    c.steps.invariant.run
    ∙ run-to c.args.code.now _ _ _ c.steps.at (machine_of g.row.N c.steps.self c.steps.state) (machine_of g.row.N c.exec_ready.new.self c.exec_ready.new.state) c.exec_ready.result (here g p) c.exec_ready.ensures
    c.steps.spare c.steps.invariant.registers c.in-To.address c.in-To.is

pub returns-in_default-head_number-clause-left : goal.returns-in_default-head_number-clause-left
returns-in_default-head_number-clause-left g c =
    let p = (goal.at.returns-in_default-head_number-clause-left g c).After-exec_ready in
    let some : c.exec_ready.result ≡ go.Not → ⊥ = λ none. absurd (let no : go.To c.in-To.address ≡ go.Not = sym c.in-To.is ∙ none in cc) in
    omega (arith, less g p some, c.steps.invariant.few)

pub call_ready-requires-clause-within : goal.call_ready-requires-clause-within
call_ready-requires-clause-within g c =
    let p = (goal.at.call_ready-requires-clause-within g c).After-exec_ready in
    let some : c.exec_ready.result ≡ go.Not → ⊥ = λ none. absurd (let no : go.Called ≡ go.Not = sym c.in-Called.is ∙ none in cc) in
    next g p some

pub bounds-rests-at-in-Called : goal.bounds-rests-at-in-Called
bounds-rests-at-in-Called g c =
    let p = (goal.at.bounds-rests-at-in-Called g c).After-exec_ready in
    let some : c.exec_ready.result ≡ go.Not → ⊥ = λ none. absurd (let no : go.Called ≡ go.Not = sym c.in-Called.is ∙ none in cc) in
    omega (arith, next g p some, (are g p).with_rests)

pub overflow_add-result-in-Called-2 : goal.overflow_add-result-in-Called-2
overflow_add-result-in-Called-2 g c =
    let p = (goal.at.overflow_add-result-in-Called-2 g c).After-exec_ready in
    let some : c.exec_ready.result ≡ go.Not → ⊥ = λ none. absurd (let no : go.Called ≡ go.Not = sym c.in-Called.is ∙ none in cc) in
    omega (arith, less g p some, c.steps.invariant.few)

pub returns-in-Called-clause-run : goal.returns-in-Called-clause-run
returns-in-Called-clause-run g c =
    let p = (goal.at.returns-in-Called-clause-run g c).After-exec_ready in
    let left = c.steps.spare + slice_index c.as_slice-rests.result.now (c.steps.at + 1) in
    c.steps.invariant.run
    ∙ run-call c.args.code.now _ _ _ c.steps.at (machine_of g.row.N c.steps.self c.steps.state) (machine_of g.row.N c.exec_ready.new.self c.exec_ready.new.state) c.exec_ready.result (here g p) c.exec_ready.ensures
    c.steps.spare c.steps.invariant.registers c.in-Called.is
    ∙ (λ j. record { outcome = record { stop = Called; left = left }; machine = machine_of g.row.N (sym c.call_ready.ensures j) c.exec_ready.new.state })

pub returns-in-Called-clause-left : goal.returns-in-Called-clause-left
returns-in-Called-clause-left g c =
    let p = (goal.at.returns-in-Called-clause-left g c).After-exec_ready in
    let some : c.exec_ready.result ≡ go.Not → ⊥ = λ none. absurd (let no : go.Called ≡ go.Not = sym c.in-Called.is ∙ none in cc) in
    omega (arith, less g p some, c.steps.invariant.few)

pub bounds-rests-at-in-steps : goal.bounds-rests-at-in-steps
bounds-rests-at-in-steps g c =
    let p = (goal.at.bounds-rests-at-in-steps g c).After-exec_ready in
    let some = jumps_done g (goal.at.bounds-rests-at-in-steps g c).Joined-exec_ready in
    omega (arith, next g p some, (are g p).with_rests)

pub overflow_add-left-in-steps : goal.overflow_add-left-in-steps
overflow_add-left-in-steps g c =
    let p = (goal.at.overflow_add-left-in-steps g c).After-exec_ready in
    let some = jumps_done g (goal.at.overflow_add-left-in-steps g c).Joined-exec_ready in
    omega (arith, less g p some, c.steps.invariant.few)

pub returns-then-to-heads-clause-run : goal.returns-then-to-heads-clause-run
returns-then-to-heads-clause-run g c =
    let left = c.steps.spare + slice_index c.as_slice-rests.result.now (c.steps.at + 1) in
    jumps g (goal.at.returns-then-to-heads-clause-run g c).Joined-exec_ready
    ∙ ap (λ (p : ℕ). run_of c.args.code.now left (record (machine_of g.row.N c.exec_ready.new.self c.exec_ready.new.state) { pc = p })) (sym c.address_of-self-then-to-heads.ensures)

pub returns-then-to-heads-clause-left : goal.returns-then-to-heads-clause-left
returns-then-to-heads-clause-left g c =
    let p = (goal.at.returns-then-to-heads-clause-left g c).After-exec_ready in
    let some = jumps_done g (goal.at.returns-then-to-heads-clause-left g c).Joined-exec_ready in
    omega (arith, less g p some, c.steps.invariant.few)

pub steps-smaller : goal.steps-smaller
steps-smaller g c =
    let p = (goal.at.steps-smaller g c).After-exec_ready in
    let some = jumps_done g (goal.at.steps-smaller g c).Joined-exec_ready in
    omega (arith, less g p some)

pub steps-preserved : goal.steps-preserved
steps-preserved g c =
    let p = (goal.at.steps-preserved g c).After-exec_ready in
    let some = jumps_done g (goal.at.steps-preserved g c).Joined-exec_ready in
    let to = c.match-exec_ready.to in
    let rests = c.as_slice-rests.result.now in
    let left = c.steps.spare + slice_index rests (c.steps.at + 1) in
    let enough : slice_index rests to ≤ left = omega arith in
    let again : left ≡ left - slice_index rests to + slice_index rests to = omega (arith, enough) in
    record {
      run = jumps g (goal.at.steps-preserved g c).Joined-exec_ready ∙ ap (λ (l : ℕ). run_of c.args.code.now l (at_ready (machine_of g.row.N c.exec_ready.new.self c.exec_ready.new.state) c.as_slice-heads.result.now to)) again;
      within = omega arith;
      few = omega (arith, again, less g p some, c.steps.invariant.few);
      registers = registers g p;
    }
