-- Instructions that are ready do what those of the code do.
use Rattle.std.proofs.Common.{◌≡◌, inl, inr, ℕ, suc, ◌+◌, ◌-◌, ◌*◌, ◌/◌, ◌%◌, ◌^◌, ◌<◌, ◌≤◌, ◌∙◌, Bool, true, false, ◌||◌, not, nat_eq, nat_lt, if◌then◌else◌, ◌⊎◌, Option, Some, None, List, length, slice_get, slice_index, bit_and, refl, sym, ap, subst, arith}
use Rattle.std.proofs.lemmas.Bool.{cases_lt}
use Rattle.std.proofs.lemmas.Option.{slice_get-get_or}
use Rattle.vt_riscv.specs.declared.layout.TheConstants.{IMAGE}
use Rattle.vt_riscv.specs.declared.instruction.Operation.{Operation}
use Rattle.vt_riscv.specs.declared.instruction.Operation.TheVariants.{Bad, Lui, Andi, Ecall}
use Rattle.vt_riscv.specs.declared.instruction.Instruction.{Instruction}
use Rattle.vt_riscv.specs.declared.ready.Head.{Head}
use Rattle.vt_riscv.specs.declared.code.Code.{Code}
use Rattle.vt_riscv.specs.promise.Machines.{Machine}
use Rattle.vt_riscv.specs.declared.machine.Trap.TheVariants.{BadInstruction}
use Rattle.vt_riscv.specs.declared.machine.Stop.{Stop}
use Rattle.vt_riscv.specs.declared.machine.Stop.TheVariants.{Called, Trapped}
use Rattle.vt_riscv.specs.declared.sprint.Go.{Go}
use Rattle.vt_riscv.specs.declared.sprint.Go.TheVariants as go
use Rattle.vt_riscv.specs.promise.Arithmetic.{sum, right}
use Rattle.vt_riscv.specs.promise.Arithmetic.{left as left_of}
use Rattle.vt_riscv.specs.promise.Decoding.{plain}
use Rattle.vt_riscv.specs.inside.Pairs.{joins, constant_at, IsCallWith, IsMask, IsConstant}
use Rattle.vt_riscv.specs.inside.Readiness.{address_at, head_at, found, instruction_of, instruction_at, IsOne, IsTwo, IsReady, IsReadyAt, AreReady, steps_at}
use Rattle.vt_riscv.specs.inside.Readiness as ready
use Rattle.vt_riscv.specs.promise.Steps.{Turn, goes_on, stops, register_of, with_register, put_in, behind, is_misaligned, fetch_of, exec_of, obeyed, step_of, run_of}
use Rattle.vt_riscv.specs.inside.Sprints.{at_ready, called_from, called_at, seen, due, IsAim}
use Rattle.vt_riscv.proofs.PairLemmas.{back}
use Rattle.vt_riscv.proofs.PairSteps.{call_stops, constant_loaded, registers_kept, written, twice}
use Rattle.vt_riscv.proofs.ReadyLemmas.{even_on}
use Rattle.vt_riscv.proofs.RunLemmas.{run-on, run-stop}

-- an instruction may begin at an address that is such a multiple
aligned_there : (code : Code) (address : ℕ) → address % (if code.compressed then 2 else 4) ≡ 0 → is_misaligned code address ≡ false
aligned_there code address even = ap (λ (k : ℕ). not (nat_eq k 0)) even

-- none begins below the image
not_below : (k : ℕ) → nat_lt (address_at k) IMAGE ≡ false
not_below k = grind arith

index_there : (k : ℕ) → (address_at k - IMAGE) / 2 ≡ k
index_there k = omega arith

-- the address behind an instruction
address_behind : (k next long : ℕ) → next ≡ k + long → next < 2 ^ 32 → sum (address_at k) (2 * long) ≡ address_at next
address_behind k next long on few = omega (arith, on, few)

-- what stands for two is one of these
which : (o : Operation) → joins o ≡ true → (o ≡ Ecall) ⊎ ((o ≡ Andi) ⊎ (o ≡ Lui))
which Ecall h = inl refl
which Andi h = inr (inl refl)
which Lui h = inr (inr refl)
which _ h = absurd (let no : false ≡ true = h in cc)

-- the instructions that a code keeps are ready
pub are_ready : (code : Code) (heads : List Head) (immediates targets rests : List ℕ) → heads ≡ code.ready.heads.items → immediates ≡ code.ready.immediates.items → targets ≡ code.ready.targets.items → rests ≡ code.ready.rests.items
    → AreReady code.compressed code.image.items code.instructions.items heads immediates targets rests
are_ready code heads immediates targets rests hs is ts rs =
    subst (λ (x : List Head). AreReady code.compressed code.image.items code.instructions.items x immediates targets rests) (sym hs)
    (subst (λ (x : List ℕ). AreReady code.compressed code.image.items code.instructions.items code.ready.heads.items x targets rests) (sym is)
    (subst (λ (x : List ℕ). AreReady code.compressed code.image.items code.instructions.items code.ready.heads.items code.ready.immediates.items x rests) (sym ts)
    (subst (λ (x : List ℕ). AreReady code.compressed code.image.items code.instructions.items code.ready.heads.items code.ready.immediates.items code.ready.targets.items x) (sym rs) code.readied)))

-- an instruction may begin where another leads to
pub aim_there : (code : Code) (heads : List Head) (immediates targets rests : List ℕ) (k : ℕ) → AreReady code.compressed code.image.items code.instructions.items heads immediates targets rests → k < length heads
    → IsAim code heads (slice_index immediates k) (slice_index targets k) k
aim_there code heads immediates targets rests k are within known = (are.aimed k within known, aligned_there code _ (are.each (slice_index targets k) known).aligned)

-- an instruction that isn't `Bad` has one behind it
pub next_there : (code : Code) (heads : List Head) (immediates targets rests : List ℕ) (k : ℕ) → AreReady code.compressed code.image.items code.instructions.items heads immediates targets rests → k < length heads
    → ((head_at heads k).operation ≡ Bad → ⊥) → k + 1 < length heads
next_there code heads immediates targets rests k are within good = elim (cases_lt (k + 1) (length heads)) [
  | inl more ↦ more
  | inr last ↦ absurd (good (are.ends k (omega (arith, within, last))))
]

-- the machine fetches the instruction at an index
fetched : (code : Code) (p : ℕ) (i : Instruction) → address_at p % (if code.compressed then 2 else 4) ≡ 0 → p < length code.instructions.items → found code.instructions.items p ≡ i → fetch_of code (address_at p) ≡ Some i
fetched code p i even within is =
    (λ j. if not_below p j || aligned_there code (address_at p) even j then None else slice_get code.instructions.items (index_there p j))
    ∙ slice_get-get_or code.instructions.items p (plain Bad) within ∙ ap Some is

module _ {N : ℕ} (code : Code) where
  -- a step does what that instruction does
  step_there : (m : Machine N) (p : ℕ) (i : Instruction) (t : Turn N) → fetch_of code (address_at p) ≡ Some i → exec_of code (record m { pc = address_at p }) i i.operation ≡ t → step_of code (record m { pc = address_at p }) ≡ t
  step_there m p i t there does = ap (obeyed code (record m { pc = address_at p })) there ∙ does

  goes_step : (left : ℕ) (m n : Machine N) → 0 < left → step_of code m ≡ goes_on n → run_of code left m ≡ run_of code (left - 1) n
  goes_step left m n some step =
      let more : left ≡ suc (left - 1) = omega (arith, some) in
      run-on code left (left - 1) m n None more (sym (ap (λ (t : Turn N). t.stop) step)) (sym (ap (λ (t : Turn N). t.machine) step)) refl

  calls_step : (left : ℕ) (m n : Machine N) → 0 < left → step_of code m ≡ stops Called n → run_of code left m ≡ record { outcome = record { stop = Called; left = left - 1 }; machine = n }
  calls_step left m n some step =
      let more : left ≡ suc (left - 1) = omega (arith, some) in
      run-stop code left (left - 1) m n (Some Called) Called more (sym (ap (λ (t : Turn N). t.stop) step)) (sym (ap (λ (t : Turn N). t.machine) step)) refl

  -- a run after two instructions in a row, of which the first puts a number into a register
  module _ (m : Machine N) (p q : ℕ) (i j : Instruction) (v left : ℕ) (enough : 2 ≤ left) (here : fetch_of code (address_at p) ≡ Some i) (there : fetch_of code (address_at q) ≡ Some j)
      (behind_it : sum (address_at p) i.length ≡ address_at q) (puts : exec_of code (record m { pc = address_at p }) i i.operation ≡ put_in (record m { pc = address_at p }) i v) where
    first_of : run_of code left (record m { pc = address_at p }) ≡ run_of code (left - 1) (record (with_register m i.destination v) { pc = address_at q })
    first_of = goes_step left (record m { pc = address_at p }) (record (with_register m i.destination v) { pc = address_at q }) (omega (arith, enough))
        (step_there m p i _ here (puts ∙ (λ x. goes_on (record (with_register m i.destination v) { pc = behind_it x }))))

    -- the second one puts another number there
    both_put : (f : Instruction) (w : ℕ) → exec_of code (record (with_register m i.destination v) { pc = address_at q }) j j.operation ≡ put_in (record (with_register m i.destination v) { pc = address_at q }) j w
        → j.destination ≡ i.destination → f.destination ≡ i.destination → 0 < i.destination → i.destination < 32 → f.length ≡ i.length + j.length
        → run_of code left (record m { pc = address_at p }) ≡ run_of code (left - 2) (put_in (record m { pc = address_at p }) f w).machine
    both_put f w puts_too writes own some few long =
        let between = record (with_register m i.destination v) { pc = address_at q } in
        let pcs : sum (address_at q) j.length ≡ sum (address_at p) f.length = omega (arith, behind_it, long) in
        let registers : (with_register between j.destination w).registers ≡ (with_register m f.destination w).registers =
        ap (λ (d : ℕ). (with_register between d w).registers) writes ∙ twice m i.destination v w some few ∙ ap (λ (d : ℕ). (with_register m d w).registers) (sym own) in
        let less : left - 1 - 1 ≡ left - 2 = omega arith in
        first_of ∙ goes_step (left - 1) between (put_in between j w).machine (omega (arith, enough)) (step_there (with_register m i.destination v) q j _ there puts_too)
        ∙ (λ x. run_of code (less x) (record m { pc = pcs x; registers = registers x }))

    -- the second one is a call
    put_and_call : exec_of code (record (with_register m i.destination v) { pc = address_at q }) j j.operation ≡ stops Called (record (with_register m i.destination v) { pc = address_at q })
        → run_of code left (record m { pc = address_at p }) ≡ record { outcome = record { stop = Called; left = left - 2 }; machine = record (with_register m i.destination v) { pc = address_at q } }
    put_and_call calls =
        let between = record (with_register m i.destination v) { pc = address_at q } in
        let less : left - 1 - 1 ≡ left - 2 = omega arith in
        first_of ∙ calls_step (left - 1) between between (omega (arith, enough)) (step_there (with_register m i.destination v) q j _ there calls)
        ∙ (λ x. record { outcome = record { stop = Called; left = less x }; machine = between })

  -- an instruction that is ready, at its address
  module _ (r : Head) (next immediate count : ℕ) (m : Machine N) (long : length m.registers ≡ 32) (is : IsReady code.compressed code.image.items code.instructions.items r next immediate count)
      (good : r.operation ≡ Bad → ⊥) (left : ℕ) (enough : count ≤ left) where
    -- it stands for one: the machine does it
    one_step : (t : Turn N) → count ≡ 1 → t ≡ exec_of code (record m { pc = address_at r.index }) (instruction_of r next immediate) r.operation → step_of code (record m { pc = address_at r.index }) ≡ t
    one_step t single does =
        let one = (is.stands good).one single in
        step_there m r.index (instruction_of r next immediate) t (fetched code r.index (instruction_of r next immediate) is.aligned one.within one.is) (sym does)

    -- it stands for two: a run after both
    module _ (double : count ≡ 2) where
      module _ (q : ℕ) (at : q ≡ r.index + ready.step_of code.compressed (found code.instructions.items r.index).length)
          (t : IsTwo code.compressed code.image.items code.instructions.items r.index q (instruction_of r next immediate)) where
        some_left : 2 ≤ left
        some_left = omega (arith, double, enough)

        fetched_first : fetch_of code (address_at r.index) ≡ Some (found code.instructions.items r.index)
        fetched_first = fetched code r.index (found code.instructions.items r.index) is.aligned t.within refl

        fetched_second : fetch_of code (address_at q) ≡ Some (found code.instructions.items q)
        fetched_second = fetched code q (found code.instructions.items q)
            (subst (λ (n : ℕ). address_at n % (if code.compressed then 2 else 4) ≡ 0) (sym at) (even_on code.compressed r.index (found code.instructions.items r.index).length is.aligned)) t.too refl

        link : sum (address_at r.index) (found code.instructions.items r.index).length ≡ address_at q
        link = omega (arith, at, t.size, t.long, is.behind good, is.few good)

        some_register : 0 < (found code.instructions.items r.index).destination
        some_register = omega (arith, t.joined.some, t.joined.destination)

        few_registers : (found code.instructions.items r.index).destination < 32
        few_registers = omega (arith, is.small.destination, t.joined.destination)

        mask_run : IsMask (found code.instructions.items r.index) (found code.instructions.items q) (instruction_of r next immediate)
            → run_of code left (record m { pc = address_at r.index }) ≡ run_of code (left - 2) (put_in (record m { pc = address_at r.index }) (instruction_of r next immediate) (bit_and (register_of m r.first) immediate)).machine
        mask_run k =
            let i = found code.instructions.items r.index in
            let j = found code.instructions.items q in
            let v = left_of (register_of m i.first) i.immediate in
            let between = record (with_register m i.destination v) { pc = address_at q } in
            let number : right (register_of between j.first) j.immediate ≡ bit_and (register_of m r.first) immediate =
            (λ x. right (register_of between (k.over.reads x)) (k.same x))
            ∙ ap (λ (n : ℕ). right n i.immediate) (written m i.destination v some_register few_registers long)
            ∙ back (register_of m i.first) i.immediate k.amount
            ∙ (λ x. bit_and (register_of m (sym t.joined.first x)) (sym k.mask x)) in
            both_put m r.index q i j v left some_left fetched_first fetched_second link (ap (exec_of code (record m { pc = address_at r.index }) i) k.left)
            (instruction_of r next immediate) (bit_and (register_of m r.first) immediate) (ap (exec_of code between j) k.right ∙ ap (put_in between j) number)
            k.over.writes t.joined.destination some_register few_registers t.long

        constant_run : IsConstant code.image.items (found code.instructions.items r.index) (found code.instructions.items q) (instruction_of r next immediate)
            → run_of code left (record m { pc = address_at r.index }) ≡ run_of code (left - 2) (put_in (record m { pc = address_at r.index }) (instruction_of r next immediate) immediate).machine
        constant_run k =
            let i = found code.instructions.items r.index in
            let j = found code.instructions.items q in
            let v = i.immediate in
            let between = record (with_register m i.destination v) { pc = address_at q } in
            let there : sum (register_of between j.first) j.immediate ≡ sum i.immediate j.immediate =
            ap (λ (n : ℕ). sum (register_of between n) j.immediate) k.over.reads ∙ ap (λ (n : ℕ). sum n j.immediate) (written m i.destination v some_register few_registers long) in
            both_put m r.index q i j v left some_left fetched_first fetched_second link (ap (exec_of code (record m { pc = address_at r.index }) i) k.upper)
            (instruction_of r next immediate) immediate (constant_loaded code between j j.operation immediate (ap (constant_at code.image.items j.operation) there ∙ k.number))
            k.over.writes t.joined.destination some_register few_registers t.long

        call_run : IsCallWith (found code.instructions.items r.index) (found code.instructions.items q) (instruction_of r next immediate)
            → run_of code left (record m { pc = address_at r.index })
            ≡ record { outcome = record { stop = Called; left = left - 2 }; machine = record (with_register m r.destination (sum (register_of m r.first) immediate)) { pc = address_at next - 4 } }
        call_run k =
            let i = found code.instructions.items r.index in
            let j = found code.instructions.items q in
            let v = sum (register_of m i.first) i.immediate in
            let between = record (with_register m i.destination v) { pc = address_at q } in
            let pcs : address_at q ≡ address_at next - 4 = omega (arith, at, t.size, t.long, k.long, is.behind good) in
            put_and_call m r.index q i j v left some_left fetched_first fetched_second link (ap (exec_of code (record m { pc = address_at r.index }) i) k.adds) (ap (exec_of code between j) k.calls)
            ∙ (λ x. record {
              outcome = record { stop = Called; left = left - 2 };
              machine = record (with_register m (sym t.joined.destination x) (sum (register_of m (sym t.joined.first x)) (sym k.immediate x))) { pc = pcs x };
            })

      -- it goes on
      goes_twice : (n : Machine N) → goes_on n ≡ exec_of code (record m { pc = address_at r.index }) (instruction_of r next immediate) r.operation
          → run_of code left (record m { pc = address_at r.index }) ≡ run_of code (left - count) n
      goes_twice n does =
          let f = instruction_of r next immediate in
          let here = record m { pc = address_at r.index } in
          let q = r.index + ready.step_of code.compressed (found code.instructions.items r.index).length in
          let t = (is.stands good).two double in
          elim (which r.operation t.joined.only) [
            | inl call ↦ absurd (let no : None ≡ Some Called = ap (λ (u : Turn N). u.stop) (does ∙ ap (exec_of code here f) call) in cc)
            | inr other ↦ elim other [
              | inl mask ↦ (
                  let there : n ≡ (put_in here f (bit_and (register_of m r.first) immediate)).machine = ap (λ (u : Turn N). u.machine) (does ∙ ap (exec_of code here f) mask) in
                  mask_run q refl t (t.joined.mask mask) ∙ (λ x. run_of code (left - sym double x) (sym there x)))
              | inr constant ↦ (
                  let there : n ≡ (put_in here f immediate).machine = ap (λ (u : Turn N). u.machine) (does ∙ ap (exec_of code here f) constant) in
                  constant_run q refl t (t.joined.constant constant) ∙ (λ x. run_of code (left - sym double x) (sym there x)))
            ]
          ]

      -- it calls
      calls_twice : r.operation ≡ Ecall → run_of code left (record m { pc = address_at r.index })
          ≡ record { outcome = record { stop = Called; left = left - count }; machine = called_from m r next immediate }
      calls_twice call =
          let q = r.index + ready.step_of code.compressed (found code.instructions.items r.index).length in
          let t = (is.stands good).two double in
          let some : nat_eq r.destination 0 ≡ false = grind (arith, t.joined.some) in
          let registers : (with_register m r.destination (sum (register_of m r.first) immediate)).registers ≡ (called_from m r next immediate).registers =
          sym (ap (λ (b : Bool). if b then m.registers else (with_register m r.destination (sum (register_of m r.first) immediate)).registers) some) in
          call_run q refl t (t.joined.call call)
          ∙ (λ x. record { outcome = record { stop = Called; left = left - sym double x }; machine = record m { pc = address_at next - 4; registers = registers x } })

    -- a run goes on after it
    goes_run : (n : Machine N) → goes_on n ≡ exec_of code (record m { pc = address_at r.index }) (instruction_of r next immediate) r.operation
        → run_of code left (record m { pc = address_at r.index }) ≡ run_of code (left - count) n
    goes_run n does = elim (cases_lt count 2) [
      | inl few ↦ (
          let single : count ≡ 1 = omega (arith, few, (is.stands good).some) in
          goes_step left (record m { pc = address_at r.index }) n (omega (arith, single, enough)) (one_step (goes_on n) single does)
          ∙ ap (λ (c : ℕ). run_of code (left - c) n) (sym single))
      | inr more ↦ goes_twice (omega (arith, more, (is.stands good).most)) n does
    ]

    -- or it stops at a call
    calls_run : r.operation ≡ Ecall → run_of code left (record m { pc = address_at r.index })
        ≡ record { outcome = record { stop = Called; left = left - count }; machine = called_from m r next immediate }
    calls_run call = elim (cases_lt count 2) [
      | inl few ↦ (
          let here = record m { pc = address_at r.index } in
          let single : count ≡ 1 = omega (arith, few, (is.stands good).some) in
          let one = (is.stands good).one single in
          let pcs : address_at r.index ≡ address_at next - 4 = omega (arith, one.long call, is.behind good) in
          let none : nat_eq r.destination 0 ≡ true = ap (λ (d : ℕ). nat_eq d 0) (one.plain call) in
          let registers : m.registers ≡ (called_from m r next immediate).registers =
          sym (ap (λ (b : Bool). if b then m.registers else (with_register m r.destination (sum (register_of m r.first) immediate)).registers) none) in
          calls_step left here here (omega (arith, single, enough)) (one_step (stops Called here) single (sym (ap (exec_of code here (instruction_of r next immediate)) call)))
          ∙ (λ x. record { outcome = record { stop = Called; left = left - sym single x }; machine = record m { pc = pcs x; registers = registers x } }))
      | inr more ↦ calls_twice (omega (arith, more, (is.stands good).most)) call
    ]

  module _ (heads : List Head) (rests : List ℕ) (immediate k : ℕ) (m n : Machine N) (g : Go) (is : IsReadyAt code.compressed code.image.items code.instructions.items heads rests immediate k)
      (done : seen n heads immediate k g ≡ due m (exec_of code (at_ready m heads k) (instruction_at heads immediate k) (head_at heads k).operation) g) where
    does_as : (was : Go) → g ≡ was → seen n heads immediate k was ≡ due m (exec_of code (at_ready m heads k) (instruction_at heads immediate k) (head_at heads k).operation) was
    does_as was same = subst (λ (h : Go). seen n heads immediate k h ≡ due m (exec_of code (at_ready m heads k) (instruction_at heads immediate k) (head_at heads k).operation) h) same done

    -- an instruction that goes on or calls isn't `Bad`
    bad_stops : (why : Option Stop) (o : Machine N) → (record { stop = why; machine = o }) ≡ exec_of code (at_ready m heads k) (instruction_at heads immediate k) (head_at heads k).operation
        → (why ≡ Some (Trapped BadInstruction) → ⊥) → (head_at heads k).operation ≡ Bad → ⊥
    bad_stops why o does other bad =
        other (ap (λ (t : Turn N). t.stop) does ∙ ap (λ (o : Operation). (exec_of code (at_ready m heads k) (instruction_at heads immediate k) o).stop) bad)

    alive : (was : Go) → (was ≡ go.Not → ⊥) → seen n heads immediate k was ≡ due m (exec_of code (at_ready m heads k) (instruction_at heads immediate k) (head_at heads k).operation) was
        → (head_at heads k).operation ≡ Bad → ⊥
    alive go.Next some does = bad_stops None _ does (λ e. absurd (let no : None ≡ Some (Trapped BadInstruction) = e in cc))
    alive (go.At to) some does = bad_stops None _ does (λ e. absurd (let no : None ≡ Some (Trapped BadInstruction) = e in cc))
    alive (go.To address) some does = bad_stops None _ does (λ e. absurd (let no : None ≡ Some (Trapped BadInstruction) = e in cc))
    alive go.Called some does = bad_stops (Some Called) _ does (λ e. absurd (let no : Some Called ≡ Some (Trapped BadInstruction) = e in cc))
    alive go.Not some does = absurd (some refl)

    pub not_bad : (g ≡ go.Not → ⊥) → (head_at heads k).operation ≡ Bad → ⊥
    not_bad some = alive g some done

    -- so steps are made
    pub rests_less : (g ≡ go.Not → ⊥) → slice_index rests (k + 1) < slice_index rests k
    rests_less some = omega (arith, (is.stands (not_bad some)).some)

    exec_keeps : length (exec_of code (at_ready m heads k) (instruction_at heads immediate k) (head_at heads k).operation).machine.registers ≡ length m.registers
    exec_keeps = registers_kept code (at_ready m heads k) (instruction_at heads immediate k) (head_at heads k).operation

    kept_as : (was : Go) → seen n heads immediate k was ≡ due m (exec_of code (at_ready m heads k) (instruction_at heads immediate k) (head_at heads k).operation) was → length n.registers ≡ length m.registers
    kept_as go.Next does = ap (λ (t : Turn N). length t.machine.registers) does ∙ exec_keeps
    kept_as (go.At to) does = ap (λ (t : Turn N). length t.machine.registers) does ∙ exec_keeps
    kept_as (go.To address) does = ap (λ (t : Turn N). length t.machine.registers) does ∙ exec_keeps
    kept_as go.Called does = ap (λ (t : Turn N). length t.machine.registers) does ∙ exec_keeps
    kept_as go.Not does = ap (λ (t : Turn N). length t.machine.registers) does

    -- there are as many registers
    pub as_many : length n.registers ≡ length m.registers
    as_many = kept_as g done

    module _ (spare : ℕ) (long : length m.registers ≡ 32) where
      goes_from : (o : Machine N) → (g ≡ go.Not → ⊥) → goes_on o ≡ exec_of code (at_ready m heads k) (instruction_at heads immediate k) (head_at heads k).operation
          → run_of code (spare + slice_index rests k) (at_ready m heads k) ≡ run_of code (spare + slice_index rests (k + 1)) o
      goes_from o some does =
          let less = rests_less some in
          let left : spare + slice_index rests k - steps_at rests k ≡ spare + slice_index rests (k + 1) = omega (arith, less) in
          goes_run (head_at heads k) (head_at heads (k + 1)).index immediate (steps_at rests k) m long is (not_bad some) (spare + slice_index rests k) (omega arith) o does
          ∙ ap (λ (l : ℕ). run_of code l o) left

      pub run-next : g ≡ go.Next → run_of code (spare + slice_index rests k) (at_ready m heads k) ≡ run_of code (spare + slice_index rests (k + 1)) (at_ready n heads (k + 1))
      run-next next =
          let some : g ≡ go.Not → ⊥ = λ none. absurd (let no : go.Next ≡ go.Not = sym next ∙ none in cc) in
          let on = is.behind (not_bad some) in
          goes_from (record n { pc = behind (at_ready n heads k) (instruction_at heads immediate k) }) some (does_as go.Next next)
          ∙ ap (λ (p : ℕ). run_of code (spare + slice_index rests (k + 1)) (record n { pc = p }))
          (address_behind (head_at heads k).index (head_at heads (k + 1)).index ((head_at heads (k + 1)).index - (head_at heads k).index) (omega (arith, on)) (is.few (not_bad some)))

      -- a run goes on at another instruction that is ready
      pub run-at : (to : ℕ) → g ≡ go.At to → run_of code (spare + slice_index rests k) (at_ready m heads k) ≡ run_of code (spare + slice_index rests (k + 1)) (at_ready n heads to)
      run-at to next = goes_from (at_ready n heads to) (λ none. absurd (let no : go.At to ≡ go.Not = sym next ∙ none in cc)) (does_as (go.At to) next)

      -- a run goes on at another address
      pub run-to : (address : ℕ) → g ≡ go.To address → run_of code (spare + slice_index rests k) (at_ready m heads k) ≡ run_of code (spare + slice_index rests (k + 1)) (record n { pc = address })
      run-to address next = goes_from (record n { pc = address }) (λ none. absurd (let no : go.To address ≡ go.Not = sym next ∙ none in cc)) (does_as (go.To address) next)

      -- a run stops at a call
      pub run-call : g ≡ go.Called → run_of code (spare + slice_index rests k) (at_ready m heads k)
          ≡ record { outcome = record { stop = Called; left = spare + slice_index rests (k + 1) }; machine = called_at n heads immediate k }
      run-call next =
          let some : g ≡ go.Not → ⊥ = λ none. absurd (let no : go.Called ≡ go.Not = sym next ∙ none in cc) in
          let less = rests_less some in
          let does = does_as go.Called next in
          let call = call_stops code (at_ready m heads k) (instruction_at heads immediate k) (head_at heads k).operation (sym (ap (λ (t : Turn N). t.stop) does)) in
          let same : at_ready n heads k ≡ at_ready m heads k = ap (λ (t : Turn N). t.machine) (does ∙ ap (exec_of code (at_ready m heads k) (instruction_at heads immediate k)) call) in
          let left : spare + slice_index rests k - steps_at rests k ≡ spare + slice_index rests (k + 1) = omega (arith, less) in
          calls_run (head_at heads k) (head_at heads (k + 1)).index immediate (steps_at rests k) m long is (not_bad some) (spare + slice_index rests k) (omega arith) call
          ∙ (λ x. record { outcome = record { stop = Called; left = left x }; machine = called_at (sym same x) heads immediate k })
