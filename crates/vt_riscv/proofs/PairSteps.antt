-- What the instructions of a pair do.
use Rattle.std.proofs.Common.{◌≡◌, ◌≢◌, ℕ, ◌-◌, ◌%◌, ◌<◌, ◌∙◌, Bool, true, false, ◌||◌, nat_lt, nat_le, if◌then◌else◌, Option, Some, None, List, length, slice_index, slice_set, refl, sym, ap, arith}
use Rattle.std.specs.Option.{option_map}
use Rattle.std.proofs.lemmas.List.{get_or-set_same, get_or-set_other, length-set, set_comm, set-set}
use Rattle.vt_riscv.specs.declared.layout.TheConstants.{IMAGE, DATA, STATE, STACK}
use Rattle.vt_riscv.specs.declared.memory.Size.{Size}
use Rattle.vt_riscv.specs.declared.memory.Size.TheVariants.{Byte, Half, Word, Double}
use Rattle.vt_riscv.specs.declared.instruction.Operation.{Operation}
use Rattle.vt_riscv.specs.declared.instruction.Operation.TheVariants.{Lb, Lh, Lw, Ld, Lbu, Lhu, Lwu, Ecall}
use Rattle.vt_riscv.specs.declared.instruction.Instruction.{Instruction}
use Rattle.vt_riscv.specs.declared.code.Code.{Code}
use Rattle.vt_riscv.specs.promise.Machines.{Machine}
use Rattle.vt_riscv.specs.declared.machine.Trap.{Trap}
use Rattle.vt_riscv.specs.declared.machine.Trap.TheVariants.{BadJump, BadAddress}
use Rattle.vt_riscv.specs.declared.machine.Stop.TheVariants.{Called, Trapped}
use Rattle.vt_riscv.specs.declared.effect.Effect.{Effect}
use Rattle.vt_riscv.specs.declared.effect.Effect.TheVariants.{Put, PutAddress, Jump, JumpTo, Branch, Load, LoadSigned, Store, Pass, Call, Fail}
use Rattle.vt_riscv.specs.promise.Arithmetic.{sum}
use Rattle.vt_riscv.specs.promise.Memory.{number_within, extended}
use Rattle.vt_riscv.specs.promise.Effects.{effect_of}
use Rattle.vt_riscv.specs.promise.Steps.{Turn, goes_on, trapped, register_of, with_register, behind, put_in, passed, jumped, branched, address, loaded_from, loaded_in, state_put, stack_put, done, exec_of, is_misaligned}
use Rattle.vt_riscv.specs.inside.Pairs.{loaded_by, constant_at}

-- a call is the one operation that stops at a call
abbrev is_call : Effect → Bool
is_call Call = true
is_call _ = false

call_only : (o : Operation) (x y n : ℕ) → is_call (effect_of o x y n) ≡ true → o ≡ Ecall
call_only Ecall x y n h = refl
call_only _ x y n h = absurd (let no : false ≡ true = h in cc)

-- what is there wasn't left out
if_some : (b : Bool) (x : Option ℕ) (c : ℕ) → (if b then None else x) ≡ Some c → (b ≡ false) × (x ≡ Some c)
if_some true x c h = absurd (let no : None ≡ Some c = h in cc)
if_some false x c h = (refl, h)

module _ {N : ℕ} where
  -- it doesn't stop at a call
  abbrev GoesPast : Turn N → Type 0
  GoesPast t = t.stop ≡ Some Called → ⊥

  past_on : (m : Machine N) → GoesPast (goes_on m)
  past_on m h = absurd (let no : None ≡ Some Called = h in cc)

  past_trap : (why : Trap) (m : Machine N) → GoesPast (trapped why m)
  past_trap why m h = absurd (let no : Some (Trapped why) ≡ Some Called = h in cc)

  past_if : (b : Bool) (s t : Turn N) → GoesPast s → GoesPast t → GoesPast (if b then s else t)
  past_if true s t here there = here
  past_if false s t here there = there

  past_load : (m : Machine N) (i : Instruction) (how : ℕ → ℕ) (x : Option ℕ) → GoesPast (loaded_in m i how x)
  past_load m i how None = past_trap BadAddress m
  past_load m i how (Some v) = past_on (put_in m i (how v)).machine

  past_state : (m : Machine N) (i : Instruction) (x : Option (List ℕ)) → GoesPast (state_put m i x)
  past_state m i None = past_trap BadAddress m
  past_state m i (Some bytes) = past_on (record m { state = bytes; pc = behind m i })

  past_stack : (m : Machine N) (i : Instruction) (x : Option (List ℕ)) → GoesPast (stack_put m i x)
  past_stack m i None = past_trap BadAddress m
  past_stack m i (Some bytes) = past_on (record m { stack = bytes; pc = behind m i })

  past_jump : (code : Code) (m : Machine N) (i : Instruction) (to : ℕ) → GoesPast (jumped code m i to)
  past_jump code m i to =
      let n = record (with_register m i.destination (behind m i)) { pc = to } in
      past_if (is_misaligned code to) (trapped BadJump m) (goes_on n) (past_trap BadJump m) (past_on n)

  past_branch : (code : Code) (m : Machine N) (i : Instruction) (taken : Bool) → GoesPast (branched code m i taken)
  past_branch code m i true =
      let n = record m { pc = sum m.pc i.immediate } in
      past_if (is_misaligned code (sum m.pc i.immediate)) (trapped BadJump m) (goes_on n) (past_trap BadJump m) (past_on n)
  past_branch code m i false = past_on (passed m i).machine

  call_effect : (code : Code) (m : Machine N) (i : Instruction) (e : Effect) → (done code m i e).stop ≡ Some Called → is_call e ≡ true
  call_effect code m i (Put v) h = absurd (past_on (put_in m i v).machine h)
  call_effect code m i PutAddress h = absurd (past_on (put_in m i (sum m.pc i.immediate)).machine h)
  call_effect code m i Jump h = absurd (past_jump code m i _ h)
  call_effect code m i JumpTo h = absurd (past_jump code m i _ h)
  call_effect code m i (Branch taken) h = absurd (past_branch code m i taken h)
  call_effect code m i (Load size) h = absurd (past_load m i (λ (v : ℕ). v) _ h)
  call_effect code m i (LoadSigned size) h = absurd (past_load m i (extended size) _ h)
  call_effect code m i (Store size) h = absurd (past_if (nat_le STATE (address m i)) _ _ (past_state m i _) (past_if (nat_le (STATE - STACK) (address m i)) _ _ (past_stack m i _) (past_trap BadAddress m)) h)
  call_effect code m i Pass h = absurd (past_on (passed m i).machine h)
  call_effect code m i Call h = refl
  call_effect code m i (Fail why) h = absurd (past_trap why m h)

  -- what stops at a call is ECALL
  pub call_stops : (code : Code) (m : Machine N) (i : Instruction) (o : Operation) → (exec_of code m i o).stop ≡ Some Called → o ≡ Ecall
  call_stops code m i o h = call_only o _ _ _ (call_effect code m i (effect_of o (register_of m i.first) (register_of m i.second) i.immediate) h)

  -- it leaves as many registers
  abbrev Keeps : Machine N → Turn N → Type 0
  Keeps m t = length t.machine.registers ≡ length m.registers

  keeps_register : (m : Machine N) (r v : ℕ) → length (with_register m r v).registers ≡ length m.registers
  keeps_register m r v = length-set (slice_set m.registers (r % 32) v) 0 0 ∙ length-set m.registers (r % 32) v

  keeps_if : (m : Machine N) (b : Bool) (s t : Turn N) → Keeps m s → Keeps m t → Keeps m (if b then s else t)
  keeps_if m true s t here there = here
  keeps_if m false s t here there = there

  keeps_load : (m : Machine N) (i : Instruction) (how : ℕ → ℕ) (x : Option ℕ) → Keeps m (loaded_in m i how x)
  keeps_load m i how None = refl
  keeps_load m i how (Some v) = keeps_register m i.destination (how v)

  keeps_state : (m : Machine N) (i : Instruction) (x : Option (List ℕ)) → Keeps m (state_put m i x)
  keeps_state m i None = refl
  keeps_state m i (Some bytes) = refl

  keeps_stack : (m : Machine N) (i : Instruction) (x : Option (List ℕ)) → Keeps m (stack_put m i x)
  keeps_stack m i None = refl
  keeps_stack m i (Some bytes) = refl

  keeps_jump : (code : Code) (m : Machine N) (i : Instruction) (to : ℕ) → Keeps m (jumped code m i to)
  keeps_jump code m i to =
      keeps_if m (is_misaligned code to) (trapped BadJump m) (goes_on (record (with_register m i.destination (behind m i)) { pc = to })) refl (keeps_register m i.destination (behind m i))

  keeps_branch : (code : Code) (m : Machine N) (i : Instruction) (taken : Bool) → Keeps m (branched code m i taken)
  keeps_branch code m i true = keeps_if m (is_misaligned code (sum m.pc i.immediate)) (trapped BadJump m) (goes_on (record m { pc = sum m.pc i.immediate })) refl refl
  keeps_branch code m i false = refl

  keeps_effect : (code : Code) (m : Machine N) (i : Instruction) (e : Effect) → Keeps m (done code m i e)
  keeps_effect code m i (Put v) = keeps_register m i.destination v
  keeps_effect code m i PutAddress = keeps_register m i.destination (sum m.pc i.immediate)
  keeps_effect code m i Jump = keeps_jump code m i (sum m.pc i.immediate)
  keeps_effect code m i JumpTo = keeps_jump code m i (address m i - address m i % 2)
  keeps_effect code m i (Branch taken) = keeps_branch code m i taken
  keeps_effect code m i (Load size) = keeps_load m i (λ (v : ℕ). v) (loaded_from code m size (address m i))
  keeps_effect code m i (LoadSigned size) = keeps_load m i (extended size) (loaded_from code m size (address m i))
  keeps_effect code m i (Store size) = keeps_if m (nat_le STATE (address m i)) _ _ (keeps_state m i _) (keeps_if m (nat_le (STATE - STACK) (address m i)) _ _ (keeps_stack m i _) refl)
  keeps_effect code m i Pass = refl
  keeps_effect code m i Call = refl
  keeps_effect code m i (Fail why) = refl

  -- an instruction leaves as many registers
  pub registers_kept : (code : Code) (m : Machine N) (i : Instruction) (o : Operation) → length (exec_of code m i o).machine.registers ≡ length m.registers
  registers_kept code m i o = keeps_effect code m i (effect_of o (register_of m i.first) (register_of m i.second) i.immediate)

  -- a number in the image
  from_image : (code : Code) (m : Machine N) (size : Size) (at : ℕ) → (nat_lt at IMAGE || nat_le DATA at) ≡ false → loaded_from code m size at ≡ number_within size code.image.items (at - IMAGE)
  from_image code m size at inside =
      let high : nat_le STATE at ≡ false = grind (arith, inside) in
      let stack : nat_le (STATE - STACK) at ≡ false = grind (arith, inside) in
      let inputs : nat_le DATA at ≡ false = grind (arith, inside) in
      let image : nat_le IMAGE at ≡ true = grind (arith, inside) in
      (λ j. if high j then number_within size m.state (at - STATE)
      else (if stack j then number_within size m.stack (at - (STATE - STACK))
      else (if inputs j then number_within size code.input.items (at - DATA)
      else (if image j then number_within size code.image.items (at - IMAGE) else None))))

  -- a number that is there is put into a register
  loaded_plain : (m : Machine N) (i : Instruction) (x y : Option ℕ) (c : ℕ) → x ≡ y → y ≡ Some c → loaded_in m i (λ (v : ℕ). v) x ≡ put_in m i c
  loaded_plain m i x y c is some = ap (loaded_in m i (λ (v : ℕ). v)) (is ∙ some)

  loaded_so : (m : Machine N) (i : Instruction) (how : ℕ → ℕ) (y : Option ℕ) (c : ℕ) → option_map how y ≡ Some c → loaded_in m i how y ≡ put_in m i c
  loaded_so m i how None c h = absurd (let no : None ≡ Some c = h in cc)
  loaded_so m i how (Some v) c h = ap (put_in m i) (let yes : Some (how v) ≡ Some c = h in cc)

  loaded_with : (m : Machine N) (i : Instruction) (how : ℕ → ℕ) (x y : Option ℕ) (c : ℕ) → x ≡ y → option_map how y ≡ Some c → loaded_in m i how x ≡ put_in m i c
  loaded_with m i how x y c is some = ap (loaded_in m i how) is ∙ loaded_so m i how y c some

  load_does : (code : Code) (m : Machine N) (i : Instruction) (c : ℕ) (o : Operation) (x y n : ℕ) → (nat_lt (address m i) IMAGE || nat_le DATA (address m i)) ≡ false
      → loaded_by (effect_of o 0 0 0) code.image.items (address m i - IMAGE) ≡ Some c → done code m i (effect_of o x y n) ≡ put_in m i c
  load_does code m i c Lb x y n inside h = loaded_with m i (extended Byte) _ _ c (from_image code m Byte (address m i) inside) h
  load_does code m i c Lh x y n inside h = loaded_with m i (extended Half) _ _ c (from_image code m Half (address m i) inside) h
  load_does code m i c Lw x y n inside h = loaded_with m i (extended Word) _ _ c (from_image code m Word (address m i) inside) h
  load_does code m i c Ld x y n inside h = loaded_plain m i _ _ c (from_image code m Double (address m i) inside) h
  load_does code m i c Lbu x y n inside h = loaded_plain m i _ _ c (from_image code m Byte (address m i) inside) h
  load_does code m i c Lhu x y n inside h = loaded_plain m i _ _ c (from_image code m Half (address m i) inside) h
  load_does code m i c Lwu x y n inside h = loaded_plain m i _ _ c (from_image code m Word (address m i) inside) h
  load_does code m i c _ x y n inside h = absurd (let no : None ≡ Some c = h in cc)

  -- a load of a constant puts it into a register
  pub constant_loaded : (code : Code) (m : Machine N) (i : Instruction) (o : Operation) (c : ℕ) → constant_at code.image.items o (address m i) ≡ Some c → exec_of code m i o ≡ put_in m i c
  constant_loaded code m i o c h =
      let both = if_some (nat_lt (address m i) IMAGE || nat_le DATA (address m i)) _ c h in
      load_does code m i c o (register_of m i.first) (register_of m i.second) i.immediate both.0 both.1

  -- what a register holds that was written
  pub written : (m : Machine N) (d v : ℕ) → 0 < d → d < 32 → length m.registers ≡ 32 → register_of (with_register m d v) d ≡ v
  written m d v some few long =
      let same : d % 32 ≡ d = omega (arith, few) in
      let other : d ≢ 0 = λ none. omega (arith, some, none) in
      let within : d < length m.registers = omega (arith, few, long) in
      ap (λ (r : ℕ). slice_index (slice_set (slice_set m.registers r v) 0 0) r) same
      ∙ get_or-set_other (slice_set m.registers d v) 0 d 0 0 other
      ∙ get_or-set_same m.registers d v 0 within

  -- a register that is written twice holds the second number
  pub twice : (m : Machine N) (d v w : ℕ) → 0 < d → d < 32 → (with_register (with_register m d v) d w).registers ≡ (with_register m d w).registers
  twice m d v w some few =
      let other : d % 32 ≢ 0 = λ none. omega (arith, some, few, none) in
      let r = d % 32 in
      ap (λ (l : List ℕ). slice_set l 0 0) (sym (set_comm (slice_set m.registers r v) r 0 w 0 other))
      ∙ set-set (slice_set (slice_set m.registers r v) r w) 0 0 0
      ∙ ap (λ (l : List ℕ). slice_set l 0 0) (set-set m.registers r v w)
