-- Instructions as a run of many steps wants them.
use Rattle.std.specs.Prelude.{ℕ, ◌+◌, ◌-◌, ◌*◌, ◌%◌, ◌^◌, ◌<◌, ◌≤◌, ◌≡◌, Bool, ◌&&◌, nat_eq, if◌then◌else◌, List, length, slice_index, slice_index_or}
use Rattle.vt_riscv.specs.declared.layout.TheConstants.{IMAGE}
use Rattle.vt_riscv.specs.declared.instruction.Operation.TheVariants.{Bad, Ecall}
use Rattle.vt_riscv.specs.declared.instruction.Instruction.{Instruction}
use Rattle.vt_riscv.specs.declared.ready.Head.{Head}
use Rattle.vt_riscv.specs.declared.ready.Entry.{Entry}
use Rattle.vt_riscv.specs.promise.Arithmetic.{sum}
use Rattle.vt_riscv.specs.promise.Decoding.{plain}
use Rattle.vt_riscv.specs.inside.Pairs.{IsJoined}

-- the address of the instruction that is at an index of the code, in units of two bytes
abbrev pub address_at : ℕ → ℕ
address_at k = IMAGE + 2 * k

-- how many indices an instruction of so many bytes takes
abbrev pub step_of : Bool → ℕ → ℕ
step_of compressed length = if compressed && nat_eq length 2 then 1 else 2

-- the head that ends the instructions
abbrev pub ended : ℕ → Head
ended index = record { operation = Bad; destination = 0; first = 0; second = 0; index = index }

abbrev pub head_at : List Head → ℕ → Head
head_at heads k = slice_index_or heads k (ended 0)

-- the instruction that a head stands for, with its immediate, where the next one begins at an index of the code
abbrev pub instruction_of : Head → ℕ → ℕ → Instruction
instruction_of r behind immediate = record {
  operation = r.operation;
  destination = r.destination;
  first = r.first;
  second = r.second;
  length = 2 * (behind - r.index);
  immediate = immediate;
}

abbrev pub instruction_at : List Head → ℕ → ℕ → Instruction
instruction_at heads immediate k = instruction_of (head_at heads k) (head_at heads (k + 1)).index immediate

-- its registers exist
pub record IsSmall (r : Head) : Type 0 where
  pub destination : r.destination < 32
  pub first : r.first < 32
  pub second : r.second < 32

-- the head of an instruction at an index of the code
abbrev pub head_of : Instruction → ℕ → Head
head_of i index = record { operation = i.operation; destination = i.destination; first = i.first; second = i.second; index = index }

-- the instruction at an index of the code
abbrev pub found : List Instruction → ℕ → Instruction
found list index = slice_index_or list index (plain Bad)

-- it is the instruction at an index. A call has no register, since one that has stands for two
pub record IsOne (list : List Instruction) (index : ℕ) (f : Instruction) : Type 0 where
  pub within : index < length list
  pub is : found list index ≡ f
  pub plain : f.operation ≡ Ecall → f.destination ≡ 0
  pub long : f.operation ≡ Ecall → f.length ≡ 4

-- it stands for two in a row, the second one behind the first
pub record IsTwo (compressed : Bool) (image : List ℕ) (list : List Instruction) (index second : ℕ) (f : Instruction) : Type 0 where
  pub within : index < length list
  pub size : (found list index).length ≡ 2 * step_of compressed (found list index).length
  pub too : second < length list
  pub joined : IsJoined image (found list index) (found list second) f
  pub long : f.length ≡ (found list index).length + (found list second).length

-- it stands for so many in a row
pub record Stands (compressed : Bool) (image : List ℕ) (list : List Instruction) (index : ℕ) (f : Instruction) (steps : ℕ) : Type 0 where
  pub one : steps ≡ 1 → IsOne list index f
  pub two : steps ≡ 2 → IsTwo compressed image list index (index + step_of compressed (found list index).length) f
  pub some : 0 < steps
  pub most : steps ≤ 2

-- it is ready: an instruction may begin there. Unless it is `Bad`, it stands for those up to the next index
pub record IsReady (compressed : Bool) (image : List ℕ) (list : List Instruction) (r : Head) (next immediate steps : ℕ) : Type 0 where
  pub small : IsSmall r
  pub aligned : address_at r.index % (if compressed then 2 else 4) ≡ 0
  pub behind : (r.operation ≡ Bad → ⊥) → r.index ≤ next
  pub few : (r.operation ≡ Bad → ⊥) → next < 2 ^ 32
  pub stands : (r.operation ≡ Bad → ⊥) → Stands compressed image list r.index (instruction_of r next immediate) steps

-- it was made from those at an index
pub record IsMade (compressed : Bool) (image : List ℕ) (list : List Instruction) (index : ℕ) (e : Entry) : Type 0 where
  pub here : e.head.index ≡ index
  pub small : IsSmall e.head
  pub even : address_at index % (if compressed then 2 else 4) ≡ 0 → address_at (index + e.span) % (if compressed then 2 else 4) ≡ 0
  pub within : index + e.span ≤ length list + 1
  pub room : index + e.steps ≤ length list
  pub some : 0 < e.steps
  pub fits : e.steps ≤ e.span
  pub stands : (e.head.operation ≡ Bad → ⊥) → Stands compressed image list index (instruction_of e.head (index + e.span) e.immediate) e.steps

-- how many steps an instruction makes that is ready
abbrev pub steps_at : List ℕ → ℕ → ℕ
steps_at rests k = slice_index rests k - slice_index rests (k + 1)

abbrev pub IsReadyAt : Bool → List ℕ → List Instruction → List Head → List ℕ → ℕ → ℕ → Type 0
IsReadyAt compressed image list heads rests immediate k = IsReady compressed image list (head_at heads k) (head_at heads (k + 1)).index immediate (steps_at rests k)

-- what ends them is `Bad`
abbrev pub AreEnded : List Head → Type 0
AreEnded heads = (k : ℕ) → length heads ≡ k + 1 → (head_at heads k).operation ≡ Bad

-- what it leads to, if that is one of these, is at the address to which it would jump or branch
abbrev pub IsAimed : List Head → ℕ → ℕ → ℕ → Type 0
IsAimed heads immediate target k = target < length heads → address_at (head_at heads target).index ≡ sum (address_at (head_at heads k).index) immediate

pub record AreReady (compressed : Bool) (image : List ℕ) (list : List Instruction) (heads : List Head) (immediates targets rests : List ℕ) : Type 0 where
  pub with_immediates : length immediates ≡ length heads
  pub with_targets : length targets ≡ length heads
  pub with_rests : length rests ≡ length heads
  pub ends : AreEnded heads
  pub each : (k : ℕ) → k < length heads → IsReadyAt compressed image list heads rests (slice_index immediates k) k
  pub aimed : (k : ℕ) → k < length heads → IsAimed heads (slice_index immediates k) (slice_index targets k) k
