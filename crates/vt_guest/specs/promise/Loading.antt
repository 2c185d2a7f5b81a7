-- The program that an executable, sets and data give, and why there is none.
use Rattle.std.specs.Prelude.{◌≡◌, ℕ, ◌+◌, ◌-◌, ◌%◌, ◌^◌, Bool, true, false, ◌&&◌, ◌||◌, nat_eq, nat_lt, nat_le, if◌then◌else◌, List, [], ◌∷◌, ◌<◌, ◌≤◌, ◌⊎◌, length, take, slice_index, Option, Some, None, option_map, codes}
use Rattle.std.specs.Option.{option_or, IsSome}
use Rattle.std.specs.String.{string_bytes}
use Rattle.std.specs.Int.{w32, w64, from_le_bytes, to_le_bytes}
use lib.Seq.{paste}
use Rattle.vt_elf.specs.promise.Symbols.{function_named, object_named}
use Rattle.vt_elf.specs.promise.Segments.{code_end, image_end, state_end, memory_byte}
use Rattle.vt_elf.specs.promise.Executables.{fault_of, segments, is_compressed, IsSymbolsOf}
use Rattle.vt_elf.specs.declared.refusal.Refusal.{Refusal as ElfRefusal}
use Rattle.vt_elf.specs.declared.segment.TheConstants.{IMAGE as ELF_IMAGE, STATE as ELF_STATE}
use Rattle.vt_elf.specs.declared.executable.Executable.{Executable}
use Rattle.vt_elf.specs.declared.symbols.Object.{Object}
use Rattle.vt_elf.specs.declared.symbols.Symbols.{Symbols}
use Rattle.vt_riscv.specs.declared.layout.TheConstants.{IMAGE, STATE}
use Rattle.vt_riscv.specs.promise.Codes.{instructions_of}
use Rattle.vt_guest.specs.declared.loading.Set.{Set}
use Rattle.vt_guest.specs.declared.loading.Loaded.{Loaded}
use Rattle.vt_guest.specs.declared.loading.TheConstants.{MAX_DATA}
use Rattle.vt_guest.specs.declared.loading.ObjectFault.{ObjectFault}
use Rattle.vt_guest.specs.declared.loading.ObjectFault.TheVariants.{Unknown, OtherSize, Outside, TooLarge}
use Rattle.vt_guest.specs.declared.loading.Refusal.{Refusal}
use Rattle.vt_guest.specs.declared.loading.Refusal.TheVariants as refusals

-- an object lies within so many bytes from a base on
abbrev pub is_inside : ℕ → ℕ → Object → Bool
is_inside base size o = nat_le base o.address && nat_le (o.address + o.size) (base + size)

-- an object is a number of 4 or 8 bytes
abbrev pub is_number : Object → Bool
is_number o = nat_eq o.size 4 || nat_eq o.size 8

-- memory from a base on with an object that has this number, the low byte first: `paste` puts so many bytes over those that lie there
abbrev pub with_number : ℕ → Object → ℕ → List ℕ → List ℕ
with_number base o v bytes =
    if is_inside base (length bytes) o
    then (if nat_eq o.size 4 then paste bytes (o.address - base) (to_le_bytes w32 (v % 2 ^ 32)) 4 else paste bytes (o.address - base) (to_le_bytes w64 v) 8)
    else bytes

abbrev pub with_found : ℕ → ℕ → List ℕ → Option Object → List ℕ
with_found base v bytes None = bytes
with_found base v bytes (Some o) = with_number base o v bytes

-- memory from a base on with the numbers of these sets, one after the other
abbrev pub with_sets : ℕ → Symbols → List Set → List ℕ → List ℕ
with_sets base symbols [] bytes = bytes
with_sets base symbols (set ∷ sets) bytes = with_sets base symbols sets (with_found base set.value bytes (object_named symbols (string_bytes set.name)))

-- a fault, unless something holds; then the next
abbrev pub or_else : {A : Type 0} → Bool → A → Option A → Option A
or_else true fault next = next
or_else false fault next = Some fault

-- why an object can't be read, where image and state have so many bytes; and why it can't be set
abbrev pub object_fault : ℕ → ℕ → Object → Option ObjectFault
object_fault image state o = or_else (is_number o) OtherSize (or_else (is_inside IMAGE image o || is_inside STATE state o) Outside None)

abbrev pub found_fault : ℕ → ℕ → ℕ → Option Object → Option ObjectFault
found_fault image state v None = Some Unknown
found_fault image state v (Some o) = option_or (object_fault image state o) (or_else (nat_eq o.size 8 || nat_lt v (2 ^ 32)) TooLarge None)

abbrev pub set_fault : Symbols → ℕ → ℕ → Set → Option ObjectFault
set_fault symbols image state set = found_fault image state set.value (object_named symbols (string_bytes set.name))

-- the first set that is refused: its name, and why
abbrev pub sets_fault : Symbols → ℕ → ℕ → List Set → Option (List ℕ × ObjectFault)
sets_fault symbols image state [] = None
sets_fault symbols image state (set ∷ sets) = option_or (option_map (λ why. (string_bytes set.name, why)) (set_fault symbols image state set)) (sets_fault symbols image state sets)

-- a refusal that tells of a set: its name, and why
abbrev pub set_refused : Refusal → Option (List ℕ × ObjectFault)
set_refused (refusals.Set name why) = Some (string_bytes name, why)
set_refused other = None

-- the number that lies at an offset in these bytes, in 4 bytes and in 8
abbrev pub word_at : List ℕ → ℕ → ℕ
word_at bytes at = from_le_bytes w32 (slice_index bytes at ∷ slice_index bytes (at + 1) ∷ slice_index bytes (at + 2) ∷ slice_index bytes (at + 3) ∷ [])

abbrev pub double_at : List ℕ → ℕ → ℕ
double_at bytes at =
    from_le_bytes w64 (slice_index bytes at ∷ slice_index bytes (at + 1) ∷ slice_index bytes (at + 2) ∷ slice_index bytes (at + 3) ∷ slice_index bytes (at + 4) ∷ slice_index bytes (at + 5) ∷ slice_index bytes (at + 6) ∷ slice_index bytes (at + 7) ∷ [])

-- the number that an object has, in image or state
abbrev pub number_in : ℕ → Object → List ℕ → ℕ
number_in base o bytes = if nat_eq o.size 4 then word_at bytes (o.address - base) else double_at bytes (o.address - base)

abbrev pub number_of_object : List ℕ → List ℕ → Object → ℕ
number_of_object image state o = if is_inside IMAGE (length image) o then number_in IMAGE o image else number_in STATE o state

-- the number of processes, and why it can't be read
abbrev pub processes_object : Symbols → Option Object
processes_object symbols = object_named symbols (codes "processes")

abbrev pub processes_fault : ℕ → ℕ → Option Object → Option Refusal
processes_fault image state None = None
processes_fault image state (Some o) = option_map refusals.Processes (object_fault image state o)

-- why an executable is refused: an entry is missing, a set, the number of processes
abbrev pub entries_fault : Option ℕ → Option ℕ → Option ℕ → Option Refusal
entries_fault None forward finish = Some refusals.NoStart
entries_fault (Some _) None finish = Some refusals.NoForward
entries_fault (Some _) (Some _) None = Some refusals.NoFinish
entries_fault (Some _) (Some _) (Some _) = None

abbrev pub entries_wrong : Symbols → Option Refusal
entries_wrong symbols = entries_fault (function_named symbols (codes "start")) (function_named symbols (codes "forward")) (function_named symbols (codes "finish"))

abbrev pub sets_wrong : Executable → List Set → Option (List ℕ × ObjectFault)
sets_wrong e sets = sets_fault e.symbols (length e.image.items) (length e.first_state.items) sets

abbrev pub processes_wrong : Executable → Option Refusal
processes_wrong e = processes_fault (length e.image.items) (length e.first_state.items) (processes_object e.symbols)

-- the first of these that is wrong
abbrev pub IsExecutableRefused : Executable → List Set → Refusal → Type 0
IsExecutableRefused e sets refusal =
    (entries_wrong e.symbols ≡ Some refusal)
    ⊎ ((entries_wrong e.symbols ≡ None) × IsSome (sets_wrong e sets) × (set_refused refusal ≡ sets_wrong e sets))
    ⊎ ((entries_wrong e.symbols ≡ None) × (sets_wrong e sets ≡ None) × (processes_wrong e ≡ Some refusal))

-- a program of an executable: image and state with the sets, the instructions of the image then, and all else as it is
pub record IsAssembled (e : Executable) (sets : List Set) (given : List ℕ) (steps : ℕ) (loaded : Loaded) : Type 0 where
  pub entries_right : entries_wrong e.symbols ≡ None
  pub sets_right : sets_wrong e sets ≡ None
  pub processes_right : processes_wrong e ≡ None
  pub image : loaded.program.code.image.items ≡ with_sets IMAGE e.symbols sets e.image.items
  pub instructions : loaded.program.code.instructions.items ≡ instructions_of e.is_compressed (take e.code_size loaded.program.code.image.items)
  pub input : loaded.program.code.input.items ≡ given
  pub compressed : loaded.program.code.compressed ≡ e.is_compressed
  pub first : loaded.program.first.items ≡ with_sets STATE e.symbols sets e.first_state.items
  pub start : Some loaded.program.start ≡ function_named e.symbols (codes "start")
  pub forward : Some loaded.program.forward ≡ function_named e.symbols (codes "forward")
  pub finish : Some loaded.program.finish ≡ function_named e.symbols (codes "finish")
  pub fuel : loaded.program.fuel ≡ steps
  pub processes : loaded.processes ≡ option_map (number_of_object loaded.program.code.image.items loaded.program.first.items) (processes_object e.symbols)

-- what a file's bytes say: the executable that they are
pub record IsExecutableOf (bytes : List ℕ) (e : Executable) : Type 0 where
  pub sound : fault_of bytes ≡ None
  pub compressed : e.is_compressed ≡ is_compressed bytes
  pub code : e.code_size ≡ code_end (segments bytes) - ELF_IMAGE
  pub image_size : length e.image.items ≡ image_end (segments bytes) - ELF_IMAGE
  pub image : (k : ℕ) → k < length e.image.items → slice_index e.image.items k ≡ memory_byte bytes (segments bytes) (ELF_IMAGE + k)
  pub state_size : length e.first_state.items ≡ state_end (segments bytes) - ELF_STATE
  pub state : (k : ℕ) → k < length e.first_state.items → slice_index e.first_state.items k ≡ memory_byte bytes (segments bytes) (ELF_STATE + k)
  pub symbols : IsSymbolsOf bytes e.symbols

-- a program of a file's bytes
abbrev pub IsLoaded : List ℕ → List Set → List ℕ → ℕ → Loaded → Type 0
IsLoaded bytes sets input fuel loaded = (length input ≤ MAX_DATA) × ((e : Executable) × IsExecutableOf bytes e × IsAssembled e sets input fuel loaded)

-- why there is none: the file, then the data, then what the executable lacks or can't take
abbrev pub IsRefused : List ℕ → List Set → List ℕ → Refusal → Type 0
IsRefused bytes sets input refusal =
    ((why : ElfRefusal) × (fault_of bytes ≡ Some why) × (refusal ≡ refusals.Executable why))
    ⊎ ((fault_of bytes ≡ None) × (MAX_DATA < length input) × (refusal ≡ refusals.LargeData))
    ⊎ ((length input ≤ MAX_DATA) × ((e : Executable) × IsExecutableOf bytes e × IsExecutableRefused e sets refusal))
