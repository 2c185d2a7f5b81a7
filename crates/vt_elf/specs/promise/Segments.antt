-- The segments of an executable, where they may lie, and the memory that they describe.
use Rattle.std.specs.Prelude.{ℕ, ◌+◌, ◌-◌, ◌/◌, ◌%◌, ◌&&◌, ◌||◌, zero, suc, Bool, not, max, nat_eq, nat_lt, nat_le, List, [], ◌∷◌, ◌++◌, Option, Some, None, slice_index, if◌then◌else◌}
use Rattle.std.specs.Option.{option_or}
use Rattle.vt_elf.specs.promise.Fields.{program_header, p_type, p_flags, p_offset, p_vaddr, p_filesz, p_memsz}
use Rattle.vt_elf.specs.declared.refusal.Refusal.{Refusal}
use Rattle.vt_elf.specs.declared.refusal.Refusal.TheVariants.{WritableCode, OutsideFile, Overlap, OutsideRegion, CodeTooLarge, ImageTooLarge, StateTooLarge}
use Rattle.vt_elf.specs.declared.segment.Segment.{Segment}
use Rattle.vt_elf.specs.declared.segment.Region.{Region}
use Rattle.vt_elf.specs.declared.segment.Region.TheVariants.{Code, Constants, State}
use Rattle.vt_elf.specs.declared.segment.TheConstants.{IMAGE, STATE, MAX_CODE, MAX_IMAGE, MAX_STATE}

-- PT_LOAD, of at least one byte in memory
abbrev pub is_loaded : List ℕ → ℕ → Bool
is_loaded file at = nat_eq (p_type file at) 1 && not (nat_eq (p_memsz file at) 0)

abbrev pub segment_at : List ℕ → ℕ → Segment
segment_at file at = record { flags = p_flags file at; offset = p_offset file at; address = p_vaddr file at; file_size = p_filesz file at; memory_size = p_memsz file at }

-- the loadable segments of the first n program headers, in the table's order
abbrev pub loaded : List ℕ → ℕ → List Segment
loaded file zero = []
loaded file (suc n) =
    let at = program_header file n in
    if is_loaded file at then loaded file n ++ segment_at file at ∷ [] else loaded file n

-- PF_X and PF_W
abbrev pub is_executable : Segment → Bool
is_executable s = nat_eq (s.flags % 2) 1

abbrev pub is_writable : Segment → Bool
is_writable s = nat_eq (s.flags / 2 % 2) 1

-- the region that a segment has to lie in, where it begins, its most bytes, and the refusal of more
abbrev pub region_of : Segment → Region
region_of s = if is_writable s then State else (if is_executable s then Code else Constants)

abbrev pub base_of : Region → ℕ
base_of Code = IMAGE
base_of Constants = IMAGE
base_of State = STATE

abbrev pub limit_of : Region → ℕ
limit_of Code = MAX_CODE
limit_of Constants = MAX_IMAGE
limit_of State = MAX_STATE

abbrev pub excess_of : Region → Refusal
excess_of Code = CodeTooLarge
excess_of Constants = ImageTooLarge
excess_of State = StateTooLarge

-- where a segment ends in memory
abbrev pub end_of : Segment → ℕ
end_of s = s.address + s.memory_size

-- the next rule's refusal where a rule is kept, else this one's
abbrev pub unless : Bool → Refusal → Option Refusal → Option Refusal
unless kept refusal next = if kept then next else Some refusal

-- what is wrong with where a segment lies, behind segments that are all code or not
abbrev pub region_fault : Bool → Segment → Option Refusal
region_fault code s =
    let region = region_of s in
    unless (nat_le (base_of region) s.address && nat_lt s.address (base_of region + limit_of region) && (code || not (is_executable s))) (OutsideRegion s.address)
    (unless (nat_le (end_of s) (base_of region + limit_of region)) (excess_of region)
    None)

-- what is wrong with a segment of a file of so many bytes, behind segments that end at `before`, and are all code or not
abbrev pub segment_fault : ℕ → ℕ → Bool → Segment → Option Refusal
segment_fault size before code s =
    unless (not (is_writable s && is_executable s)) (WritableCode s.address)
    (unless (nat_le s.file_size s.memory_size && nat_le (s.offset + s.file_size) size) (OutsideFile s.address)
    (unless (nat_le before s.address) (Overlap s.address)
    (region_fault code s)))

-- what is wrong with the first of these segments with which something is
abbrev pub segments_fault : ℕ → ℕ → Bool → List Segment → Option Refusal
segments_fault size before code [] = None
segments_fault size before code (s ∷ ss) = option_or (segment_fault size before code s) (segments_fault size (end_of s) (code && is_executable s) ss)

-- where the segments of a region end: the greatest end, or `least` if that is more
abbrev pub is_in : Region → Segment → Bool
is_in Code s = is_executable s
is_in Constants s = not (is_executable s) && not (is_writable s)
is_in State s = is_writable s

abbrev pub reach : Region → ℕ → List Segment → ℕ
reach region least [] = least
reach region least (s ∷ ss) = reach region (if is_in region s then max least (end_of s) else least) ss

abbrev pub code_end : List Segment → ℕ
code_end ss = reach Code IMAGE ss

abbrev pub image_end : List Segment → ℕ
image_end ss = reach Constants (code_end ss) ss

abbrev pub state_end : List Segment → ℕ
state_end ss = reach State STATE ss

-- the byte at an address: the file's byte of the first segment that has one there, else zero
abbrev pub has_byte : Segment → ℕ → Bool
has_byte s address = nat_le s.address address && nat_lt address (s.address + s.file_size)

abbrev pub file_byte : List ℕ → Segment → ℕ → ℕ
file_byte file s address = slice_index file (s.offset + (address - s.address))

abbrev pub memory_byte : List ℕ → List Segment → ℕ → ℕ
memory_byte file [] address = 0
memory_byte file (s ∷ ss) address = if has_byte s address then file_byte file s address else memory_byte file ss address
