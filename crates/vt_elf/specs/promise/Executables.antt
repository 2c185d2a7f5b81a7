-- What makes a file a static executable for 64-bit RISC-V, and what is wrong with one that isn't.
use Rattle.std.specs.Prelude.{ℕ, ◌+◌, ◌*◌, ◌%◌, ◌≡◌, ◌&&◌, ◌||◌, Bool, true, not, length, nat_eq, nat_lt, nat_le, List, Option, None, slice_index}
use Rattle.std.specs.Option.{option_or, is_some, IfSome}
use Rattle.vt_elf.specs.promise.Fields.{e_type, e_machine, e_version, e_phoff, e_flags, e_phentsize, e_phnum, program_header, p_type}
use Rattle.vt_elf.specs.promise.Segments.{loaded, segments_fault, unless}
use Rattle.vt_elf.specs.promise.Symbols.{first_below, symbols_fault, symbol_section, section_bytes, names_section}
use Rattle.vt_elf.specs.declared.symbols.Symbols.{Symbols}
use Rattle.vt_elf.specs.declared.refusal.Refusal.{Refusal}
use Rattle.vt_elf.specs.declared.refusal.Refusal.TheVariants.{NotElf, OtherMachine, NotStatic, DamagedHeaders}
use Rattle.vt_elf.specs.declared.segment.Segment.{Segment}

-- EI_MAG0 to EI_MAG3
abbrev pub is_elf : List ℕ → Bool
is_elf file = nat_le 64 (length file) && nat_eq (slice_index file 0) 0x7f && nat_eq (slice_index file 1) 0x45 && nat_eq (slice_index file 2) 0x4c && nat_eq (slice_index file 3) 0x46

-- ELFCLASS64, ELFDATA2LSB, EV_CURRENT twice, EM_RISCV
abbrev pub is_for_riscv : List ℕ → Bool
is_for_riscv file = nat_eq (slice_index file 4) 2 && nat_eq (slice_index file 5) 1 && nat_eq (slice_index file 6) 1 && nat_eq (e_version file) 1 && nat_eq (e_machine file) 243

-- the program headers are whole in the file. PN_XNUM, for more of them than the field can say, isn't taken
abbrev pub has_program_headers : List ℕ → Bool
has_program_headers file = nat_eq (e_phentsize file) 56 && nat_lt (e_phnum file) 0xffff && nat_le (e_phoff file + 56 * e_phnum file) (length file)

-- PT_DYNAMIC or PT_INTERP
abbrev pub is_dynamic : List ℕ → ℕ → Bool
is_dynamic file i = nat_eq (p_type file (program_header file i)) 2 || nat_eq (p_type file (program_header file i)) 3

-- what is wrong with the headers; ET_EXEC
abbrev pub header_fault : List ℕ → Option Refusal
header_fault file =
    unless (is_elf file) NotElf
    (unless (is_for_riscv file) OtherMachine
    (unless (nat_eq (e_type file) 2) NotStatic
    (unless (has_program_headers file) DamagedHeaders
    (unless (not (is_some (first_below (is_dynamic file) (e_phnum file)))) NotStatic
    None))))

-- the loadable segments of a file
abbrev pub segments : List ℕ → List Segment
segments file = loaded file (e_phnum file)

-- the first thing that is wrong with a file: None if it is such an executable
abbrev pub fault_of : List ℕ → Option Refusal
fault_of file = option_or (header_fault file) (option_or (segments_fault (length file) 0 true (segments file)) (symbols_fault file))

-- EF_RISCV_RVC
abbrev pub is_compressed : List ℕ → Bool
is_compressed file = nat_eq (e_flags file % 2) 1

-- the symbols are those of the file's symbol table, with the names that belong to it
abbrev pub IsSymbolsOf : List ℕ → Symbols → Type 0
IsSymbolsOf file symbols = IfSome (symbol_section file) (λ i. (symbols.table.items ≡ section_bytes file i) × (symbols.names.items ≡ section_bytes file (names_section file i)))
