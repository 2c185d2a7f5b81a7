-- The symbol table of a file, and the symbols of a name.
use Rattle.std.specs.Prelude.{ℕ, ◌+◌, ◌*◌, ◌/◌, ◌%◌, ◌&&◌, ◌||◌, zero, suc, Bool, not, length, drop, nat_eq, nat_lt, nat_le, List, Option, Some, None, option_map, slice_index, if◌then◌else◌}
use Rattle.std.specs.Option.{option_or}
use Rattle.std.specs.List.{starts_with, slice_range}
use Rattle.vt_elf.specs.promise.Fields.{e_shnum, e_shoff, e_shentsize, section_header, sh_type, sh_offset, sh_size, sh_link, sh_entsize, st_name, st_info, st_shndx, st_value, st_size}
use Rattle.vt_elf.specs.promise.Segments.{unless}
use Rattle.vt_elf.specs.declared.refusal.Refusal.{Refusal}
use Rattle.vt_elf.specs.declared.refusal.Refusal.TheVariants.{NoSymbols, DamagedSymbols}
use Rattle.vt_elf.specs.declared.symbols.Object.{Object}
use Rattle.vt_elf.specs.declared.symbols.Symbols.{Symbols}
use Rattle.vt_elf.specs.declared.symbols.SymbolKind.{SymbolKind}
use Rattle.vt_elf.specs.declared.symbols.SymbolKind.TheVariants.{Function, DataObject}

-- the least number below n that passes the test
abbrev pub first_below : (ℕ → Bool) → ℕ → Option ℕ
first_below test zero = None
first_below test (suc n) = option_or (first_below test n) (if test n then Some n else None)

-- the first section of type SHT_SYMTAB
abbrev pub is_symbol_table : List ℕ → ℕ → Bool
is_symbol_table file i = nat_eq (sh_type file (section_header file i)) 2

abbrev pub symbol_section : List ℕ → Option ℕ
symbol_section file = first_below (is_symbol_table file) (e_shnum file)

-- a section's bytes, and whether they are whole in the file
abbrev pub section_bytes : List ℕ → ℕ → List ℕ
section_bytes file i =
    let at = section_header file i in
    slice_range file (sh_offset file at) (sh_offset file at + sh_size file at)

abbrev pub is_in_file : List ℕ → ℕ → Bool
is_in_file file i =
    let at = section_header file i in
    nat_le (sh_offset file at + sh_size file at) (length file)

-- the section of the names of a symbol table, SHT_STRTAB
abbrev pub names_section : List ℕ → ℕ → ℕ
names_section file i = sh_link file (section_header file i)

-- a symbol table of entries of 24 bytes, with its names
abbrev pub is_sound_table : List ℕ → ℕ → Bool
is_sound_table file i =
    let names = names_section file i in
    nat_eq (sh_entsize file (section_header file i)) 24 && is_in_file file i && nat_lt names (e_shnum file) && nat_eq (sh_type file (section_header file names)) 3 && is_in_file file names

abbrev pub table_fault : List ℕ → Option ℕ → Option Refusal
table_fault file None = Some NoSymbols
table_fault file (Some i) = unless (is_sound_table file i) DamagedSymbols None

-- the section headers are whole in the file
abbrev pub has_section_headers : List ℕ → Bool
has_section_headers file = nat_eq (e_shentsize file) 64 && nat_le (e_shoff file + 64 * e_shnum file) (length file)

-- what is wrong with the symbol table of a file
abbrev pub symbols_fault : List ℕ → Option Refusal
symbols_fault file =
    unless (not (nat_eq (e_shnum file) 0)) NoSymbols
    (unless (has_section_headers file) DamagedSymbols
    (table_fault file (symbol_section file)))

-- STT_NOTYPE and STT_FUNC are functions, STT_OBJECT is an object
abbrev pub is_of_kind : SymbolKind → ℕ → Bool
is_of_kind Function type = nat_eq type 0 || nat_eq type 2
is_of_kind DataObject type = nat_eq type 1

-- a name, and a zero byte, stand at this offset in the names
abbrev pub is_name_at : List ℕ → ℕ → List ℕ → Bool
is_name_at names start name = nat_lt (start + length name) (length names) && starts_with nat_eq (drop start names) name && nat_eq (slice_index names (start + length name)) 0

-- the i-th symbol is defined (not of SHN_UNDEF), of this kind and of this name
abbrev pub is_symbol : List ℕ → List ℕ → SymbolKind → List ℕ → ℕ → Bool
is_symbol table names kind name i =
    let at = 24 * i in
    not (nat_eq (st_shndx table at) 0) && is_of_kind kind (st_info table at % 16) && is_name_at names (st_name table at) name

-- the first such symbol of the table
abbrev pub first_symbol : List ℕ → List ℕ → SymbolKind → List ℕ → Option ℕ
first_symbol table names kind name = first_below (is_symbol table names kind name) (length table / 24)

-- where an object lies, and its size
abbrev pub object_at : List ℕ → ℕ → Object
object_at table at = record { address = st_value table at; size = st_size table at }

-- the address of the function of a name, and the object of a name
abbrev pub function_named : Symbols → List ℕ → Option ℕ
function_named symbols name = option_map (λ i. st_value symbols.table.items (24 * i)) (first_symbol symbols.table.items symbols.names.items Function name)

abbrev pub object_named : Symbols → List ℕ → Option Object
object_named symbols name = option_map (λ i. object_at symbols.table.items (24 * i)) (first_symbol symbols.table.items symbols.names.items DataObject name)
