-- The fields of an ELF file of 64 bits, little-endian, under the names and at the offsets that the ELF-64 object file format gives them. A file is the list of its bytes.
use Rattle.std.specs.Prelude.{ℕ, ◌+◌, ◌*◌, ◌^◌, List, slice_index}

-- numbers of two, four and eight bytes at an offset in the file, the low byte first (Elf64_Half, Elf64_Word, Elf64_Addr, Elf64_Off, Elf64_Xword)
unfoldable pub half_at : List ℕ → ℕ → ℕ
half_at file at = slice_index file at + 2 ^ 8 * slice_index file (at + 1)

unfoldable pub word_at : List ℕ → ℕ → ℕ
word_at file at = slice_index file at + 2 ^ 8 * slice_index file (at + 1) + 2 ^ 16 * slice_index file (at + 2) + 2 ^ 24 * slice_index file (at + 3)

unfoldable pub double_at : List ℕ → ℕ → ℕ
double_at file at = word_at file at + 2 ^ 32 * word_at file (at + 4)

-- the file header, Elf64_Ehdr: 64 bytes at the beginning of the file
abbrev pub e_type : List ℕ → ℕ
e_type file = half_at file 16

abbrev pub e_machine : List ℕ → ℕ
e_machine file = half_at file 18

abbrev pub e_version : List ℕ → ℕ
e_version file = word_at file 20

abbrev pub e_phoff : List ℕ → ℕ
e_phoff file = double_at file 32

abbrev pub e_shoff : List ℕ → ℕ
e_shoff file = double_at file 40

abbrev pub e_flags : List ℕ → ℕ
e_flags file = word_at file 48

abbrev pub e_phentsize : List ℕ → ℕ
e_phentsize file = half_at file 54

abbrev pub e_phnum : List ℕ → ℕ
e_phnum file = half_at file 56

abbrev pub e_shentsize : List ℕ → ℕ
e_shentsize file = half_at file 58

abbrev pub e_shnum : List ℕ → ℕ
e_shnum file = half_at file 60

-- a program header, Elf64_Phdr: 56 bytes each from e_phoff on; here by the offset where it begins
abbrev pub program_header : List ℕ → ℕ → ℕ
program_header file i = e_phoff file + 56 * i

abbrev pub p_type : List ℕ → ℕ → ℕ
p_type file at = word_at file at

abbrev pub p_flags : List ℕ → ℕ → ℕ
p_flags file at = word_at file (at + 4)

abbrev pub p_offset : List ℕ → ℕ → ℕ
p_offset file at = double_at file (at + 8)

abbrev pub p_vaddr : List ℕ → ℕ → ℕ
p_vaddr file at = double_at file (at + 16)

abbrev pub p_filesz : List ℕ → ℕ → ℕ
p_filesz file at = double_at file (at + 32)

abbrev pub p_memsz : List ℕ → ℕ → ℕ
p_memsz file at = double_at file (at + 40)

-- a section header, Elf64_Shdr: 64 bytes each from e_shoff on; here by the offset where it begins
abbrev pub section_header : List ℕ → ℕ → ℕ
section_header file i = e_shoff file + 64 * i

abbrev pub sh_type : List ℕ → ℕ → ℕ
sh_type file at = word_at file (at + 4)

abbrev pub sh_offset : List ℕ → ℕ → ℕ
sh_offset file at = double_at file (at + 24)

abbrev pub sh_size : List ℕ → ℕ → ℕ
sh_size file at = double_at file (at + 32)

abbrev pub sh_link : List ℕ → ℕ → ℕ
sh_link file at = word_at file (at + 40)

abbrev pub sh_entsize : List ℕ → ℕ → ℕ
sh_entsize file at = double_at file (at + 56)

-- a symbol, Elf64_Sym: 24 bytes each in a symbol table; here by the table and the offset in it where the symbol begins
abbrev pub st_name : List ℕ → ℕ → ℕ
st_name table at = word_at table at

abbrev pub st_info : List ℕ → ℕ → ℕ
st_info table at = slice_index table (at + 4)

abbrev pub st_shndx : List ℕ → ℕ → ℕ
st_shndx table at = half_at table (at + 6)

abbrev pub st_value : List ℕ → ℕ → ℕ
st_value table at = double_at table (at + 8)

abbrev pub st_size : List ℕ → ℕ → ℕ
st_size table at = double_at table (at + 16)
