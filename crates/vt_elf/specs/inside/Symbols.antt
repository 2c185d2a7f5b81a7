-- The symbol table of a file, and the symbols of a name.
use Rattle.std.specs.Prelude.{ℕ, ◌≡◌, ◌<◌, true, List, Some, None}
use Rattle.vt_elf.specs.promise.Fields.{e_shnum}
use Rattle.vt_elf.specs.promise.Symbols.{symbol_section, is_sound_table, has_section_headers, symbols_fault}

-- a sound symbol table is found in section i
pub record IsTable (file : List ℕ) (i : ℕ) : Type 0 where
  pub fault : symbols_fault file ≡ None
  pub headers : has_section_headers file ≡ true
  pub first : symbol_section file ≡ Some i
  pub below : i < e_shnum file
  pub sound : is_sound_table file i ≡ true
