use Rattle.std.proofs.Common.{◌≡◌, None}
use Rattle.vt_elf.specs.promise.Symbols.{first_below, is_symbol_table}
use Rattle.vt_elf.proofs.symbols.symbol_section.Given as goal

-- none of the sections so far
abbrev pub invariant-loop-index : goal.invariant-loop-index
invariant-loop-index l = first_below (is_symbol_table l.bytes) l.index ≡ None
