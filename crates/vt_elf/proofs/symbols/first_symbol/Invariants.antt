use Rattle.std.proofs.Common.{◌≡◌, None}
use Rattle.vt_elf.specs.promise.Symbols.{first_below, is_symbol}
use Rattle.vt_elf.proofs.symbols.first_symbol.Given as goal

-- none of the symbols so far
abbrev pub invariant-loop-index : goal.invariant-loop-index
invariant-loop-index l = first_below (is_symbol l.table l.names l.kind l.name) l.index ≡ None
