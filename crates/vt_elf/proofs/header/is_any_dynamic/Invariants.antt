use Rattle.std.proofs.Common.{◌≡◌, None}
use Rattle.vt_elf.specs.promise.Symbols.{first_below}
use Rattle.vt_elf.specs.promise.Executables.{is_dynamic}
use Rattle.vt_elf.proofs.header.is_any_dynamic.Given as goal

-- none of the headers so far
abbrev pub invariant-loop-index : goal.invariant-loop-index
invariant-loop-index l = first_below (is_dynamic l.bytes) l.index ≡ None
