use Rattle.std.proofs.Common.{sym, ◌∙◌, ◌/◌, length, rules}
use Rattle.vt_elf.specs.promise.Symbols.{is_symbol}
use Rattle.vt_elf.proofs.Searching.{found_first}
use Rattle.vt_elf.proofs.symbols.first_symbol.Goals as goal

pub returns-then-is_symbol-clause-first : goal.returns-then-is_symbol-clause-first
returns-then-is_symbol-clause-first c = sym (found_first (is_symbol c.args.table.now c.args.names.now c.args.kind c.args.name.now) c.loop-index.index (length c.args.table.now / 24) c.loop-index.invariant (sym c.is_symbol.ensures ∙ c.if-is_symbol.true) (search rules))
