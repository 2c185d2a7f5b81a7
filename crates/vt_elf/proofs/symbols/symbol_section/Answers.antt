use Rattle.std.proofs.Common.{sym, ◌∙◌, rules}
use Rattle.vt_elf.specs.promise.Symbols.{is_symbol_table}
use Rattle.vt_elf.specs.promise.Fields.{e_shnum}
use Rattle.vt_elf.proofs.Searching.{found_first}
use Rattle.vt_elf.proofs.symbols.symbol_section.Goals as goal

pub returns-then-is_symbol_table-clause-first : goal.returns-then-is_symbol_table-clause-first
returns-then-is_symbol_table-clause-first c = sym (found_first (is_symbol_table c.args.bytes.now) c.loop-index.index (e_shnum c.args.bytes.now) c.loop-index.invariant (sym c.is_symbol_table.ensures ∙ c.if-is_symbol_table.true) (search rules))
