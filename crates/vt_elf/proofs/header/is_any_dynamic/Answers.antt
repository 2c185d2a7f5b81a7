use Rattle.std.proofs.Common.{sym, ap, ◌∙◌, rules}
use Rattle.std.specs.Option.{is_some}
use Rattle.vt_elf.specs.promise.Executables.{is_dynamic}
use Rattle.vt_elf.specs.promise.Fields.{e_phnum}
use Rattle.vt_elf.proofs.Searching.{found_first}
use Rattle.vt_elf.proofs.header.is_any_dynamic.Goals as goal

pub returns-then-is_dynamic : goal.returns-then-is_dynamic
returns-then-is_dynamic c = sym (ap is_some (found_first (is_dynamic c.args.bytes.now) c.loop-index.index (e_phnum c.args.bytes.now) c.loop-index.invariant (sym c.is_dynamic.ensures ∙ c.if-is_dynamic.true) (search rules)))
