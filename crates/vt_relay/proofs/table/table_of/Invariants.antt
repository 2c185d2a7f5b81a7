use Rattle.std.proofs.Common.{length, map, take}
use Rattle.vt_relay.specs.inside.Table.{IsTable}
use Rattle.vt_relay.proofs.table.table_of.Given as goal

-- the lines so far name these processes
abbrev pub invariant-loop-index : goal.invariant-loop-index
invariant-loop-index l = IsTable (length l.lines) (map (λ line. line.now) (take l.index l.lines)) l.table.items
