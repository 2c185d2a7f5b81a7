use Rattle.std.proofs.Common.{◌≡◌, ◌%◌, ◌^◌, take}
use Rattle.std.specs.List.{flat_map, sum_by}
use Rattle.vt_logs.specs.inside.Shelves.{placed_nodes, placed_of}
use Rattle.vt_logs.proofs.shelf.count_nodes.Given as goal

abbrev pub invariant-loop-number : goal.invariant-loop-number
invariant-loop-number g l = l.nodes ≡ sum_by placed_nodes (flat_map (placed_of l.sheets) (take l.number-index l.numbers)) % 2 ^ 64
