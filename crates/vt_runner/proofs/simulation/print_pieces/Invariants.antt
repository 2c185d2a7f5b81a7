use Rattle.std.proofs.Common.{◌≡◌}
use Rattle.vt_station.specs.declared.pieces.Standing.TheVariants.{GoesOn}
use Rattle.vt_runner.specs.inside.Pieces.{AreWritten}
use Rattle.vt_runner.proofs.simulation.print_pieces.Given as goal

abbrev pub invariant-loop : goal.invariant-loop
invariant-loop g l = record {
  model : l.crew.model ≡ l.fn.crew.model;
  config : l.crew.config ≡ l.fn.crew.config;
  wanted : l.crew.wanted ≡ l.fn.crew.wanted;
  standing : l.crew.standing ≡ GoesOn;
  written : (start : _) → AreWritten l.options.records (g.M.Model.handlers l.fn.crew.model) l.options.config start (g.O.Write.contents l.fn.out) 0
      → AreWritten l.options.records (g.M.Model.handlers l.fn.crew.model) l.options.config start (g.O.Write.contents l.out) l.written;
}
