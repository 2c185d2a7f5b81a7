use Rattle.std.proofs.Common.{◌≡◌}
use Rattle.vt_model.specs.promise.Simulation.{simulation_of}
use Rattle.vt_model.specs.promise.Sequential.{weight}
use Rattle.vt_tasks.proofs.PrintLemmas.{IsPrinting}
use Rattle.vt_tasks.proofs.running.print_events.Given as goal

abbrev pub invariant-loop-records : goal.invariant-loop-records
invariant-loop-records g l = record {
  model : l.execution.model ≡ l.fn.execution.model;
  config : l.execution.config ≡ l.fn.options.config;
  printing : IsPrinting l.fn.options.records (g.M.Model.handlers l.fn.execution.model) l.fn.options.config (g.O.Write.contents l.fn.out) (g.O.Write.contents l.out) l.text l.execution l.records.items;
}

abbrev pub decreases-loop-records : goal.decreases-loop-records
decreases-loop-records g l = weight (simulation_of (g.M.Model.handlers l.fn.execution.model) l.fn.options.config) l.execution.pending
