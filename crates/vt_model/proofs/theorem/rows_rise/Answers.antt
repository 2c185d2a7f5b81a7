use Rattle.std.proofs.Common.{[]}
use Rattle.vt_key.proofs.ListLemmas.{rising-filter}
use Rattle.vt_key.specs.promise.Times.{time_before}
use Rattle.vt_model.specs.declared.rows.Row.{Row}
use Rattle.vt_model.specs.promise.Simulation.{simulation_of}
use Rattle.vt_model.specs.promise.Sequential.{whole_run, rows_after}
use Rattle.vt_model.specs.promise.Rows.{RowBefore}
use Rattle.vt_model.proofs.RunLemmas.{reached}
use Rattle.vt_model.proofs.EndLemmas.{whole_run-rising, run_rows-rise, whole_rows-rise}
use Rattle.vt_model.proofs.LawLemmas.{lawful_of}
use Rattle.vt_model.proofs.theorem.rows_rise.Goals as goal

pub returns : goal.returns
returns g c =
    let sim = simulation_of (g.M.Model.handlers c.args.model.now) c.args.config in
    let lawful = lawful_of (g.M.Model.handlers c.args.model.now) c.args.config (g.met.M.Model.start_within c.args.model.now) (g.met.M.Model.forward_within c.args.model.now) in
    record {
      keys = λ n. (reached sim lawful n).rising;
      whole_keys = whole_run-rising sim lawful;
      after_each_step = run_rows-rise sim lawful;
      whole = whole_rows-rise sim lawful;
      before = λ t. rising-filter RowBefore (λ (r : Row). time_before r.key.time t) (rows_after sim [] (whole_run sim)) (whole_rows-rise sim lawful);
    }
