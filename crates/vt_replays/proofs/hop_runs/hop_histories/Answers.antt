use Rattle.vt_model.specs.promise.Simulation.{simulation_of}
use Rattle.vt_models.specs.promise.Hop.{hop_handlers}
use Rattle.vt_steps.proofs.history.HistoriesTheorem.{histories}
use Rattle.vt_replays.proofs.hop_runs.hop_histories.Goals as goal

pub returns : goal.returns
returns c serial steps = histories (simulation_of (hop_handlers c.args.model.now) c.args.config) c.models_are_lawful.ensures serial steps
