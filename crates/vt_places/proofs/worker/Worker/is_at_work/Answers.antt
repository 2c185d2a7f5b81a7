use Rattle.std.proofs.Common.{subst}
use Rattle.vt_places.specs.inside.AtWork.{AtWork}
use Rattle.vt_places.specs.inside.Calls.{Reaches}
use Rattle.vt_places.proofs.worker.Worker.is_at_work.Goals as goal

pub returns : goal.returns
returns g c = subst (λ (o : AtWork g.row.M.Denot g.row.M-State.Denot g.row.M-Payload.Denot g.row.M-Kept.Denot). Reaches (g.M.Model.handlers o.model) o.config o.view o.kernel) c.self.view_is c.self.invariant.reaches
