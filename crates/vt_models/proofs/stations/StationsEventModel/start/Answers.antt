use Rattle.std.proofs.Common.{[], ◌∙◌, sym, ap}
use Rattle.vt_model.specs.promise.Handler.{StartResult}
use Rattle.vt_model.specs.inside.Sends.{Outgoing, with_requests}
use Rattle.vt_stream.specs.inside.Words.{word_of}
use Rattle.vt_models.specs.declared.stations.Server.{Server}
use Rattle.vt_models.specs.declared.stations.JobEvent.{JobEvent}
use Rattle.vt_model.proofs.RequestLemmas.{no_requests}
use Rattle.vt_models.proofs.StationsSteps.{begins_idle, begins_busy}
use Rattle.vt_models.proofs.stations.StationsEventModel.start.Goals as goal
use Rattle.vt_models.proofs.stations.StationsEventModel.start.Goals.{then-self-ne0, else-self-ne0}

-- an out after what a start gives
abbrev with_result : Outgoing JobEvent → StartResult Server JobEvent → Outgoing JobEvent
with_result o f = with_requests o f.send_requests []

pub returns-clause-out : goal.returns-clause-out
returns-clause-out c =
    let m = c.args.self.now in
    let out = c.args.out.now in
    let words = word_of c.args.draws.now.stream.now in
    elim c.if-self-ne0.branch [
      | then-self-ne0 w ↦ w.out-is ∙ w.serve.ensures.out ∙ ap (with_result out) (sym (begins_busy m out.lps c.args.lp words w.if-self-ne0.true))
      | else-self-ne0 w ↦ w.out-is ∙ no_requests out ∙ ap (with_result out) (sym (begins_idle m out.lps c.args.lp words w.if-self-ne0.false))
    ]
