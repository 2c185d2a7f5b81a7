use Rattle.std.proofs.Common.{◌≡◌, ℕ, [], ◌∷◌, ◌∙◌, sym, ap, arith}
use Rattle.vt_model.specs.promise.Handler.{ForwardResult}
use Rattle.vt_model.specs.inside.Sends.{Outgoing, with_requests}
use Rattle.vt_stream.specs.inside.Words.{word_of}
use Rattle.vt_models.specs.declared.stations.Server.{Server}
use Rattle.vt_models.specs.declared.stations.JobEvent.{JobEvent}
use Rattle.vt_models.specs.declared.stations.JobEvent.TheVariants.{Arrive}
use Rattle.vt_stream.specs.promise.Drawn.{scaled}
use Rattle.vt_models.specs.promise.Stations.{one_served, departure}
use Rattle.vt_stream.proofs.DrawLemmas.{word_after}
use Rattle.vt_model.proofs.RequestLemmas.{recorded_then_sent, no_requests, sent_after}
use Rattle.vt_models.proofs.StationsSteps.{served_at_once, departs_from_none, departs_last, departs_before_next}
use Rattle.vt_models.proofs.stations.StationsEventModel.forward.Goals as goal

-- an out after what an event gives
abbrev with_result : Outgoing JobEvent → ForwardResult Server JobEvent (Unit {0}) → Outgoing JobEvent
with_result o f = with_requests o f.send_requests f.record_requests

-- an out after a job has left
abbrev after_passage : Outgoing JobEvent → ℕ → ℕ → ℕ → Outgoing JobEvent
after_passage o dest delay served =
    with_requests o (record { dest = dest; delay = delay; priority = 0; payload = Arrive } ∷ []) (record { kind = 4; value = served } ∷ [])

pub returns-then-state-eq0-clause-out : goal.returns-then-state-eq0-clause-out
returns-then-state-eq0-clause-out c =
    let way = departs_from_none c.args.self.now c.args.out.now.lps c.args.lp (word_of c.args.draws.now.stream.now) c.args.state.now c.args.payload c.in-Depart.is c.if-state-eq0.true in
    no_requests c.args.out.now ∙ ap (with_result c.args.out.now) (sym way)

pub returns-then-state-eq1-clause-out : goal.returns-then-state-eq1-clause-out
returns-then-state-eq1-clause-out c =
    let way = served_at_once c.args.self.now c.args.out.now.lps c.args.lp (word_of c.args.draws.now.stream.now) c.args.state.now c.args.payload c.in-Arrive.is c.if-state-eq1.true in
    recorded_then_sent _ _ _ _ _ c.emit.ensures c.serve.ensures.out ∙ ap (with_result c.args.out.now) (sym way)

pub returns-then-state-ne0-clause-out : goal.returns-then-state-ne0-clause-out
returns-then-state-ne0-clause-out c =
    let m = c.args.self.now in
    let out = c.args.out.now in
    let stream = c.args.draws.now.stream.now in
    let way = departs_before_next m out.lps c.args.lp (word_of stream) c.args.state.now c.args.payload c.in-Depart.is c.if-state-eq0.false (omega arith) in
    let to : c.below-dest.result ≡ scaled (word_of stream 0) out.lps = c.below-dest.ensures.value ∙ ap (scaled (word_of stream 0)) (c.from.ensures ∙ c.lps.ensures ∙ ap (λ (o : Outgoing JobEvent). o.lps) c.emit-in-Depart.ensures) in
    let next = word_after stream c.below-dest.new.self.stream.now 1 c.below-dest.ensures.stream in
    let leaves : c.send.new.self ≡ after_passage out c.below-dest.result c.from-in-Depart.result (one_served c.args.state.now).served = recorded_then_sent _ _ _ _ _ c.emit-in-Depart.ensures c.send.ensures in
    sent_after out c.send.new.self c.serve-then-state-ne0.new.out _ _ _
    (leaves ∙ λ j. after_passage out (to j) (c.from-in-Depart.ensures j) (one_served c.args.state.now).served)
    (c.serve-then-state-ne0.ensures.out ∙ λ j. with_requests c.send.new.self (departure m c.args.lp (next j) ∷ []) [])
    ∙ ap (with_result out) (sym way)

pub returns-else-state-ne0-clause-out : goal.returns-else-state-ne0-clause-out
returns-else-state-ne0-clause-out c =
    let m = c.args.self.now in
    let out = c.args.out.now in
    let stream = c.args.draws.now.stream.now in
    let way = departs_last m out.lps c.args.lp (word_of stream) c.args.state.now c.args.payload c.in-Depart.is c.if-state-eq0.false (omega arith) in
    let to : c.below-dest.result ≡ scaled (word_of stream 0) out.lps = c.below-dest.ensures.value ∙ ap (scaled (word_of stream 0)) (c.from.ensures ∙ c.lps.ensures ∙ ap (λ (o : Outgoing JobEvent). o.lps) c.emit-in-Depart.ensures) in
    let leaves : c.send.new.self ≡ after_passage out c.below-dest.result c.from-in-Depart.result (one_served c.args.state.now).served = recorded_then_sent _ _ _ _ _ c.emit-in-Depart.ensures c.send.ensures in
    leaves
    ∙ (λ j. after_passage out (to j) (c.from-in-Depart.ensures j) (one_served c.args.state.now).served)
    ∙ ap (with_result out) (sym way)
