use Rattle.std.proofs.Common.{◌≡◌, ◌+◌, [], ◌∷◌, ◌∙◌, ap, None}
use Rattle.vt_model.specs.inside.Sends.{with_requests}
use Rattle.vt_stream.specs.inside.Words.{word_of}
use Rattle.vt_traffic.specs.declared.junction.Road.TheVariants.{Eastward}
use Rattle.vt_stream.specs.promise.Drawn.{scaled}
use Rattle.vt_traffic.specs.inside.Junction.{entry}
use Rattle.vt_traffic.specs.inside.Traffic.{change_after}
use Rattle.vt_model.proofs.RequestLemmas.{sent_then}
use Rattle.vt_traffic.proofs.grid.TrafficEventModel.start.Goals as goal

pub returns-clause-out : goal.returns-clause-out
returns-clause-out c =
    let lp = c.args.lp in
    let word = word_of c.args.draws.now.stream.now 0 in
    let delay : c.below-first.result ≡ scaled word c.args.self.now.green = c.below-first.ensures.value ∙ ap (scaled word) c.from-3.ensures in
    sent_then _ c.send.new.self c.enter.new.out _ _
    (c.send.ensures ∙ λ i. with_requests c.args.out.now (change_after lp (1 + delay i) ∷ []) [])
    (c.enter.ensures.out ∙ λ i. with_requests c.send.new.self (entry lp (record { green = Eastward; at_green = c.from.ensures i; at_red = c.from-2.ensures i; crossing = None; passed = 0 })) [])
