use Rattle.std.proofs.Common.{◌≡◌, ℕ, ◌+◌, [], ◌∷◌, ◌∙◌, ap, Some}
use Rattle.vt_model.specs.inside.Sends.{Outgoing, with_requests}
use Rattle.vt_stream.specs.inside.Words.{word_of}
use Rattle.vt_traffic.specs.declared.junction.Road.{Road}
use Rattle.vt_traffic.specs.declared.junction.JunctionEvent.{JunctionEvent}
use Rattle.vt_traffic.specs.declared.junction.JunctionEvent.TheVariants.{Arrive}
use Rattle.vt_stream.specs.promise.Drawn.{scaled}
use Rattle.vt_traffic.specs.inside.Junction.{gone}
use Rattle.vt_traffic.specs.inside.Traffic.{next_junction, passage, departed}
use Rattle.vt_stream.proofs.DrawLemmas.{word_after}
use Rattle.vt_model.proofs.RequestLemmas.{recorded_then_sent}
use Rattle.vt_traffic.proofs.grid.Traffic.depart.Goals as goal

pub returns-clause-out : goal.returns-clause-out
returns-clause-out c =
    let m = c.args.self.now in
    let o = c.args.out.now in
    let words = word_of c.args.draws.now.stream.now in
    let left = gone (Some c.args.road) c.args.junction.now in
    let road = c.onward-onward.result in
    let second : word_of c.onward-onward.new.draws.stream.now 0 ≡ words 1 = word_after _ _ 1 c.onward-onward.ensures.stream in
    let delay : c.from-travel.result + c.below.result ≡ m.travel + scaled (words 1) m.travel = cc in
    let lps : c.lps.result ≡ o.lps = c.lps.ensures ∙ ap (λ (a : Outgoing JunctionEvent). a.lps) c.emit.ensures in
    let next : c.next_junction-next.result ≡ next_junction m o.lps c.args.lp road = c.next_junction-next.ensures ∙ ap (λ (n : ℕ). next_junction m n c.args.lp road) lps in
    let asked = λ (r : Road). passage m o.lps c.args.lp r (words 1) in
    recorded_then_sent _ _ _ _ _ c.emit.ensures c.send.ensures
    ∙ (λ i. with_requests o (record { dest = next i; delay = delay i; priority = 0; payload = Arrive road } ∷ []) (departed left ∷ []))
    ∙ ap (λ (r : Road). with_requests o (asked r ∷ []) (departed left ∷ [])) c.onward-onward.ensures.road
