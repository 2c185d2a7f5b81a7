use Rattle.std.proofs.Common.{◌≡◌, ◌+◌, ◌∙◌, [], ap, sym}
use Rattle.vt_model.specs.inside.Sends.{with_requests}
use Rattle.vt_stream.specs.inside.Words.{word_of}
use Rattle.vt_stream.specs.promise.Drawn.{scaled}
use Rattle.vt_stream.proofs.DrawLemmas.{word_after}
use Rattle.vt_network.specs.declared.network.NetworkEvent.{NetworkEvent}
use Rattle.vt_network.specs.inside.Network.{made_sends, sends_by, records_by}
use Rattle.vt_network.proofs.network.NetworkEventModel.forward.Goals as goal

pub returns-in-Generate-clause-out : goal.returns-in-Generate-clause-out
returns-in-Generate-clause-out c =
    let m = c.args.self.now in
    let o = c.args.out.now in
    let lp = c.args.lp in
    let words = word_of c.args.draws.now.stream.now in
    let second : word_of c.below-gap.new.self.stream.now 0 ≡ words 1 = word_after _ _ 1 c.below-gap.ensures.stream in
    let gap : c.below-gap.result ≡ scaled (words 0) m.gap = cc in
    let dest : c.below-dest.result ≡ scaled (words 1) o.lps = cc in
    c.generate.ensures.out ∙ (λ i. with_requests o (made_sends lp c.args.now (1 + gap i) (dest i)) [])
    ∙ sym (ap (λ (e : NetworkEvent). with_requests o (sends_by m o.lps lp c.args.now e c.args.state.now words) (records_by lp c.args.now e c.args.state.now)) c.in-Generate.is)
