use Rattle.std.proofs.Common.{◌∙◌, [], ◌∷◌}
use Rattle.vt_model.specs.inside.Sends.{with_requests}
use Rattle.vt_model.proofs.RequestLemmas.{sent_after}
use Rattle.vt_network.specs.declared.network.NetworkEvent.TheVariants.{Arrive}
use Rattle.vt_network.specs.inside.Network.{next_made}
use Rattle.vt_network.proofs.network.Network.generate.Goals as goal

pub returns-clause-out : goal.returns-clause-out
returns-clause-out c =
    sent_after _ _ _ _ _ _ c.send.ensures c.send-2.ensures
    ∙ (λ i. with_requests c.args.out.now (next_made c.args.lp c.args.gap ∷ record { dest = c.args.lp; delay = 1; priority = 0; payload = Arrive (record { source = c.args.lp; dest = c.args.dest; born = c.ticks.ensures i }) } ∷ []) [])
