use Rattle.std.proofs.Common.{rules, ◌∙◌}
use Rattle.vt_nodes.proofs.Links.{only-address, prev-alone}
use Rattle.vt_nodes.proofs.node.set_prev.Goals as goal

pub get-requires : goal.get-requires
get-requires g c κs within = (search rules, only-address c.args.at c.args.node.owned c.requires)

pub returns : goal.returns
returns g c = c.set_links.ensures ∙ prev-alone c.args.at c.args.prev c.args.node.owned c.get.result.now c.requires c.get.ensures
