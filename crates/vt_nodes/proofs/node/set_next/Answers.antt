use Rattle.std.proofs.Common.{rules, ◌∙◌}
use Rattle.vt_nodes.proofs.Links.{only-address, next-alone}
use Rattle.vt_nodes.proofs.node.set_next.Goals as goal

pub get-requires : goal.get-requires
get-requires g c κs within = (search rules, only-address c.args.at c.args.node.owned c.requires)

pub returns : goal.returns
returns g c = c.set_links.ensures ∙ next-alone c.args.at c.args.next c.args.node.owned c.get.result.now c.requires c.get.ensures
