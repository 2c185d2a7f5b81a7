use Rattle.std.proofs.Common.{◌∙◌, length, drop, arith}
use Rattle.std.proofs.lemmas.List.{length-drop, take_all}
use Rattle.vt_nodes.proofs.blocks.Blocks.rest.Goals as goal

pub returns : goal.returns
returns g c =
    let owned = c.args.self.now.owned in
    let less = length-drop g.count owned in
    c.part.ensures ∙ take_all (length owned) (drop g.count owned) (omega (arith, less))
