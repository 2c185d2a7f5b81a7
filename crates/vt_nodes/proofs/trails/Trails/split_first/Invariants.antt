use Rattle.vt_nodes.specs.inside.Lines.{first_length, lines_of}
use Rattle.vt_nodes.proofs.trails.Trails.split_first.Given as goal

abbrev pub ghost-split : goal.ghost-split
ghost-split g a = first_length (lines_of a.self.owned)

abbrev pub ghost-get : goal.ghost-get
ghost-get g a = 0
