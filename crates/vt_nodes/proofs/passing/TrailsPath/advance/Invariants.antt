use Rattle.vt_nodes.specs.inside.Lines.{first_length, lines_of}
use Rattle.vt_nodes.proofs.passing.TrailsPath.advance.Given as goal

abbrev pub ghost-get : goal.ghost-get
ghost-get g a = 0

abbrev pub ghost-split : goal.ghost-split
ghost-split g a = first_length (lines_of a.self.owned)
