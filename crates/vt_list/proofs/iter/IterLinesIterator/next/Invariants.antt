use Rattle.vt_nodes.specs.inside.Lines.{first_length, lines_of}
use Rattle.vt_list.proofs.iter.IterLinesIterator.next.Given as goal

abbrev pub ghost-front : goal.ghost-front
ghost-front g a = first_length (lines_of a.self.now.owned)

abbrev pub ghost-get : goal.ghost-get
ghost-get g a = 0

abbrev pub ghost-rest : goal.ghost-rest
ghost-rest g a = first_length (lines_of a.self.now.owned)
