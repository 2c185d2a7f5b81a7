use Rattle.vt_list.proofs.iter.IterIterator.next.Given as goal

abbrev pub ghost-get : goal.ghost-get
ghost-get g a = 0

abbrev pub ghost-rest : goal.ghost-rest
ghost-rest g a = 1
