use Rattle.vt_places.proofs.WorkLemmas.{opens-at-work}
use Rattle.vt_places.proofs.worker.Worker.new.Goals as goal

pub invariant_of-result : goal.invariant_of-result
invariant_of-result g c = opens-at-work c.requires.told c.requires.place c.in-Ok.ensures.made c.in-Ok.ensures.opening
