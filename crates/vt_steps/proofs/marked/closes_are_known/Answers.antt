use Rattle.vt_steps.proofs.marks.OwnCloses.{closed-known, closed-floors, unclosable-floor}
use Rattle.vt_steps.proofs.marked.closes_are_known.Goals as goal

pub returns : goal.returns
returns g c =
    let lawful = c.requires.1.1 in
    record { closed = closed-known g.sim; floors = closed-floors g.sim lawful; early = unclosable-floor g.sim lawful }
