use Rattle.vt_steps.proofs.marks.OwnCuts.{refused-cut-known}
use Rattle.vt_steps.proofs.marked.cuts_are_refused_after_a_cut.Goals as goal

pub returns : goal.returns
returns g c w marks right within none = refused-cut-known g.sim w c.requires.1.1 marks right within none
