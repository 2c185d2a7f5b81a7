use Rattle.std.proofs.Common.{arith, rules}
use Rattle.vt_steps.specs.declared.step.Step.TheVariants.{Report}
use Rattle.vt_places.proofs.WorkLemmas.{kernel-ready, called-at-work, alone-at-work}
use Rattle.vt_places.proofs.worker.Worker.report.Goals as goal

pub invariant_of-self : goal.invariant_of-self
invariant_of-self g c = called-at-work c.self.invariant c.report.ensures.same.0 c.report.ensures.ready

pub report-requires-after_bounds : goal.report-requires-after_bounds
report-requires-after_bounds g c κs within = (omega arith, (search rules, kernel-ready c.self.invariant))

pub returns-clause-alone : goal.returns-clause-alone
returns-clause-alone g c = alone-at-work c.self.invariant (λ w. Report w) c.report.result c.self.view_is c.self.inside.place.worker c.self.inside.place.own c.report.ensures.alone
