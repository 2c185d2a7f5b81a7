use Rattle.std.proofs.Common.{arith, rules}
use Rattle.vt_steps.specs.declared.step.Step.TheVariants.{Cut}
use Rattle.vt_places.proofs.WorkLemmas.{kernel-ready, called-at-work, alone-at-work}
use Rattle.vt_places.proofs.worker.Worker.cut.Goals as goal

pub invariant_of-self : goal.invariant_of-self
invariant_of-self g c = called-at-work c.self.invariant c.cut.ensures.same.0 c.cut.ensures.ready

pub cut-requires-after_bounds : goal.cut-requires-after_bounds
cut-requires-after_bounds g c κs within = (omega arith, (search rules, kernel-ready c.self.invariant))

pub returns-clause-alone : goal.returns-clause-alone
returns-clause-alone g c = alone-at-work c.self.invariant (λ w. Cut w) c.cut.result c.self.view_is c.self.inside.place.worker c.self.inside.place.own c.cut.ensures.alone
