use Rattle.std.proofs.Common.{◌∙◌, IfErr, sym, ap, subst}
use Rattle.vt_model.specs.promise.Simulation.{simulation_of}
use Rattle.vt_steps.specs.declared.step.Step.TheVariants.{Accept}
use Rattle.vt_steps.specs.promise.World.{Part}
use Rattle.vt_steps.specs.inside.Cells.{local_step}
use Rattle.vt_kernel.specs.inside.Held.{HeldWorker, StandsFor}
use Rattle.vt_kernel.specs.inside.Guards.{IsAcceptRefusal}
use Rattle.vt_engine.specs.declared.kind.Kind.{Kind}
use Rattle.vt_engine.specs.inside.Held.{held_of}
use Rattle.vt_engine.proofs.stepping.Engine+M+KERNEL.accept.Goals as goal

pub returns-clause-refused : goal.returns-clause-refused
returns-clause-refused g c handlers =
    subst (λ (k : HeldWorker _ _ _). (part : Part _) → StandsFor handlers k part → IfErr c.accept.result (λ fault. IsAcceptRefusal
    (local_step (simulation_of handlers k.config) k.worker (Accept k.worker c.args.i) part) fault))
    (sym (ap (λ (k : Kind _ _ _ _). held_of k) c.in-Kernel.is) ∙ ap (λ (k : Kind _ _ _ _). held_of k) c.deref_mut.ensures.value ∙ c.self.view_is) (c.accept.ensures.refused handlers)
