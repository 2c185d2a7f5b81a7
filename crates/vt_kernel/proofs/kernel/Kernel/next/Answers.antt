use Rattle.std.proofs.Common.{arith, ◌≡◌, ℕ, ◌+◌, ◌*◌, List, Some, None, map, slice_get, subst}
use Rattle.std.proofs.Math.Nat.{le-mul_of_pos_right}
use Rattle.vt_model.specs.promise.Simulation.{simulation_of}
use Rattle.vt_steps.specs.promise.World.{Part}
use Rattle.vt_steps.specs.inside.Cells.{local_step}
use Rattle.vt_steps.specs.declared.step.Step.TheVariants as step
use Rattle.vt_key.specs.declared.order.Rank.{Rank}
use Rattle.vt_lp.specs.inside.Held.{HeldProcess}
use Rattle.vt_kernel.specs.inside.Choosing.{IsLeast, ready_of}
use Rattle.vt_kernel.specs.inside.Held.{HeldWorker}
use Rattle.vt_kernel.proofs.PartLemmas.{stands_along}
use Rattle.vt_kernel.proofs.LocalLemmas.{view_of}
use Rattle.vt_kernel.proofs.ChoosingLemmas.{NextIs, next-is}
use Rattle.vt_kernel.proofs.ReadyLemmas.{lawful-at, unlawful-at}
use Rattle.vt_kernel.proofs.kernel.Kernel.next.Given.{Over}
use Rattle.vt_kernel.proofs.kernel.Kernel.next.Goals.{In-Some}
use Rattle.vt_kernel.proofs.kernel.Kernel.next.Goals as goal

-- the process at the index is next
next-one : (g : Over) (c : In-Some g) → NextIs (view_of c.self.inside) (c.in-Some.index * c.self.inside.config.workers + c.self.inside.worker)
next-one g c =
    next-is (view_of c.self.inside) c.in-Some.index c.self.invariant.known c.self.invariant.all_there
    (subst (λ (ps : List (HeldProcess _ _ _)). IsLeast (map ready_of ps) c.in-Some.index) c.deref.ensures.value c.in-Some.ensures.least)

pub overflow_cast-result : goal.overflow_cast-result
overflow_cast-result g c =
    let grown = le-mul_of_pos_right {m = c.self.inside.config.workers} c.in-Some.index c.self.inside.config.some_worker in
    omega (arith, grown, (next-one g c).0, c.self.inside.config.few_processes)

pub overflow_mul-result : goal.overflow_mul-result
overflow_mul-result g c = omega (arith, (next-one g c).0, c.self.inside.config.few_processes)

pub overflow_add-result : goal.overflow_add-result
overflow_add-result g c = omega (arith, (next-one g c).0, c.self.inside.config.few_processes)

pub returns-clause-least : goal.returns-clause-least
returns-clause-least g c =
    subst (λ (v : HeldWorker _ _ _). NextIs v (c.in-Some.index * c.self.inside.config.workers + c.self.inside.worker)) c.self.view_is (next-one g c)

pub returns-clause-lawful : goal.returns-clause-lawful
returns-clause-lawful g c handlers part s =
    let i = c.self.inside in
    let p = c.in-Some.index * i.config.workers + i.worker in
    let is = next-one g c in
    subst (λ (v : HeldWorker _ _ _). (after : Part _) × (local_step (simulation_of handlers v.config) v.worker (step.Execute p) part ≡ Some after)) c.self.view_is
    (lawful-at handlers (view_of i) c.self.invariant.own_processes part (stands_along c.self.view_is handlers part s) p is.2.rank is.1 is.2.there)

pub returns-in_default-clause-unlawful : goal.returns-in_default-clause-unlawful
returns-in_default-clause-unlawful g c handlers part s =
    let i = c.self.inside in
    subst (λ (v : HeldWorker _ _ _). (p : ℕ) → local_step (simulation_of handlers v.config) v.worker (step.Execute p) part ≡ None) c.self.view_is
    (unlawful-at handlers (view_of i) c.self.invariant.own_processes part (stands_along c.self.view_is handlers part s)
    (subst (λ (ps : List (HeldProcess _ _ _)). (at : ℕ) (rank : Rank) → slice_get (map ready_of ps) at ≡ Some (Some rank) → ⊥) c.deref.ensures.value c.in_default.ensures.nothing))

pub returns-in_default-clause-nothing : goal.returns-in_default-clause-nothing
returns-in_default-clause-nothing g c =
    subst (λ (v : HeldWorker _ _ _). (at : ℕ) (rank : Rank) → slice_get (map ready_of v.processes) at ≡ Some (Some rank) → ⊥) c.self.view_is
    (subst (λ (ps : List (HeldProcess _ _ _)). (at : ℕ) (rank : Rank) → slice_get (map ready_of ps) at ≡ Some (Some rank) → ⊥) c.deref.ensures.value c.in_default.ensures.nothing)
