use Rattle.std.proofs.Common.{◌≡◌, ℕ, ◌<◌, List, length, slice_index_or, ◌∙◌, sym, ap, subst}
use Rattle.std.proofs.lemmas.List.{with_items_is}
use Rattle.vt_steps.specs.promise.PartSteps.{part_after_commit}
use Rattle.vt_lp.specs.inside.Held.{HeldProcess}
use Rattle.vt_kernel.specs.inside.Held.{IsWorkerInside, StandsFor}
use Rattle.vt_kernel.specs.inside.Guards.{IsForgotten}
use Rattle.vt_kernel.proofs.CommitLemmas.{forgotten-each, stands-commit, inside-commit}
use Rattle.vt_kernel.proofs.LocalLemmas.{view_of}
use Rattle.vt_kernel.proofs.kernel.Kernel.fossil.Given.{Over}
use Rattle.vt_kernel.proofs.kernel.Kernel.fossil.Goals.{After-forget_before}
use Rattle.vt_kernel.proofs.kernel.Kernel.fossil.Goals as goal

-- the processes are as many as before
as-many : (g : Over) (c : After-forget_before g) → length c.forget_before.new.processes ≡ length c.self.inside.processes.items
as-many g c = c.forget_before.ensures.count ∙ ap length c.as_mut_slice.ensures.value

-- and each has forgotten
forgotten : (g : Over) (c : After-forget_before g) → let old = c.self.inside.processes.items in let new = c.forget_before.new.processes in
    (k : ℕ) (d : HeldProcess _ _ _) → k < length old → IsForgotten c.self.inside.floor (slice_index_or old k d) (slice_index_or new k d)
forgotten g c =
    let new = c.forget_before.new.processes in
    subst (λ (ps : List (HeldProcess _ _ _)). (k : ℕ) (d : HeldProcess _ _ _) → k < length ps → IsForgotten c.self.inside.floor (slice_index_or ps k d) (slice_index_or new k d))
    c.as_mut_slice.ensures.value c.forget_before.ensures.forgotten

pub invariant_of-self : goal.invariant_of-self
invariant_of-self g c =
    let k = c.self.inside in
    let new = c.forget_before.new.processes in
    let after = (goal.at.invariant_of-self g c).After-forget_before in
    subst (λ (ps : List (HeldProcess _ _ _)). IsWorkerInside k.config k.worker ps k.outbox k.arrived.items k.sent k.got k.serial) (sym (with_items_is k.processes new (c.forget_before.ensures.count ∙ c.as_mut_slice.ensures.len)))
    (inside-commit k.floor new (as-many g after) (forgotten g after) c.self.invariant)

pub returns-clause-stands : goal.returns-clause-stands
returns-clause-stands g c handlers part s =
    let k = c.self.inside in
    let new = c.forget_before.new.processes in
    let after = (goal.at.returns-clause-stands g c).After-forget_before in
    subst (λ (ps : List (HeldProcess _ _ _)). StandsFor handlers (record (view_of k) { processes = ps }) (part_after_commit part)) (sym (with_items_is k.processes new (c.forget_before.ensures.count ∙ c.as_mut_slice.ensures.len)))
    (stands-commit c.self.view_is handlers part s c.self.invariant.own_processes new (forgotten-each k.floor k.processes.items new (as-many g after) (forgotten g after)))
