use Rattle.std.proofs.Common.{◌≡◌, ◌∙◌, ◌+◌, ◌-◌, ◌<◌, ◌≤◌, ◌/◌, ◌%◌, length, IfSome, IfNone, arith, sym, subst}
use Rattle.std.specs.Slice.{IsItemAt}
use Rattle.vt_kernel.specs.inside.Held.{HeldWorker, IsProcessOf}
use Rattle.vt_kernel.proofs.IndexLemmas.{process-below, found-below, missed-past, if_some, if_none}
use Rattle.vt_kernel.proofs.ProcessLemmas.{index-known}
use Rattle.vt_kernel.proofs.kernel.Kernel.process.Given.{Over}
use Rattle.vt_kernel.proofs.kernel.Kernel.process.Goals.{After-get}
use Rattle.vt_kernel.proofs.kernel.Kernel.process.Goals as goal

-- the process is looked up at its index
looked : (g : Over) (c : After-get g) → IsItemAt c.self.inside.processes.items (c.args.p / c.self.inside.config.workers) c.get.result
looked g c = subst (λ at. IsItemAt c.self.inside.processes.items at c.get.result) c.index.ensures (rw c.deref.ensures.value at c.get.ensures.lookup)

pub returns-clause-known : goal.returns-clause-known
returns-clause-known g c =
    let k = c.self.inside in
    let own : c.args.p % k.config.workers ≡ k.worker = sym c.owner.ensures.value ∙ c.if-owner-self.false in
    let all : length k.processes.items ≡ (k.config.lps + (k.config.workers - 1) - k.worker) / k.config.workers = c.self.invariant.all_there in
    subst (λ (v : HeldWorker _ _ _). IfSome c.get.result (λ _. IsProcessOf v.config v.worker c.args.p)) c.self.view_is
    (if_some c.get.result (λ (below : c.args.p / k.config.workers < length k.processes.items). record {
      known = process-below k.config.lps k.config.workers k.worker c.args.p k.config.some_worker own (omega (arith, below, all));
      own = own;
    }) (found-below k.processes.items _ c.get.result (looked g c)))

pub returns-clause-unknown : goal.returns-clause-unknown
returns-clause-unknown g c =
    let k = c.self.inside in
    let all : length k.processes.items ≡ (k.config.lps + (k.config.workers - 1) - k.worker) / k.config.workers = c.self.invariant.all_there in
    subst (λ (v : HeldWorker _ _ _). IfNone c.get.result (IsProcessOf v.config v.worker c.args.p → ⊥)) c.self.view_is
    (if_none c.get.result (λ (past : length k.processes.items ≤ c.args.p / k.config.workers) (is : IsProcessOf k.config k.worker c.args.p).
    let below = index-known k.config.lps k.config.workers k.worker c.args.p k.config.some_worker is.known is.own in
    omega (arith, past, below, all)) (missed-past k.processes.items _ c.get.result (looked g c)))
