use Rattle.std.proofs.Common.{rules, ◌≡◌, Some, slice_get, slice_set, sym, subst}
use Rattle.vt_model.specs.promise.Simulation.{simulation_of}
use Rattle.vt_steps.specs.promise.World.{Part}
use Rattle.vt_kernel.specs.inside.Held.{HeldWorker, IsProcessOf, StandsFor}
use Rattle.vt_kernel.specs.inside.Guards.{SettlesTo}
use Rattle.vt_kernel.proofs.PartLemmas.{stands_along}
use Rattle.vt_kernel.proofs.LocalLemmas.{view_of, index-within}
use Rattle.vt_kernel.proofs.SettledWorker.{unknown-settled, settled-seen}
use Rattle.vt_kernel.proofs.PutLemmas.{put-settled, inside-put}
use Rattle.vt_kernel.proofs.ReentryLemmas.{process-there}
use Rattle.vt_kernel.proofs.kernel.Kernel.settle.Given.{Over}
use Rattle.vt_kernel.proofs.kernel.Kernel.settle.Goals.{After-index_mut, After-put}
use Rattle.vt_kernel.proofs.kernel.Kernel.settle.Goals as goal

-- the process is there
there : (g : Over) (c : After-index_mut g) → slice_get c.self.inside.processes.items c.in-Some.index ≡ Some c.index_mut.result.now
there g c = process-there c.self.invariant c.in-Some.ensures.own (sym c.index_mut.ensures.value)

pub index_mut-requires : goal.index_mut-requires
index_mut-requires g c = search (rules, index-within c.self.invariant c.in-Some.ensures.own)

pub returns-in_default-clause-settles : goal.returns-in_default-clause-settles
returns-in_default-clause-settles g c part s =
    let i = c.self.inside in
    let handlers = g.M.Model.handlers c.args.model.now in (
      part,
      subst (λ (v : HeldWorker _ _ _). SettlesTo (simulation_of handlers v.config) v.worker c.args.lp part part 0) c.self.view_is
          (unknown-settled handlers (view_of i) c.self.invariant.own_processes part (stands_along c.self.view_is handlers part s) c.args.lp i.config.some_worker c.self.invariant.all_there c.in_default.ensures.other),
      s,
    )

pub invariant_of-self : goal.invariant_of-self
invariant_of-self g c =
    let done = c.settle_process-undone in
    inside-put c.self.inside.outbox done.new.outbox c.new-sent.ensures c.put.ensures c.self.invariant _ done.new.process (there g (goal.at.invariant_of-self g c).After-index_mut) done.ensures.same
    done.ensures.within c.self.invariant.few_made

-- what settles the process settles it at the worker
settled : (g : Over) (c : After-put g) (part : Part _) → StandsFor (g.M.Model.handlers c.args.model.now) c.args.self.now part
    → (after : Part _) × SettlesTo (simulation_of (g.M.Model.handlers c.args.model.now) c.args.self.now.config) c.args.self.now.worker c.args.lp part after c.settle_process-undone.result
    × StandsFor (g.M.Model.handlers c.args.model.now) (record (view_of c.self.inside) { processes = slice_set c.self.inside.processes.items c.in-Some.index c.settle_process-undone.new.process; outbox = c.put.new.self.letters }) after
settled g c part s =
    let settling = c.settle_process-undone in
    let at = process-there c.self.invariant c.in-Some.ensures.own (sym c.index_mut.ensures.value) in
    settled-seen (g.M.Model.handlers c.args.model.now) c.self.view_is c.self.invariant.own_processes part s settling.result settling.new.process c.put.new.self.letters
    c.in-Some.ensures.own at settling.ensures.same (λ process st. put-settled c.self.inside.outbox settling.new.outbox c.new-sent.ensures c.put.ensures (settling.ensures.settled process st))

pub returns-clause-settles : goal.returns-clause-settles
returns-clause-settles g c part s = settled g (goal.at.returns-clause-settles g c).After-put part s

-- an index is that of a process of the worker
own-index : (g : Over) (c : After-index_mut g) → IsProcessOf c.args.self.now.config c.args.self.now.worker c.args.lp
own-index g c =
    subst (λ (v : HeldWorker _ _ _). IsProcessOf v.config v.worker c.args.lp) c.self.view_is
    (record { known = c.in-Some.ensures.own.2; own = c.in-Some.ensures.own.1 })

pub returns-clause-other : goal.returns-clause-other
returns-clause-other g c other = absurd (other (own-index g (goal.at.returns-clause-other g c).After-index_mut))
