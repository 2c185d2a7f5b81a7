use Rattle.std.proofs.Common.{rules, sym}
use Rattle.vt_model.specs.promise.Simulation.{simulation_of}
use Rattle.vt_world.proofs.StepLemmas.{step-handed}
use Rattle.vt_world.proofs.CellLemmas.{closes, closes-inside}
use Rattle.vt_world.proofs.in_memory.InMemory.close.Goals as goal

pub invariant_of-self : goal.invariant_of-self
invariant_of-self g c =
    let i = c.self.inside in
    let why = c.in_err-close.ensures in
    closes-inside g.M.Model.handlers c.self.invariant (why.step (simulation_of (g.M.Model.handlers i.model.now) i.config) (sym c.self.invariant.same_book_end)) why.unchanged why.end

pub returns-in_err-close : goal.returns-in_err-close
returns-in_err-close g c =
    let i = c.self.inside in
    let why = c.in_err-close.ensures in
    step-handed g.M.Model.handlers _ (search rules)
    (closes g.M.Model.handlers c.self.invariant (why.step (simulation_of (g.M.Model.handlers i.model.now) i.config) (sym c.self.invariant.same_book_end)) why.unchanged c.self.view_is)

pub invariant_of-self-2 : goal.invariant_of-self-2
invariant_of-self-2 g c =
    let i = c.self.inside in
    let done = c.in_ok-close.ensures in
    closes-inside g.M.Model.handlers c.self.invariant (done.step (simulation_of (g.M.Model.handlers i.model.now) i.config) (sym c.self.invariant.same_book_end)) tt done.end

pub returns : goal.returns
returns g c =
    let i = c.self.inside in
    closes g.M.Model.handlers c.self.invariant (c.in_ok-close.ensures.step (simulation_of (g.M.Model.handlers i.model.now) i.config) (sym c.self.invariant.same_book_end)) tt c.self.view_is
