use Rattle.std.proofs.Common.{subst}
use Rattle.vt_model.proofs.LawLemmas.{lawful_of}
use Rattle.vt_world.specs.inside.Held.{IsHeldStepOf}
use Rattle.vt_world.proofs.TakenLemmas.{inside-ok, inside-err, taken-ok, taken-err}
use Rattle.vt_world.proofs.world.World.step.Goals as goal

pub invariant_of-self : goal.invariant_of-self
invariant_of-self g c =
    let i = c.self.inside in
    let is = subst (IsHeldStepOf (g.M.Model.handlers i.memory.model) c.args.step.now i.memory c.step.new.self) c.in-Ok.is c.step.ensures in
    inside-ok g.M.Model.handlers i.memory c.step.new.self i.serial i.steps.items c.args.step.now c.self.invariant c.in-Ok.reply is c.add_step.new.steps.items c.add_step.ensures

pub invariant_of-self-in-Err : goal.invariant_of-self-in-Err
invariant_of-self-in-Err g c =
    let i = c.self.inside in
    let is = subst (IsHeldStepOf (g.M.Model.handlers i.memory.model) c.args.step.now i.memory c.step.new.self) c.in-Err.is c.step.ensures in
    inside-err g.M.Model.handlers i.memory c.step.new.self i.serial i.steps.items c.args.step.now c.self.invariant c.in-Err.fault is

pub returns-in-Ok : goal.returns-in-Ok
returns-in-Ok g c =
    let i = c.self.inside in
    let m = i.memory in
    let lawful = lawful_of (g.M.Model.handlers m.model) m.config (g.met.M.Model.start_within m.model) (g.met.M.Model.forward_within m.model) in
    let is = subst (IsHeldStepOf (g.M.Model.handlers m.model) c.args.step.now m c.step.new.self) c.in-Ok.is c.step.ensures in
    let taken = taken-ok g.M.Model.handlers m c.step.new.self i.serial i.steps.items c.args.step.now c.self.invariant c.in-Ok.reply is c.add_step.new.steps.items c.add_step.ensures lawful c.self.view_is in
    record { step = taken.step; same = taken.same; announced = taken.announced; floor = taken.floor; closed = taken.closed; stays = taken.stays }

pub returns-in-Err : goal.returns-in-Err
returns-in-Err g c =
    let i = c.self.inside in
    let m = i.memory in
    let is = subst (IsHeldStepOf (g.M.Model.handlers m.model) c.args.step.now m c.step.new.self) c.in-Err.is c.step.ensures in
    let taken = taken-err g.M.Model.handlers m c.step.new.self i.serial i.steps.items c.args.step.now c.self.invariant c.in-Err.fault is c.self.view_is in
    record { step = taken.step; same = taken.same; announced = taken.announced; floor = taken.floor; closed = taken.closed; stays = taken.stays }
