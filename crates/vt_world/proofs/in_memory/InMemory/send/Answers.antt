use Rattle.std.proofs.Common.{rules, ◌∙◌, ap, sym, subst, refl, Some, slice_set}
use Rattle.vt_key.specs.declared.fault.Fault.TheVariants.{NotLawful}
use Rattle.vt_model.specs.declared.settings.Config.{Config}
use Rattle.vt_steps.specs.declared.step.Step.TheVariants.{Send}
use Rattle.vt_steps.specs.inside.Cells.{inbox_of, in_inbox}
use Rattle.vt_kernel.specs.inside.Held.{AllOwnMail}
use Rattle.vt_world.specs.inside.Held.{held_world}
use Rattle.vt_world.proofs.StepLemmas.{step-handed, step-left}
use Rattle.vt_world.proofs.Indices.{own-mail, worker-there, inbox-there}
use Rattle.vt_world.proofs.CellLemmas.{Puts, inbox-put, cell-step, cell-inside}
use Rattle.vt_world.proofs.WorldSteps.{who, of-nobody, send-nowhere}
use Rattle.vt_world.proofs.in_memory.InMemory.send.Given.{Over}
use Rattle.vt_world.proofs.in_memory.InMemory.send.Goals.{After-send, then-w-self-via-then-w-self, then-w-self-via-else-w-self+then-v-self}
use Rattle.vt_world.proofs.in_memory.InMemory.send.Goals as goal

pub returns-then-w-self : goal.returns-then-w-self
returns-then-w-self g c =
    let left = step-left g.M.Model.handlers c.self.view_is (Send c.args.w c.args.v) NotLawful in
    elim c.then-w-self.branch [
      | then-w-self-via-then-w-self w ↦ left (of-nobody c.self.invariant w.if-w-self.true (Send c.args.w c.args.v) refl tt)
      | then-w-self-via-else-w-self+then-v-self w ↦ left (send-nowhere c.self.invariant c.args.w w.if-v-self.true)
    ]

-- what the call puts into the inbox
puts : (g : Over) (c : After-send g) → let i = c.self.inside in Puts (g.M.Model.handlers i.model.now) (held_world i.model.now i.config i.kernels.items i.inboxes.items i.board.board i.book.book) c.args.w c.index_mut.result.now
    c.send.new.kernel (inbox_of c.args.v) (in_inbox c.behind-self.inside.mail.items) (in_inbox c.send.new.inbox.items) (slice_set i.inboxes.items c.args.v c.send.new.inbox.items) i.board.board i.book.book
puts g c =
    let at = worker-there c.self.invariant c.if-w-self.false c.index_mut.ensures.value in
    let here = inbox-there c.self.invariant c.if-v-self.false c.index_mut-2.ensures.value ∙ ap (λ l. Some l) (sym c.behind-self.view_is) in
    inbox-put c.self.invariant at c.send.new.kernel c.args.v here c.send.new.inbox.items
    (subst (λ (f : Config). AllOwnMail f c.args.v c.behind-self.inside.mail.items → AllOwnMail f c.args.v c.send.new.inbox.items) (who c.self.invariant at).1 c.send.ensures.own (own-mail c.self.invariant here))

pub invariant_of-self : goal.invariant_of-self
invariant_of-self g c =
    cell-inside g.M.Model.handlers c.self.invariant (λ u. Send u c.args.v) refl refl (puts g (goal.at.invariant_of-self g c).After-send) (c.send.ensures.step (g.M.Model.handlers c.self.inside.model.now)) refl refl

pub returns-in_err-send : goal.returns-in_err-send
returns-in_err-send g c =
    step-handed g.M.Model.handlers _ (search rules)
    (cell-step g.M.Model.handlers c.self.invariant (λ u. Send u c.args.v) refl refl (puts g (goal.at.returns-in_err-send g c).After-send) (c.in_err-send.ensures.step (g.M.Model.handlers c.self.inside.model.now)) c.self.view_is)

pub invariant_of-self-2 : goal.invariant_of-self-2
invariant_of-self-2 g c =
    cell-inside g.M.Model.handlers c.self.invariant (λ u. Send u c.args.v) refl refl (puts g (goal.at.invariant_of-self-2 g c).After-send) (c.send.ensures.step (g.M.Model.handlers c.self.inside.model.now)) refl refl

pub returns : goal.returns
returns g c =
    cell-step g.M.Model.handlers c.self.invariant (λ u. Send u c.args.v) refl refl (puts g (goal.at.returns g c).After-send) (c.in_ok-send.ensures.step (g.M.Model.handlers c.self.inside.model.now)) c.self.view_is
