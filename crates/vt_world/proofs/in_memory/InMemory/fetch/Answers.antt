use Rattle.std.proofs.Common.{rules, ℕ, ◌∙◌, ap, sym, subst, refl, Some, slice_set, arith}
use Rattle.vt_key.specs.declared.fault.Fault.TheVariants.{NotLawful}
use Rattle.vt_model.specs.declared.settings.Config.{Config}
use Rattle.vt_steps.specs.declared.step.Step.TheVariants.{Fetch}
use Rattle.vt_steps.specs.inside.Cells.{inbox_of, in_inbox}
use Rattle.vt_kernel.specs.inside.Held.{AllOwnMail}
use Rattle.vt_world.specs.inside.Held.{held_world}
use Rattle.vt_world.proofs.StepLemmas.{step-handed, step-left}
use Rattle.vt_world.proofs.Indices.{own-mail, worker-there, inbox-there}
use Rattle.vt_world.proofs.CellLemmas.{Puts, inbox-put, cell-step, cell-inside}
use Rattle.vt_world.proofs.WorldSteps.{who, of-nobody}
use Rattle.vt_world.proofs.in_memory.InMemory.fetch.Given.{Over}
use Rattle.vt_world.proofs.in_memory.InMemory.fetch.Goals.{After-fetch}
use Rattle.vt_world.proofs.in_memory.InMemory.fetch.Goals as goal

pub returns-then-w-self : goal.returns-then-w-self
returns-then-w-self g c = step-left g.M.Model.handlers c.self.view_is (Fetch c.args.w) NotLawful (of-nobody c.self.invariant c.if-w-self.true (Fetch c.args.w) refl tt)

pub fetch-requires-clause-own : goal.fetch-requires-clause-own
fetch-requires-clause-own g c κs within =
    let is = who c.self.invariant (worker-there c.self.invariant c.if-w-self.false c.index_mut.ensures.value) in
    let here = inbox-there c.self.invariant c.if-w-self.false c.index_mut-2.ensures.value ∙ ap (λ l. Some l) (sym c.behind-self.view_is) in
    (omega arith, subst (λ (x : ℕ × Config). AllOwnMail x.1 x.0 c.behind-self.inside.mail.items) (λ i. (sym is.0 i, sym is.1 i)) (own-mail c.self.invariant here))

-- what the call leaves in the inbox
puts : (g : Over) (c : After-fetch g) → let i = c.self.inside in Puts (g.M.Model.handlers i.model.now) (held_world i.model.now i.config i.kernels.items i.inboxes.items i.board.board i.book.book) c.args.w c.index_mut.result.now
    c.fetch.new.kernel (inbox_of c.args.w) (in_inbox c.behind-self.inside.mail.items) (in_inbox c.fetch.new.inbox.items) (slice_set i.inboxes.items c.args.w c.fetch.new.inbox.items) i.board.board i.book.book
puts g c =
    let at = worker-there c.self.invariant c.if-w-self.false c.index_mut.ensures.value in
    let here = inbox-there c.self.invariant c.if-w-self.false c.index_mut-2.ensures.value ∙ ap (λ l. Some l) (sym c.behind-self.view_is) in
    inbox-put c.self.invariant at c.fetch.new.kernel c.args.w here c.fetch.new.inbox.items
    (subst (λ (x : ℕ × Config). AllOwnMail x.1 x.0 c.fetch.new.inbox.items) (λ i. ((who c.self.invariant at).0 i, (who c.self.invariant at).1 i)) c.fetch.ensures.own)

pub invariant_of-self : goal.invariant_of-self
invariant_of-self g c =
    cell-inside g.M.Model.handlers c.self.invariant Fetch refl refl (puts g (goal.at.invariant_of-self g c).After-fetch) (c.fetch.ensures.step (g.M.Model.handlers c.self.inside.model.now)) refl refl

pub returns-in_err-fetch : goal.returns-in_err-fetch
returns-in_err-fetch g c =
    step-handed g.M.Model.handlers _ (search rules)
    (cell-step g.M.Model.handlers c.self.invariant Fetch refl refl (puts g (goal.at.returns-in_err-fetch g c).After-fetch) (c.in_err-fetch.ensures.step (g.M.Model.handlers c.self.inside.model.now)) c.self.view_is)

pub invariant_of-self-2 : goal.invariant_of-self-2
invariant_of-self-2 g c =
    cell-inside g.M.Model.handlers c.self.invariant Fetch refl refl (puts g (goal.at.invariant_of-self-2 g c).After-fetch) (c.fetch.ensures.step (g.M.Model.handlers c.self.inside.model.now)) refl refl

pub returns : goal.returns
returns g c =
    cell-step g.M.Model.handlers c.self.invariant Fetch refl refl (puts g (goal.at.returns g c).After-fetch) (c.in_ok-fetch.ensures.step (g.M.Model.handlers c.self.inside.model.now)) c.self.view_is
