use Rattle.std.proofs.Common.{rules, ◌∙◌, ap, sym, refl, arith}
use Rattle.std.proofs.Math.Nat.{ℕ_set}
use Rattle.vt_key.specs.declared.fault.Fault.TheVariants.{NotLawful, Closed}
use Rattle.vt_model.specs.declared.settings.Config.{Config}
use Rattle.vt_model.specs.promise.Settings.{end_of}
use Rattle.vt_model.proofs.LawLemmas.{lawful_of}
use Rattle.vt_steps.specs.declared.step.Step.TheVariants.{Commit}
use Rattle.vt_world.proofs.StepLemmas.{step-handed, step-left}
use Rattle.vt_world.proofs.Indices.{worker-there}
use Rattle.vt_world.proofs.CellLemmas.{book-put, cell-step, cell-inside, one-world}
use Rattle.vt_world.proofs.WorldSteps.{who, of-nobody, commit-closed}
use Rattle.vt_world.proofs.in_memory.InMemory.commit.Goals as goal

pub returns-then-is_closed : goal.returns-then-is_closed
returns-then-is_closed g c =
    step-left g.M.Model.handlers c.self.view_is (Commit c.args.w) Closed (commit-closed c.self.invariant c.args.w (sym c.is_closed.ensures ∙ c.if-is_closed.true))

pub returns-then-w-self : goal.returns-then-w-self
returns-then-w-self g c =
    step-left g.M.Model.handlers c.self.view_is (Commit c.args.w) NotLawful (of-nobody c.self.invariant c.if-w-self.true (Commit c.args.w) refl (sym c.is_closed.ensures ∙ c.if-is_closed.false))

pub commit-requires-after_bounds : goal.commit-requires-after_bounds
commit-requires-after_bounds g c κs within =
    let m = c.self.inside.model.now in
    let lawful = lawful_of (g.M.Model.handlers m) c.self.inside.config (g.met.M.Model.start_within m) (g.met.M.Model.forward_within m) in
    let at = worker-there c.self.invariant c.if-w-self.false c.index_mut.ensures.value in
    let is = who c.self.invariant at in (omega arith, (is.0, (c.self.invariant.same_book_end ∙ ap (λ (f : Config). end_of f) (sym is.1), (g.M.Model.handlers m, one-world g.M.Model.handlers c.self.invariant lawful c.args.w at))))

pub invariant_of-self : goal.invariant_of-self
invariant_of-self g c =
    cell-inside g.M.Model.handlers c.self.invariant (λ u. Commit c.args.w) refl refl (book-put c.self.invariant (worker-there c.self.invariant c.if-w-self.false c.index_mut.ensures.value) c.commit.new.kernel c.commit.new.book.book) (c.commit.ensures.step (g.M.Model.handlers c.self.inside.model.now)) refl c.commit.ensures.end

pub returns-in_err-commit : goal.returns-in_err-commit
returns-in_err-commit g c =
    step-handed g.M.Model.handlers _ (search rules)
    (cell-step g.M.Model.handlers c.self.invariant (λ u. Commit c.args.w) refl refl (book-put c.self.invariant (worker-there c.self.invariant c.if-w-self.false c.index_mut.ensures.value) c.commit.new.kernel c.commit.new.book.book) (c.in_err-commit.ensures.step (g.M.Model.handlers c.self.inside.model.now)) c.self.view_is)

pub invariant_of-self-2 : goal.invariant_of-self-2
invariant_of-self-2 g c =
    cell-inside g.M.Model.handlers c.self.invariant (λ u. Commit c.args.w) refl refl (book-put c.self.invariant (worker-there c.self.invariant c.if-w-self.false c.index_mut.ensures.value) c.commit.new.kernel c.commit.new.book.book) (c.commit.ensures.step (g.M.Model.handlers c.self.inside.model.now)) refl c.commit.ensures.end

pub returns : goal.returns
returns g c =
    cell-step g.M.Model.handlers c.self.invariant (λ u. Commit c.args.w) refl refl (book-put c.self.invariant (worker-there c.self.invariant c.if-w-self.false c.index_mut.ensures.value) c.commit.new.kernel c.commit.new.book.book) (c.in_ok-commit.ensures.step (g.M.Model.handlers c.self.inside.model.now)) c.self.view_is

pub same-self : goal.same-self
same-self g c = (let i = c.self.inside in λ j. record { model = i.model; config = i.config; kernels = i.kernels; inboxes = i.inboxes; board = i.board; book = i.book; whole = ℕ_set i.book.handed_out 0 c.self-1.given.0 i.whole j })

pub same-self-then-w-self : goal.same-self-then-w-self
same-self-then-w-self g c = (let i = c.self.inside in λ j. record { model = i.model; config = i.config; kernels = i.kernels; inboxes = i.inboxes; board = i.board; book = i.book; whole = ℕ_set i.book.handed_out 0 c.self-then-w-self-1.given.0 i.whole j })
