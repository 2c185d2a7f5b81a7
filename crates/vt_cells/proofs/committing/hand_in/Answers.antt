use Rattle.std.proofs.Common.{inr, refl, sym, ◌∙◌, subst}
use Rattle.std.proofs.lemmas.Result.{MatchResult-weaker}
use Rattle.vt_cells.specs.inside.Calls.{IsBatchOf}
use Rattle.vt_cells.proofs.BookSteps.{may-commit, hand-taken, hand-closed, hand-memory, hand-tried}
use Rattle.vt_cells.proofs.committing.hand_in.Goals as goal

pub returns-then-is_closed-clause-step : goal.returns-then-is_closed-clause-step
returns-then-is_closed-clause-step g c H = hand-closed H c.args.kernel.now c.args.w c.args.book.now (sym c.is_closed.ensures ∙ c.if-is_closed.true)

pub returns-in_default-clause-step : goal.returns-in_default-clause-step
returns-in_default-clause-step g c H =
    let r = c.requires in
    hand-memory H c.args.kernel.now c.args.w c.args.book.now (may-commit c.args.book.now r.end r.reached.1 r.worker) (sym c.is_closed.ensures ∙ c.if-is_closed.false) refl refl

pub returns-clause-step : goal.returns-clause-step
returns-clause-step g c H =
    let r = c.requires in
    let is_open = sym c.is_closed.ensures ∙ c.if-is_closed.false in
    let ready = subst (IsBatchOf c.args.kernel.now) c.in-Ok.is r.rows in
    let hand = c.hand_batch.ensures in
    hand-tried H c.args.kernel.now c.args.w c.args.book.now (may-commit c.args.book.now r.end r.reached.1 r.worker) is_open r.worker c.hand_batch.new.self c.floor-floor.ensures ready c.hand_batch.result
    (hand.taken (hand-taken c.args.book.now r.end r.reached.1 r.worker c.floor-floor.ensures is_open ready)) hand.unchanged

pub returns-clause-why : goal.returns-clause-why
returns-clause-why g c =
    let r = c.requires in
    let is_open = sym c.is_closed.ensures ∙ c.if-is_closed.false in
    MatchResult-weaker c.hand_batch.result
    (c.hand_batch.ensures.taken (hand-taken c.args.book.now r.end r.reached.1 r.worker c.floor-floor.ensures is_open (subst (IsBatchOf c.args.kernel.now) c.in-Ok.is r.rows))) (λ x is. is_open) (λ fault memory. inr (memory, is_open))
