use Rattle.std.proofs.Common.{◌≡◌, [], Bool, true, ◌∙◌, nat_eq, if◌then◌else◌, sym, ap, arith, Result}
use Rattle.vt_guest.specs.declared.trap.Reason.{Reason}
use Rattle.vt_guest.specs.declared.calls.Progress.{Progress}
use Rattle.vt_guest.specs.inside.Progresses.{handling_of}
use Rattle.vt_guest.specs.promise.Handling.{Handled, handled}
use Rattle.vt_guest.specs.promise.Handlers.{NO_VALUE, value_of, finish_run, guest_finish}
use Rattle.vt_guest.proofs.TrapLemmas.{whole-test}
use Rattle.vt_guest.proofs.guest.GuestEventModel.finish.Goals.{After-run_finish}
use Rattle.vt_guest.proofs.guest.GuestEventModel.finish.Given.{Over}
use Rattle.vt_guest.proofs.guest.GuestEventModel.finish.Goals as goal

-- what was run gives what `finish` gives
gives : (g : Over) (c : After-run_finish g) (end : Result (Unit {0}) Reason) → c.run_finish.result ≡ end → value_of end (handling_of g.row.SIZE c.run_finish.new.self c.run_finish.new.state) ≡ guest_finish c.args.self.now c.args.lp c.args.state.now
gives g c end is =
    let m = c.args.self.now in
    let s = c.args.state.now in
    let ran = finish_run m c.args.lp s in
    let begins = ap (λ (p : Progress). handling_of g.row.SIZE p s.bytes) c.begin-progress.ensures in
    let same : handled m.program.code c.host-host.result (λ i. 0) c.begin-progress.result.left (handling_of g.row.SIZE c.begin-progress.result s.bytes) [] [] ≡ ran
    = λ j. handled m.program.code (c.host-host.ensures j) (λ i. 0) (begins j).left (begins j) [] [] in
    let ended : end ≡ ran.end = sym is ∙ c.run_finish.ensures.end (λ i. 0) ∙ ap (λ (r : Handled _). r.end) same in
    let there : handling_of g.row.SIZE c.run_finish.new.self c.run_finish.new.state ≡ ran.handling = c.run_finish.ensures.handling (λ i. 0) ∙ ap (λ (r : Handled _). r.handling) same in
    let whole : nat_eq s.failed 0 ≡ true = whole-test s.failed (omega (arith, c.if-state-ne0.false)) in
    (λ j. value_of (ended j) (there j)) ∙ ap (λ (b : Bool). if b then value_of ran.end ran.handling else NO_VALUE) (sym whole)

pub returns-in-Ok : goal.returns-in-Ok
returns-in-Ok g c = gives g (goal.at.returns-in-Ok g c).After-run_finish _ c.in-Ok.is

pub returns-in-Err : goal.returns-in-Err
returns-in-Err g c = gives g (goal.at.returns-in-Err g c).After-run_finish _ c.in-Err.is
