use Rattle.std.proofs.Common.{◌≡◌, ℕ, [], ◌∙◌, sym, ap, Result}
use Rattle.vt_stream.specs.inside.Words.{word_of}
use Rattle.vt_model.specs.promise.Handler.{StartResult}
use Rattle.vt_model.specs.inside.Sends.{with_requests}
use Rattle.vt_guest.specs.declared.trap.Reason.{Reason}
use Rattle.vt_guest.specs.declared.calls.Handler.TheVariants.{Start}
use Rattle.vt_guest.specs.declared.calls.Progress.{Progress}
use Rattle.vt_guest.specs.inside.Progresses.{handling_of}
use Rattle.vt_guest.specs.promise.Handling.{Handled, handled}
use Rattle.vt_guest.specs.promise.Handlers.{host_of, start_gives, start_run, guest_start}
use Rattle.vt_guest.specs.inside.Laws.{start_notes}
use Rattle.vt_guest.proofs.guest.GuestEventModel.start.Goals.{After-run}
use Rattle.vt_guest.proofs.guest.GuestEventModel.start.Given.{Over}
use Rattle.vt_guest.proofs.guest.GuestEventModel.start.Goals as goal

-- the start
abbrev own : (g : Over) (c : After-run g) → Handled g.row.SIZE
own g c = start_run c.args.self.now c.args.out.now.lps c.args.lp (word_of c.args.draws.now.stream.now)

-- what was run is the handler of the start
same : (g : Over) (c : After-run g) → handled c.args.self.now.program.code c.host-host.result (word_of c.args.draws.now.stream.now) c.begin-progress.result.left (handling_of g.row.SIZE c.begin-progress.result c.args.self.now.first) [] [] ≡ own g c
same g c =
    let m = c.args.self.now in
    let host = c.host-host.ensures ∙ ap (λ (l : ℕ). host_of m.program Start l 0) c.lps.ensures in
    let begins = ap (λ (p : Progress). handling_of g.row.SIZE p m.first) c.begin-progress.ensures in
    λ j. handled m.program.code (host j) (word_of c.args.draws.now.stream.now) (begins j).left (begins j) [] []

-- and gives what the start gives
gives : (g : Over) (c : After-run g) (end : Result (Unit {0}) Reason) → c.run.result ≡ end
    → start_gives c.args.lp c.args.self.now.first end (handling_of g.row.SIZE c.run.new.self c.run.new.state) (own g c).sends ≡ guest_start c.args.self.now c.args.out.now.lps c.args.lp (word_of c.args.draws.now.stream.now)
gives g c end is =
    let ended = sym is ∙ c.run.ensures.end ∙ ap (λ (r : Handled _). r.end) (same g c) in
    let there = c.run.ensures.handling ∙ ap (λ (r : Handled _). r.handling) (same g c) in
    λ j. start_gives c.args.lp c.args.self.now.first (ended j) (there j) (own g c).sends

pub returns-in-Ok-clause-out : goal.returns-in-Ok-clause-out
returns-in-Ok-clause-out g c =
    let k = (goal.at.returns-in-Ok-clause-out g c).After-run in
    let none = start_notes c.args.self.now c.args.out.now.lps c.args.lp (word_of c.args.draws.now.stream.now) in
    let is = gives g k _ c.in-Ok.is in
    c.run.ensures.out
    ∙ (λ j. with_requests c.args.out.now (same g k j).sends (same g k j).notes)
    ∙ (λ j. with_requests c.args.out.now (is j).send_requests (none j))

pub returns-in-Err-clause-state : goal.returns-in-Err-clause-state
returns-in-Err-clause-state g c =
    (λ j. record { bytes = c.args.self.now.first; failed = c.trap_value.ensures j })
    ∙ ap (λ (r : StartResult _ _). r.state) (gives g (goal.at.returns-in-Err-clause-state g c).After-run _ c.in-Err.is)
