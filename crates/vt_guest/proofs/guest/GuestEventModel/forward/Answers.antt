use Rattle.std.proofs.Common.{◌≡◌, [], ◌∷◌, Bool, true, ◌∙◌, nat_eq, if◌then◌else◌, sym, ap, arith, Result}
use Rattle.vt_stream.specs.inside.Words.{word_of}
use Rattle.vt_model.specs.inside.Sends.{with_requests}
use Rattle.vt_guest.specs.declared.trap.TheConstants.{TRAP}
use Rattle.vt_guest.specs.declared.trap.Reason.{Reason}
use Rattle.vt_guest.specs.declared.calls.Handler.TheVariants.{Forward}
use Rattle.vt_guest.specs.declared.calls.Progress.{Progress}
use Rattle.vt_guest.specs.inside.Progresses.{handling_of}
use Rattle.vt_guest.specs.promise.Handling.{Handled, begun, handled}
use Rattle.vt_guest.specs.promise.Handlers.{host_of, event_gives, trap_gives, event_run, guest_forward}
use Rattle.vt_guest.proofs.RunLemmas.{took_back}
use Rattle.vt_guest.proofs.TrapLemmas.{whole-test}
use Rattle.vt_guest.proofs.guest.GuestEventModel.forward.Goals.{After-run}
use Rattle.vt_guest.proofs.guest.GuestEventModel.forward.Given.{Over}
use Rattle.vt_guest.proofs.guest.GuestEventModel.forward.Goals as goal

-- the event
abbrev own : (g : Over) (c : After-run g) → Handled g.row.SIZE
own g c = event_run c.args.self.now c.args.out.now.lps c.args.lp c.args.now c.args.payload c.args.state.now (word_of c.args.draws.now.stream.now)

-- what was run is the event's handler
same : (g : Over) (c : After-run g) → handled c.args.self.now.program.code c.host-host.result (word_of c.args.draws.now.stream.now) c.begin-progress.result.left (handling_of g.row.SIZE c.begin-progress.result c.args.state.now.bytes) [] [] ≡ own g c
same g c =
    let m = c.args.self.now in
    let host = c.host-host.ensures ∙ (λ j. host_of m.program Forward (c.lps.ensures j) (c.priority.ensures j)) in
    let begins = ap (λ (p : Progress). handling_of g.row.SIZE p c.args.state.now.bytes) c.begin-progress.ensures ∙ (λ j. begun m.program.forward m.program.fuel c.args.lp (c.ticks.ensures j) (c.priority-2.ensures j) c.args.payload c.args.state.now.bytes) in
    λ j. handled m.program.code (host j) (word_of c.args.draws.now.stream.now) (begins j).left (begins j) [] []

-- and gives what the event gives
gives : (g : Over) (c : After-run g) (end : Result (Unit {0}) Reason) → c.run.result ≡ end
    → event_gives c.args.state.now end (handling_of g.row.SIZE c.run.new.self c.run.new.state) (own g c).sends (own g c).notes ≡ guest_forward c.args.self.now c.args.out.now.lps c.args.lp c.args.now c.args.payload c.args.state.now (word_of c.args.draws.now.stream.now)
gives g c end is =
    let s = c.args.state.now in
    let ran = own g c in
    let ended : end ≡ ran.end = sym is ∙ c.run.ensures.end ∙ ap (λ (r : Handled _). r.end) (same g c) in
    let there : handling_of g.row.SIZE c.run.new.self c.run.new.state ≡ ran.handling = c.run.ensures.handling ∙ ap (λ (r : Handled _). r.handling) (same g c) in
    let whole : nat_eq s.failed 0 ≡ true = whole-test s.failed (omega (arith, c.if-before-ne0.false)) in
    (λ j. event_gives s (ended j) (there j) ran.sends ran.notes) ∙ ap (λ (b : Bool). if b then event_gives s ran.end ran.handling ran.sends ran.notes else trap_gives s 0 s.failed) (sym whole)

pub returns-in-Err-clause-out : goal.returns-in-Err-clause-out
returns-in-Err-clause-out g c =
    let o = c.args.out.now in
    let is = gives g (goal.at.returns-in-Err-clause-out g c).After-run _ c.in-Err.is in
    let back : c.take_back.new.self ≡ o = c.take_back.ensures ∙ took_back o c.run.new.out _ _ c.run.ensures.out c.requires.fresh.number c.requires.fresh.sends c.requires.fresh.records in
    c.emit-in-Err.ensures
    ∙ (λ j. with_requests (back j) [] (record { kind = TRAP; value = c.trap_value.ensures j } ∷ []))
    ∙ (λ j. with_requests o (is j).send_requests (is j).record_requests)
