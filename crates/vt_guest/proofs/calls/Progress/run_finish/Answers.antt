use Rattle.std.proofs.Common.{◌≡◌, ℕ, suc, ◌-◌, ◌∙◌, [], ◌⊎◌, inl, inr, sym, ap, arith}
use Rattle.vt_guest.specs.declared.trap.Reason.TheVariants.{TooMany}
use Rattle.vt_guest.specs.declared.calls.Next.{Next}
use Rattle.vt_guest.specs.declared.calls.Next.TheVariants.{On, Draw, Send, Emit, Ended, Trapped}
use Rattle.vt_guest.specs.promise.Calls.{most_draws, most_sends, most_records}
use Rattle.vt_guest.specs.inside.Progresses.{handling_of}
use Rattle.vt_guest.specs.promise.Handling.{Handled, fails, followed, handled}
use Rattle.vt_guest.proofs.RunLemmas.{handled-as, handled-none, without_room}
use Rattle.vt_guest.proofs.calls.Progress.run_finish.Goals.{After-turn}
use Rattle.vt_guest.proofs.calls.Progress.run_finish.Given.{Over}
use Rattle.vt_guest.proofs.calls.Progress.run_finish.Goals as goal

-- the run goes on as its turn says
turned : (g : Over) (c : After-turn g) (was : Next) → c.turn.result ≡ was → (words : ℕ → ℕ)
    → followed (handled c.args.code.now c.args.host words (c.calls.calls - 1)) c.args.host words was (handling_of g.row.SIZE c.turn.new.self c.turn.new.state) [] [] ≡ handled c.args.code.now c.args.host words c.args.self.now.left (handling_of g.row.SIZE c.args.self.now c.args.state.now) [] []
turned g c was is words =
    let more : c.calls.calls ≡ suc (c.calls.calls - 1) = omega arith in
    sym (handled-as c.args.code.now c.args.host words [] [] c.calls.calls (c.calls.calls - 1) (handling_of g.row.SIZE c.calls.self c.calls.state) (handling_of g.row.SIZE c.turn.new.self c.turn.new.state) c.turn.result was more c.turn.ensures.next c.turn.ensures.handling is) ∙ c.calls.invariant words

pub calls-preserved : goal.calls-preserved
calls-preserved g c = λ words. turned g (goal.at.calls-preserved g c).After-turn On c.in-On.is words

-- a `finish` that draws, sends or records does too much
too_many : (g : Over) (c : After-turn g) → (c.turn.result ≡ Draw) ⊎ ((c.turn.result ≡ Send) ⊎ (c.turn.result ≡ Emit)) → (words : ℕ → ℕ)
    → fails TooMany (handling_of g.row.SIZE c.turn.new.self c.turn.new.state) [] [] ≡ handled c.args.code.now c.args.host words c.args.self.now.left (handling_of g.row.SIZE c.args.self.now c.args.state.now) [] []
too_many g c next words =
    let draws : most_draws c.args.host.handler ≡ 0 = ap most_draws c.requires in
    let sends : most_sends c.args.host.handler ≡ 0 = ap most_sends c.requires in
    let records : most_records c.args.host.handler ≡ 0 = ap most_records c.requires in
    elim next [
      | inl draw ↦ sym (without_room (most_draws c.args.host.handler) c.turn.new.self.drawn _ _ (omega (arith, draws))) ∙ turned g c Draw draw words
      | inr other ↦
          elim other [
            | inl send ↦ sym (without_room (most_sends c.args.host.handler) 0 _ _ (omega (arith, sends))) ∙ turned g c Send send words
            | inr emit ↦ sym (without_room (most_records c.args.host.handler) 0 _ _ (omega (arith, records))) ∙ turned g c Emit emit words
          ]
    ]

pub returns-in-Draw : goal.returns-in-Draw
returns-in-Draw g c =
    let is = too_many g (goal.at.returns-in-Draw g c).After-turn c.in-Draw.is in
    record { end = λ words. ap (λ (r : Handled _). r.end) (is words); handling = λ words. ap (λ (r : Handled _). r.handling) (is words) }

pub returns-in-Ended : goal.returns-in-Ended
returns-in-Ended g c =
    let is = turned g (goal.at.returns-in-Ended g c).After-turn Ended c.in-Ended.is in
    record { end = λ words. ap (λ (r : Handled _). r.end) (is words); handling = λ words. ap (λ (r : Handled _). r.handling) (is words) }

pub returns-in-Trapped : goal.returns-in-Trapped
returns-in-Trapped g c =
    let is = turned g (goal.at.returns-in-Trapped g c).After-turn (Trapped c.in-Trapped.reason) c.in-Trapped.is in
    record { end = λ words. ap (λ (r : Handled _). r.end) (is words); handling = λ words. ap (λ (r : Handled _). r.handling) (is words) }

pub returns : goal.returns
returns g c =
    let none : c.calls.calls ≡ 0 = omega arith in
    let is = λ (words : ℕ → ℕ). sym (handled-none c.args.code.now c.args.host words [] [] c.calls.calls (handling_of g.row.SIZE c.calls.self c.calls.state) none) ∙ c.calls.invariant words in
    record { end = λ words. ap (λ (r : Handled _). r.end) (is words); handling = λ words. ap (λ (r : Handled _). r.handling) (is words) }
