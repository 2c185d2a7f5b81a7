use Rattle.std.proofs.Common.{◌≡◌, ℕ, ◌<◌, ◌≤◌, ◌∙◌, inl, inr, List, [], map, length, ap, sym, subst, refl, arith}
use Rattle.std.specs.List.{All}
use Rattle.vt_key.specs.promise.Times.{TimeBefore}
use Rattle.vt_key.specs.declared.letter.Letter.{Letter}
use Rattle.vt_key.specs.declared.letter.Sign.TheVariants.{Plus, Minus}
use Rattle.vt_stream.specs.inside.Words.{Stream}
use Rattle.vt_model.specs.declared.sending.Sent.{Sent}
use Rattle.vt_model.specs.inside.Handler.{IsFresh}
use Rattle.vt_model.specs.inside.Process.{triple_at, IsProcessStream}
use Rattle.vt_key.specs.declared.limits.TheConstants.{MAX_COUNT}
use Rattle.vt_model.specs.promise.Simulation.{Triple, simulation_of}
use Rattle.vt_model.specs.inside.Simulation.{IsFiring}
use Rattle.vt_model.proofs.LawLemmas.{lawful_of}
use Rattle.vt_model.specs.promise.Settings.{end_of}
use Rattle.vt_steps.specs.promise.Letters.{unstamped, stamped, signed}
use Rattle.vt_lp.specs.inside.Held.{AllWithinRun, IsReady}
use Rattle.vt_model.proofs.Sizes.{out_fits}
use Rattle.vt_lp.proofs.Stamping.{letters-all, letters-within}
use Rattle.vt_lp.proofs.Advancing.{remembers, few-records, stream-back, stream-stays}
use Rattle.vt_lp.proofs.executing.advance.Given.{Over}
use Rattle.vt_lp.proofs.executing.advance.Goals as goal
use Rattle.vt_lp.proofs.executing.advance.Goals.{After-execute_into-drawn, then-number-gt-MAX_COUNT-via-then-number-gt-MAX_COUNT, then-number-gt-MAX_COUNT-via-else-number-gt-MAX_COUNT+then-not-is_counted}

pub number-requires : goal.number-requires
number-requires g c = out_fits _ _ g.met.M.Model.payload_align g.met.M.Model.payload_size

pub sends-requires : goal.sends-requires
sends-requires g c = out_fits _ _ g.met.M.Model.payload_align g.met.M.Model.payload_size

pub sends-requires-2 : goal.sends-requires-2
sends-requires-2 g c = out_fits _ _ g.met.M.Model.payload_align g.met.M.Model.payload_size

pub renew-requires : goal.renew-requires
renew-requires g c =
    let early = subst (λ t. TimeBefore t (end_of c.args.config)) (sym c.when.ensures) c.requires.early in
    (out_fits _ _ g.met.M.Model.payload_align g.met.M.Model.payload_size, (c.requires.known, (early, c.requires.numbered)))

pub execute_into-drawn-requires-send-M-Payload : goal.execute_into-drawn-requires-send-M-Payload
execute_into-drawn-requires-send-M-Payload g c = λ _ _. c.type_bounds.send-M-Payload

pub execute_into-drawn-requires-after_bounds : goal.execute_into-drawn-requires-after_bounds
execute_into-drawn-requires-after_bounds g c κs within =
    let config = c.args.config in let event = c.args.event in let number = c.args.process.now.number in
    let fresh = subst (IsFresh c.renew.new.self event.dest) c.when.ensures c.renew.ensures.fresh in
    let whole = c.renew.ensures.whole ∙ (λ j. record { lps = config.lps; end = end_of config; lp = event.dest; time = c.when.ensures j; first = number; number = number; sends = []; records = [] }) in (
      out_fits _ _ g.met.M.Model.payload_align g.met.M.Model.payload_size,
      subst (λ (sent : Sent _). (sent.dest < config.lps) × (IsProcessStream config.seed sent.dest c.args.process.now.stream × (IsFresh c.renew.new.self sent.dest sent.key.time
          × (c.renew.new.self ≡ record { lps = config.lps; end = end_of config; lp = sent.dest; time = sent.key.time; first = number; number = number; sends = []; records = [] }))))
          (sym c.unstamped-sent.ensures) (c.requires.known, (c.requires.stream, (fresh, whole))),
    )

-- what the execution came to, said of this event
abbrev CameTo : (g : Over) (c : After-execute_into-drawn g) → Sent g.row.M-Payload.Denot → Type 0
CameTo g c sent =
    let handlers = g.M.Model.handlers c.args.model.now in
    let p = c.args.process.now in
    let after = c.execute_into-drawn.new.self in
    let undo = c.execute_into-drawn.result in
    IsFiring ((simulation_of handlers c.args.config).fire sent.dest (triple_at p.state p.number p.stream) sent) sent.key after.state after.stream c.execute_into-drawn.new.out
    × (g.M.Model.IsState c.args.model.now p.state → handlers.reverse sent.dest sent.key.time sent.payload after.state undo.bits undo.kept ≡ p.state)

came_to : (g : Over) (c : After-execute_into-drawn g) → CameTo g c (unstamped c.args.event)
came_to g c = subst (CameTo g c) c.unstamped-sent.ensures (c.execute_into-drawn.ensures.fires, c.execute_into-drawn.ensures.undoes)

pub returns-clause-remembered : goal.returns-clause-remembered
returns-clause-remembered g c ok =
    let config = c.args.config in
    let event = c.args.event in
    let sim = simulation_of (g.M.Model.handlers c.args.model.now) config in
    let p = c.args.process.now in
    let t = triple_at p.state p.number p.stream in
    let fired = sim.fire event.dest t (unstamped event) in
    let came = came_to g (goal.at.returns-clause-remembered g c).After-execute_into-drawn in
    let sends = c.sends-2.ensures ∙ came.0.sends in
    remembers (g.M.Model.handlers c.args.model.now) config event.dest c.owner-worker.result c.args.serial event t
    (triple_at c.execute_into-drawn.new.self.state c.execute_into-drawn.new.self.number c.execute_into-drawn.new.self.stream) _ _
    ((λ j. record { state = c.execute_into-drawn.new.self.state; number = c.execute_into-drawn.ensures.number j; place = c.execute_into-drawn.new.self.stream.place }) ∙ came.0.triple)
    (came.1 ok) refl c.execute_into-drawn.ensures.in_range c.execute_into-drawn.ensures.few
    (ap (λ (w : Stream). w.place) c.execute_into-drawn.ensures.stream)
    (c.in-Ok.ensures.anti_messages ∙ ap (λ (xs : List (Sent _)). map (signed Minus) (stamped c.owner-worker.result c.args.serial xs)) sends)
    came.0.rows

pub returns-clause-ready : goal.returns-clause-ready
returns-clause-ready g c =
    let config = c.args.config in
    let event = c.args.event in
    let sim = simulation_of (g.M.Model.handlers c.args.model.now) config in
    let p = c.args.process.now in
    let t = triple_at p.state p.number p.stream in
    let fired = sim.fire event.dest t (unstamped event) in
    let sends = c.sends-2.ensures ∙ (came_to g (goal.at.returns-clause-ready g c).After-execute_into-drawn).0.sends in
    let lawful = lawful_of (g.M.Model.handlers c.args.model.now) config (g.met.M.Model.start_within c.args.model.now) (g.met.M.Model.forward_within c.args.model.now) in
    subst (λ (xs : List (Letter _)). All (IsReady config.lps (end_of config)) xs)
    (sym (c.in-Ok.ensures.anti_messages ∙ ap (λ (xs : List (Sent _)). map (signed Minus) (stamped c.owner-worker.result c.args.serial xs)) sends))
    (letters-all (IsReady config.lps (end_of config)) Minus c.owner-worker.result c.args.serial fired.sends
    (λ e m. record {
      within = record { known = lawful.known event.dest t (unstamped event) (unstamped e) c.requires.known m; soon = lawful.ends event.dest t (unstamped event) (unstamped e) c.requires.known m };
      minus = refl;
    }))

pub returns-clause-within : goal.returns-clause-within
returns-clause-within g c =
    let config = c.args.config in
    let event = c.args.event in
    let sim = simulation_of (g.M.Model.handlers c.args.model.now) config in
    let p = c.args.process.now in
    let t = triple_at p.state p.number p.stream in
    let fired = sim.fire event.dest t (unstamped event) in
    let sends = c.sends-2.ensures ∙ (came_to g (goal.at.returns-clause-within g c).After-execute_into-drawn).0.sends in
    let lawful = lawful_of (g.M.Model.handlers c.args.model.now) config (g.met.M.Model.start_within c.args.model.now) (g.met.M.Model.forward_within c.args.model.now) in
    subst (λ (xs : List (Letter _)). AllWithinRun config xs)
    (sym (c.in-Ok.ensures.messages ∙ ap (λ (xs : List (Sent _)). map (signed Plus) (stamped c.owner-worker.result c.args.serial xs)) sends))
    (letters-within config.lps (end_of config) Plus c.owner-worker.result c.args.serial fired.sends
    (λ d m. lawful.known event.dest t (unstamped event) d c.requires.known m) (λ d m. lawful.ends event.dest t (unstamped event) d c.requires.known m))

pub returns-then-number-gt-MAX_COUNT-clause-refused : goal.returns-then-number-gt-MAX_COUNT-clause-refused
returns-then-number-gt-MAX_COUNT-clause-refused g c =
    let fires = (came_to g (goal.at.returns-then-number-gt-MAX_COUNT-clause-refused g c).After-execute_into-drawn).0 in
    let number = ap (λ (t : Triple _). t.number) fires.triple in
    inl (
      refl,
      elim c.then-number-gt-MAX_COUNT.branch [
        | then-number-gt-MAX_COUNT-via-then-number-gt-MAX_COUNT w ↦ inl (omega (arith, w.if-number-gt-MAX_COUNT.true, c.number.ensures, number))
        | then-number-gt-MAX_COUNT-via-else-number-gt-MAX_COUNT+then-not-is_counted w ↦
            let sends = ap length (w.sends.ensures ∙ fires.sends) in
            inr (grind (arith, w.is_counted.ensures, w.if-not-is_counted.true, sends))
      ],
    )

pub returns-in-Err-clause-refused : goal.returns-in-Err-clause-refused
returns-in-Err-clause-refused g c =
    let fires = (came_to g (goal.at.returns-in-Err-clause-refused g c).After-execute_into-drawn).0 in
    let number = ap (λ (t : Triple _). t.number) fires.triple in
    let sends = ap length (c.sends.ensures ∙ fires.sends) in
    inr (c.in-Err.ensures.refused, omega (arith, c.if-number-gt-MAX_COUNT.false, c.number.ensures, number), grind (arith, c.is_counted.ensures, c.if-not-is_counted.false, sends))

pub returns-clause-triple : goal.returns-clause-triple
returns-clause-triple g c =
    (λ j. record { state = c.execute_into-drawn.new.self.state; number = c.execute_into-drawn.ensures.number j; place = c.execute_into-drawn.new.self.stream.place }) ∙ (came_to g (goal.at.returns-clause-triple g c).After-execute_into-drawn).0.triple

pub returns-clause-messages : goal.returns-clause-messages
returns-clause-messages g c =
    c.in-Ok.ensures.messages ∙ (λ j. map (signed Plus) (stamped (c.owner-worker.ensures.value j) c.args.serial ((c.sends-2.ensures ∙ (came_to g (goal.at.returns-clause-messages g c).After-execute_into-drawn).0.sends) j)))

pub returns-clause-anti_messages : goal.returns-clause-anti_messages
returns-clause-anti_messages g c =
    c.in-Ok.ensures.anti_messages ∙ (λ j. map (signed Minus) (stamped (c.owner-worker.ensures.value j) c.args.serial ((c.sends-2.ensures ∙ (came_to g (goal.at.returns-clause-anti_messages g c).After-execute_into-drawn).0.sends) j)))

pub returns-clause-few : goal.returns-clause-few
returns-clause-few g c = c.execute_into-drawn.ensures.few

pub returns-clause-few_records : goal.returns-clause-few_records
returns-clause-few_records g c =
    let p = c.args.process.now in
    few-records (g.M.Model.handlers c.args.model.now) c.args.config (g.met.M.Model.forward_within c.args.model.now) c.args.event.dest (triple_at p.state p.number p.stream) (unstamped c.args.event) _
    c.requires.known (came_to g (goal.at.returns-clause-few_records g c).After-execute_into-drawn).0.rows

pub returns-clause-few_sends : goal.returns-clause-few_sends
returns-clause-few_sends g c = c.requires.numbered

pub returns-clause-numbered : goal.returns-clause-numbered
returns-clause-numbered g c = subst (λ (n : ℕ). n ≤ MAX_COUNT) (c.number.ensures ∙ sym c.execute_into-drawn.ensures.number) c.if-number-gt-MAX_COUNT.false

pub returns-clause-stream : goal.returns-clause-stream
returns-clause-stream g c = stream-stays _ c.args.process.now.stream c.execute_into-drawn.new.self.stream c.execute_into-drawn.ensures.stream c.requires.stream

pub returns-clause-drew : goal.returns-clause-drew
returns-clause-drew g c = (refl, c.execute_into-drawn.ensures.stream)

pub returns-then-number-gt-MAX_COUNT-clause-numbered : goal.returns-then-number-gt-MAX_COUNT-clause-numbered
returns-then-number-gt-MAX_COUNT-clause-numbered g c = subst (λ (n : ℕ). n ≤ MAX_COUNT) (sym c.undo.ensures.number) c.requires.numbered

pub returns-then-number-gt-MAX_COUNT-clause-stream : goal.returns-then-number-gt-MAX_COUNT-clause-stream
returns-then-number-gt-MAX_COUNT-clause-stream g c =
    subst (IsProcessStream c.args.config.seed c.args.event.dest)
    (sym (c.undo.ensures.stream ∙ stream-back c.args.process.now.stream c.execute_into-drawn.new.self.stream c.execute_into-drawn.result.drawn c.execute_into-drawn.ensures.in_range c.execute_into-drawn.ensures.few c.execute_into-drawn.ensures.stream)) c.requires.stream

pub returns-then-number-gt-MAX_COUNT-clause-but_state : goal.returns-then-number-gt-MAX_COUNT-clause-but_state
returns-then-number-gt-MAX_COUNT-clause-but_state g c =
    (c.undo.ensures.number, c.undo.ensures.stream ∙ stream-back c.args.process.now.stream c.execute_into-drawn.new.self.stream c.execute_into-drawn.result.drawn c.execute_into-drawn.ensures.in_range c.execute_into-drawn.ensures.few c.execute_into-drawn.ensures.stream)

pub returns-then-number-gt-MAX_COUNT-clause-unchanged : goal.returns-then-number-gt-MAX_COUNT-clause-unchanged
returns-then-number-gt-MAX_COUNT-clause-unchanged g c ok =
    let stream = c.undo.ensures.stream ∙ stream-back c.args.process.now.stream c.execute_into-drawn.new.self.stream c.execute_into-drawn.result.drawn c.execute_into-drawn.ensures.in_range c.execute_into-drawn.ensures.few c.execute_into-drawn.ensures.stream in
    let state = c.undo.ensures.state ∙ c.execute_into-drawn.ensures.undoes ok in
    λ j. record { stream = stream j; number = c.undo.ensures.number j; state = state j }

pub returns-in-Err-clause-numbered : goal.returns-in-Err-clause-numbered
returns-in-Err-clause-numbered g c = subst (λ (n : ℕ). n ≤ MAX_COUNT) (sym c.undo-in-Err.ensures.number) c.requires.numbered

pub returns-in-Err-clause-stream : goal.returns-in-Err-clause-stream
returns-in-Err-clause-stream g c =
    subst (IsProcessStream c.args.config.seed c.args.event.dest)
    (sym (c.undo-in-Err.ensures.stream ∙ stream-back c.args.process.now.stream c.execute_into-drawn.new.self.stream c.execute_into-drawn.result.drawn c.execute_into-drawn.ensures.in_range c.execute_into-drawn.ensures.few c.execute_into-drawn.ensures.stream)) c.requires.stream

pub returns-in-Err-clause-but_state : goal.returns-in-Err-clause-but_state
returns-in-Err-clause-but_state g c =
    (c.undo-in-Err.ensures.number, c.undo-in-Err.ensures.stream ∙ stream-back c.args.process.now.stream c.execute_into-drawn.new.self.stream c.execute_into-drawn.result.drawn c.execute_into-drawn.ensures.in_range c.execute_into-drawn.ensures.few c.execute_into-drawn.ensures.stream)

pub returns-in-Err-clause-unchanged : goal.returns-in-Err-clause-unchanged
returns-in-Err-clause-unchanged g c ok =
    let stream = c.undo-in-Err.ensures.stream ∙ stream-back c.args.process.now.stream c.execute_into-drawn.new.self.stream c.execute_into-drawn.result.drawn c.execute_into-drawn.ensures.in_range c.execute_into-drawn.ensures.few c.execute_into-drawn.ensures.stream in
    let state = c.undo-in-Err.ensures.state ∙ c.execute_into-drawn.ensures.undoes ok in
    λ j. record { stream = stream j; number = c.undo-in-Err.ensures.number j; state = state j }
