use Rattle.std.proofs.Common.{◌≡◌, ◌∙◌, ◌<◌, ℕ, inl, inr, List, [], map, length, ap, sym, subst, refl, arith}
use Rattle.std.specs.List.{All}
use Rattle.vt_key.specs.promise.Times.{TimeBefore}
use Rattle.vt_key.specs.declared.letter.Sign.TheVariants.{Minus}
use Rattle.vt_stream.specs.inside.Words.{Stream}
use Rattle.vt_model.specs.declared.sending.Sent.{Sent}
use Rattle.vt_model.specs.inside.Handler.{IsFresh}
use Rattle.vt_model.specs.inside.Process.{triple_at, IsProcessStream}
use Rattle.vt_model.specs.promise.Simulation.{Triple, simulation_of}
use Rattle.vt_model.specs.inside.Simulation.{IsFiring}
use Rattle.vt_model.specs.promise.Settings.{end_of}
use Rattle.vt_model.proofs.LawLemmas.{lawful_of}
use Rattle.vt_model.proofs.Sizes.{out_fits}
use Rattle.vt_steps.specs.promise.Letters.{unstamped, stamped, signed}
use Rattle.vt_lp.specs.inside.Held.{IsReady}
use Rattle.vt_lp.proofs.Stamping.{letters-all}
use Rattle.vt_lp.proofs.Advancing.{remembers, few-records, stream-back}
use Rattle.vt_pool.proofs.executing.fire.Given.{Over}
use Rattle.vt_pool.proofs.executing.fire.Goals.{After-execute_into-drawn, After-undo}
use Rattle.vt_pool.proofs.executing.fire.Goals as goal

pub number-requires : goal.number-requires
number-requires g c = out_fits _ _ g.met.M.Model.payload_align g.met.M.Model.payload_size

pub sends-requires : goal.sends-requires
sends-requires g c = out_fits _ _ g.met.M.Model.payload_align g.met.M.Model.payload_size

pub renew-requires : goal.renew-requires
renew-requires g c =
    let early = subst (λ t. TimeBefore t (end_of c.args.config)) (sym c.when.ensures) c.requires.early in
    (out_fits _ _ g.met.M.Model.payload_align g.met.M.Model.payload_size, (c.requires.known, (early, c.requires.numbered)))

pub execute_into-drawn-requires-send-M-Payload : goal.execute_into-drawn-requires-send-M-Payload
execute_into-drawn-requires-send-M-Payload g c = λ _ _. c.type_bounds.send-M-Payload

pub execute_into-drawn-requires-after_bounds : goal.execute_into-drawn-requires-after_bounds
execute_into-drawn-requires-after_bounds g c κs within =
    let config = c.args.config in let event = c.args.event.now in let number = c.args.process.now.number in
    let fresh = subst (IsFresh c.renew.new.self event.dest) c.when.ensures c.renew.ensures.fresh in
    let whole = c.renew.ensures.whole ∙ (λ j. record { lps = config.lps; end = end_of config; lp = event.dest; time = c.when.ensures j; first = number; number = number; sends = []; records = [] }) in (
      out_fits _ _ g.met.M.Model.payload_align g.met.M.Model.payload_size,
      subst (λ (sent : Sent _). (sent.dest < config.lps) × (IsProcessStream config.seed sent.dest c.args.process.now.stream × (IsFresh c.renew.new.self sent.dest sent.key.time
          × (c.renew.new.self ≡ record { lps = config.lps; end = end_of config; lp = sent.dest; time = sent.key.time; first = number; number = number; sends = []; records = [] }))))
          (sym c.unstamped-sent.ensures) (c.requires.known, (c.requires.stream, (fresh, whole))),
    )

-- what the execution came to, said of this event
abbrev CameTo : (g : Over) (c : After-execute_into-drawn g) → Sent g.row.M-Payload.Denot → Type 0
CameTo g c sent =
    let handlers = g.M.Model.handlers c.args.model.now in
    let p = c.args.process.now in
    let after = c.execute_into-drawn.new.self in
    let undo = c.execute_into-drawn.result in
    IsFiring ((simulation_of handlers c.args.config).fire sent.dest (triple_at p.state p.number p.stream) sent) sent.key after.state after.stream c.execute_into-drawn.new.out
    × (g.M.Model.IsState c.args.model.now p.state → handlers.reverse sent.dest sent.key.time sent.payload after.state undo.bits undo.kept ≡ p.state)

came_to : (g : Over) (c : After-execute_into-drawn g) → CameTo g c (unstamped c.args.event.now)
came_to g c = subst (CameTo g c) c.unstamped-sent.ensures (c.execute_into-drawn.ensures.fires, c.execute_into-drawn.ensures.undoes)

-- where the process stands after it
triple-now : (g : Over) (c : After-execute_into-drawn g) → let p = c.args.process.now in
    triple_at c.execute_into-drawn.new.self.state c.execute_into-drawn.new.self.number c.execute_into-drawn.new.self.stream
    ≡ ((simulation_of (g.M.Model.handlers c.args.model.now) c.args.config).fire c.args.event.now.dest (triple_at p.state p.number p.stream) (unstamped c.args.event.now)).triple
triple-now g c = (λ j. record { state = c.execute_into-drawn.new.self.state; number = c.execute_into-drawn.ensures.number j; place = c.execute_into-drawn.new.self.stream.place }) ∙ (came_to g c).0.triple

pub returns-clause-remembered : goal.returns-clause-remembered
returns-clause-remembered g c ok w =
    let at = (goal.at.returns-clause-remembered g c).After-execute_into-drawn in
    let event = c.args.event.now in
    let p = c.args.process.now in
    let t = triple_at p.state p.number p.stream in
    let came = came_to g at in
    remembers (g.M.Model.handlers c.args.model.now) c.args.config event.dest w c.args.serial event t
    (triple_at c.execute_into-drawn.new.self.state c.execute_into-drawn.new.self.number c.execute_into-drawn.new.self.stream) _ _
    (triple-now g at) (came.1 ok) refl c.execute_into-drawn.ensures.in_range c.execute_into-drawn.ensures.few
    (ap (λ (v : Stream). v.place) c.execute_into-drawn.ensures.stream)
    (ap (λ (xs : List (Sent _)). map (signed Minus) (stamped w c.args.serial xs)) came.0.sends)
    came.0.rows

pub returns-clause-fired : goal.returns-clause-fired
returns-clause-fired g c =
    let at = (goal.at.returns-clause-fired g c).After-execute_into-drawn in
    let handlers = g.M.Model.handlers c.args.model.now in
    let config = c.args.config in
    let event = c.args.event.now in
    let p = c.args.process.now in
    let t = triple_at p.state p.number p.stream in
    let came = came_to g at in
    let lawful = lawful_of handlers config (g.met.M.Model.start_within c.args.model.now) (g.met.M.Model.forward_within c.args.model.now) in
    let count = ap length came.0.sends in
    let few = lawful.few event.dest t (unstamped event) c.requires.known in
    let counts = c.in_default.ensures.counted in
    let ready : (w : ℕ) → All (IsReady config.lps (end_of config)) (map (signed Minus) (stamped w c.args.serial c.execute_into-drawn.new.out.sends)) =
    λ w. subst (λ (xs : List (Sent _)). All (IsReady config.lps (end_of config)) (map (signed Minus) (stamped w c.args.serial xs))) (sym came.0.sends)
    (letters-all (IsReady config.lps (end_of config)) Minus w c.args.serial _
    (λ e m. record { within = record { known = lawful.known event.dest t (unstamped event) (unstamped e) c.requires.known m; soon = lawful.ends event.dest t (unstamped event) (unstamped e) c.requires.known m }; minus = refl })) in
    record {
      event_is = refl;
      serial_is = refl;
      triple = triple-now g at;
      sends_are = came.0.sends;
      own = λ w. record { own = record { dest = refl; soon = c.requires.early; signed = refl }; few = c.execute_into-drawn.ensures.few; numbered = c.requires.numbered; ready = ready w };
      few_sends = omega (arith, count, few);
      few_records = few-records handlers config (g.met.M.Model.forward_within c.args.model.now) event.dest t (unstamped event) _ c.requires.known came.0.rows;
      numbered = omega (arith, counts.0, c.number.ensures, c.execute_into-drawn.ensures.number);
      counted = omega (arith, counts.1, ap length c.sends.ensures);
    }

pub returns-clause-stream : goal.returns-clause-stream
returns-clause-stream g c = (let moved = c.execute_into-drawn.ensures.stream in (ap (λ (v : Stream). v.key) moved, ap (λ (v : Stream). v.process) moved))

-- the stream is as before once the event is undone
stream-again : (g : Over) (c : After-undo g) → c.undo.new.self.stream ≡ c.args.process.now.stream
stream-again g c =
    c.undo.ensures.stream
    ∙ stream-back c.args.process.now.stream c.execute_into-drawn.new.self.stream c.execute_into-drawn.result.drawn c.execute_into-drawn.ensures.in_range c.execute_into-drawn.ensures.few c.execute_into-drawn.ensures.stream

pub returns-in-Err-clause-stream : goal.returns-in-Err-clause-stream
returns-in-Err-clause-stream g c = (let same = stream-again g (goal.at.returns-in-Err-clause-stream g c).After-undo in (ap (λ (v : Stream). v.key) same, ap (λ (v : Stream). v.process) same))

pub returns-in-Err-clause-but_state : goal.returns-in-Err-clause-but_state
returns-in-Err-clause-but_state g c = (c.undo.ensures.number, stream-again g (goal.at.returns-in-Err-clause-but_state g c).After-undo)

pub returns-in-Err-clause-unchanged : goal.returns-in-Err-clause-unchanged
returns-in-Err-clause-unchanged g c ok =
    let at = goal.at.returns-in-Err-clause-unchanged g c in
    let stream = stream-again g at.After-undo in
    let state : c.undo.new.self.state ≡ c.args.process.now.state = c.undo.ensures.state ∙ c.execute_into-drawn.ensures.undoes ok in
    λ j. record { stream = stream j; number = c.undo.ensures.number j; state = state j }

pub returns-in-Err-clause-refused : goal.returns-in-Err-clause-refused
returns-in-Err-clause-refused g c =
    let at = (goal.at.returns-in-Err-clause-refused g c).After-execute_into-drawn in
    let number = ap (λ (t : Triple _). t.number) (triple-now g at) in
    let told = c.number.ensures in
    let own = c.execute_into-drawn.ensures.number in
    let sends = ap length (c.sends.ensures ∙ (came_to g at).0.sends) in
    elim c.in-Err.ensures.refused [
      | inl x ↦ inl (
        x.0,
        elim x.1 [
          | inl m ↦ inl (omega (arith, m, number, told, own))
          | inr m ↦ inr (omega (arith, m, sends))
        ],
      )
      | inr x ↦ (let few = x.1 in let counted = x.2 in inr (x.0, omega (arith, few, number, told, own), omega (arith, counted, sends)))
    ]
