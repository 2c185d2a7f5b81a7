use Rattle.std.proofs.Common.{◌≡◌, ◌∙◌, ◌<◌, ◌+◌, ◌-◌, ◌≤◌, ◌%◌, ◌^◌, ◌++◌, ◌∷◌, inl, inr, List, [], map, length, sym, subst, refl, ap, arith}
use Rattle.std.specs.List.{All}
use Rattle.std.proofs.lemmas.List.Elements.{All-head, All-append}
use Rattle.vt_key.specs.declared.limits.TheConstants.{MAX_COUNT}
use Rattle.vt_key.specs.declared.fault.Fault.TheVariants.{NotLawful, Exhausted, Memory}
use Rattle.vt_key.specs.declared.letter.Letter.{Letter}
use Rattle.vt_key.specs.declared.letter.Sign.TheVariants.{Plus, Minus}
use Rattle.vt_stream.specs.inside.Words.{Stream}
use Rattle.vt_model.specs.declared.rows.Record.{Record}
use Rattle.vt_model.specs.declared.sending.Sent.{Sent}
use Rattle.vt_model.specs.inside.Process.{triple_at}
use Rattle.vt_model.specs.promise.Simulation.{Triple, simulation_of}
use Rattle.vt_model.proofs.LawLemmas.{after_state}
use Rattle.vt_model.specs.promise.Settings.{end_of}
use Rattle.vt_steps.specs.promise.Letters.{unstamped, stamped, signed}
use Rattle.vt_steps.specs.promise.World.{entry_events}
use Rattle.vt_steps.specs.promise.ProcessSteps.{execute_process}
use Rattle.vt_steps.proofs.steps.MemoryLemmas.{is_where}
use Rattle.vt_lp.specs.inside.Held.{HeldProcess, StandsFor, AllWithinRun, IsWithinRun, IsOwnLetter, process_memory}
use Rattle.vt_lp.specs.inside.Guards.{IsDone, IsExecuteRefusal}
use Rattle.vt_past.specs.inside.Events.{past_event}
use Rattle.vt_model.proofs.Sizes.{out_fits, first_out}
use Rattle.vt_lp.proofs.Advancing.{place-back}
use Rattle.vt_lp.proofs.Stamping.{length-letters}
use Rattle.vt_lp.proofs.ExecuteLemmas.{ready-some, ready-own, execute-none, executes, refuses, came-back, inside-at, inside-more}
use Rattle.vt_lp.proofs.ProcessView.{process_view}
use Rattle.vt_lp.proofs.lp.Lp.execute.Given.{Over}
use Rattle.vt_lp.proofs.lp.Lp.execute.Goals.{After-undo}
use Rattle.vt_lp.proofs.lp.Lp.execute.Goals as goal

pub returns-in_default-clause-refused : goal.returns-in_default-clause-refused
returns-in_default-clause-refused g c h s =
    let handlers = g.M.Model.handlers c.args.model.now in
    let l = c.self.inside in
    let held = process_view l.lp l.config l.process.state l.process.number l.process.stream l.past l.pending l.waiting in
    let w = l.lp % l.config.workers in
    let now = subst (λ (v : HeldProcess _ _ _). StandsFor handlers v h) (sym c.self.view_is) s in
    subst (λ (v : HeldProcess _ _ _). IsExecuteRefusal (simulation_of handlers v.config) v.lp c.args.serial.now (execute_process (simulation_of handlers v.config) v.lp (v.lp % v.config.workers) c.args.serial.now h) NotLawful) c.self.view_is
    (subst (λ step. IsExecuteRefusal (simulation_of handlers l.config) l.lp c.args.serial.now step NotLawful)
    (sym (execute-none handlers held w c.args.serial.now h (sym c.in_default.is ∙ c.ready_event.ensures.event) now)) refl)

pub new-out-requires : goal.new-out-requires
new-out-requires g c =
    let config = c.self.inside.config in
    first_out _ _ config g.met.M.Model.payload_align g.met.M.Model.payload_size (omega (arith, config.some_process)) c.tick.ensures

pub records-requires : goal.records-requires
records-requires g c = out_fits _ _ g.met.M.Model.payload_align g.met.M.Model.payload_size

pub advance-requires-send-M-Payload : goal.advance-requires-send-M-Payload
advance-requires-send-M-Payload g c = λ _ _. c.type_bounds.send-M-Payload

pub advance-requires-after_bounds : goal.advance-requires-after_bounds
advance-requires-after_bounds g c κs within =
    let l = c.self.inside in
    let inside = c.self.invariant in
    let event = c.in-Some.event in
    let own = ready-own l.lp (end_of l.config) l.pending l.past event inside.own_pending c.in-Some.ensures.event in
    let at_own = own.0 in
    let known : event.dest < l.config.lps = omega (arith, at_own, inside.known) in
    (out_fits _ _ g.met.M.Model.payload_align g.met.M.Model.payload_size, (known, (own.1, (inside.few_sends, record { key = inside.own_stream.key; process = inside.own_stream.process ∙ sym own.0 }))))

pub invariant_of-self : goal.invariant_of-self
invariant_of-self g c =
    let l = c.self.inside in
    let inside = c.self.invariant in
    let event = c.in-Some.event in
    let own = ready-own l.lp (end_of l.config) l.pending l.past event inside.own_pending c.in-Some.ensures.event in
    inside-at l.config l.lp l.process.number _ l.process.stream _ l.past l.pending l.waiting l.pending l.past inside c.advance.ensures.numbered
    (record { key = c.advance.ensures.stream.key; process = c.advance.ensures.stream.process ∙ own.0 }) refl refl

pub returns-in-Err-clause-refused : goal.returns-in-Err-clause-refused
returns-in-Err-clause-refused g c h s =
    let handlers = g.M.Model.handlers c.args.model.now in
    let l = c.self.inside in
    let inside = c.self.invariant in
    let held = process_view l.lp l.config l.process.state l.process.number l.process.stream l.past l.pending l.waiting in
    let w = l.lp % l.config.workers in
    let event = c.in-Some.event in
    let own = ready-own l.lp (end_of l.config) l.pending l.past event inside.own_pending c.in-Some.ensures.event in
    let now = subst (λ (v : HeldProcess _ _ _). StandsFor handlers v h) (sym c.self.view_is) s in
    subst (λ (v : HeldProcess _ _ _). IsExecuteRefusal (simulation_of handlers v.config) v.lp c.args.serial.now (execute_process (simulation_of handlers v.config) v.lp (v.lp % v.config.workers) c.args.serial.now h) c.in-Err.fault) c.self.view_is
    (refuses handlers held w c.args.serial.now h event.dest event c.in-Err.fault now c.in-Some.ensures.event own.0 c.in-Err.ensures.refused)

pub returns-in-Err-clause-unchanged : goal.returns-in-Err-clause-unchanged
returns-in-Err-clause-unchanged g c h s =
    let handlers = g.M.Model.handlers c.args.model.now in
    let l = c.self.inside in
    let held = process_view l.lp l.config l.process.state l.process.number l.process.stream l.past l.pending l.waiting in
    let now = subst (λ (v : HeldProcess _ _ _). StandsFor handlers v h) (sym c.self.view_is) s in
    let ok = subst (λ (t : Triple _). g.M.Model.IsState c.args.model.now t.state) (is_where (simulation_of handlers l.config) l.lp (process_memory handlers held) h now)
    (after_state handlers l.config (g.M.Model.IsState c.args.model.now) (g.met.M.Model.start_state c.args.model.now) (g.met.M.Model.forward_state c.args.model.now) l.lp (entry_events (h.done ++ h.past))) in
    let same = c.in-Err.ensures.unchanged ok in
    (λ j. process_view l.lp l.config (same j).state (same j).number (same j).stream l.past l.pending l.waiting) ∙ c.self.view_is

pub keep-requires-clause-some : goal.keep-requires-clause-some
keep-requires-clause-some g c = ready-some c.self.inside.pending c.self.inside.past c.in-Some.event c.in-Some.ensures.event

pub invariant_of-self-in-Err-keep : goal.invariant_of-self-in-Err-keep
invariant_of-self-in-Err-keep g c =
    let l = c.self.inside in
    let inside = c.self.invariant in
    let event = c.in-Some.event in
    let own = ready-own l.lp (end_of l.config) l.pending l.past event inside.own_pending c.in-Some.ensures.event in
    let left = c.in-Err-keep.ensures.unchanged in
    inside-at l.config l.lp l.process.number _ l.process.stream _ l.past l.pending l.waiting c.keep.new.pending c.keep.new.past inside
    (subst (λ n. n ≤ MAX_COUNT) (sym c.undo.ensures.number) c.in-Ok.ensures.few_sends)
    (record {
      key = ap (λ (v : Stream). v.key) c.undo.ensures.stream ∙ c.advance.ensures.stream.key;
      process = ap (λ (v : Stream). v.process) c.undo.ensures.stream ∙ c.advance.ensures.stream.process ∙ own.0;
    }) left.0 left.1

pub returns-in-Err-keep-clause-refused : goal.returns-in-Err-keep-clause-refused
returns-in-Err-keep-clause-refused g c h s =
    let handlers = g.M.Model.handlers c.args.model.now in
    let l = c.self.inside in
    let inside = c.self.invariant in
    let held = process_view l.lp l.config l.process.state l.process.number l.process.stream l.past l.pending l.waiting in
    let w = l.lp % l.config.workers in
    let event = c.in-Some.event in
    let own = ready-own l.lp (end_of l.config) l.pending l.past event inside.own_pending c.in-Some.ensures.event in
    let now = subst (λ (v : HeldProcess _ _ _). StandsFor handlers v h) (sym c.self.view_is) s in
    subst (λ (v : HeldProcess _ _ _). IsExecuteRefusal (simulation_of handlers v.config) v.lp c.args.serial.now (execute_process (simulation_of handlers v.config) v.lp (v.lp % v.config.workers) c.args.serial.now h) c.in-Err-keep.fault) c.self.view_is
    (refuses handlers held w c.args.serial.now h event.dest event c.in-Err-keep.fault now c.in-Some.ensures.event own.0
    (inr (c.in-Err-keep.ensures.refused, subst (λ (t : Triple _). t.number ≤ MAX_COUNT) c.in-Ok.ensures.triple c.advance.ensures.numbered, c.in-Ok.ensures.counted)))

-- where the event is undone, the process is as it was
undone : (g : Over) (c : After-undo g) → let l = c.self.inside in g.M.Model.IsState c.args.model.now l.process.state
    → process_view l.lp l.config c.undo.new.self.state c.undo.new.self.number c.undo.new.self.stream c.keep.new.past c.keep.new.pending l.waiting
    ≡ process_view l.lp l.config l.process.state l.process.number l.process.stream l.past l.pending l.waiting
undone g c ok =
    let handlers = g.M.Model.handlers c.args.model.now in
    let l = c.self.inside in
    let event = c.in-Some.event in
    let entry = c.in-Ok.advanced.0 in
    let left = c.in-Err-keep.ensures.unchanged in
    let after = c.advance.new.process in
    let state = c.undo.ensures.state ∙ ap (λ (sent : Sent _). handlers.reverse sent.dest sent.key.time sent.payload after.state entry.bits entry.kept) c.unstamped-sent.ensures in
    let back : triple_at c.undo.new.self.state c.undo.new.self.number c.undo.new.self.stream ≡ triple_at l.process.state l.process.number l.process.stream =
    (λ j. record { state = state j; number = c.undo.ensures.number j; place = (c.undo.ensures.stream j).place })
    ∙ came-back handlers l.config event.dest (triple_at l.process.state l.process.number l.process.stream) (triple_at after.state after.number after.stream) event entry c.advance.new.out.records c.in-Ok.ensures.triple (c.in-Ok.ensures.remembered ok) in
    λ j. record { lp = l.lp; config = l.config; triple = back j; past = left.1 j; pending = left.0 j; waiting = l.waiting }

pub returns-in-Err-keep-clause-unchanged : goal.returns-in-Err-keep-clause-unchanged
returns-in-Err-keep-clause-unchanged g c h s =
    let handlers = g.M.Model.handlers c.args.model.now in
    let l = c.self.inside in
    let held = process_view l.lp l.config l.process.state l.process.number l.process.stream l.past l.pending l.waiting in
    let now = subst (λ (v : HeldProcess _ _ _). StandsFor handlers v h) (sym c.self.view_is) s in
    let ok = subst (λ (t : Triple _). g.M.Model.IsState c.args.model.now t.state) (is_where (simulation_of handlers l.config) l.lp (process_memory handlers held) h now)
    (after_state handlers l.config (g.M.Model.IsState c.args.model.now) (g.met.M.Model.start_state c.args.model.now) (g.met.M.Model.forward_state c.args.model.now) l.lp (entry_events (h.done ++ h.past))) in
    undone g (goal.at.returns-in-Err-keep-clause-unchanged g c).After-undo ok ∙ c.self.view_is

pub invariant_of-self-in_default-keep : goal.invariant_of-self-in_default-keep
invariant_of-self-in_default-keep g c =
    let l = c.self.inside in
    let inside = c.self.invariant in
    let event = c.in-Some.event in
    let own = ready-own l.lp (end_of l.config) l.pending l.past event inside.own_pending c.in-Some.ensures.event in
    let k = c.in_default-keep.ensures.kept in
    inside-more l.config l.lp l.process.number _ l.process.stream _ l.past l.pending l.waiting event k.0 c.keep.new.pending c.in-Ok.advanced.0 c.records.result.now c.keep.new.past inside
    c.in-Some.ensures.rising k.1 c.in-Some.ensures.event c.advance.ensures.numbered
    (record { key = c.advance.ensures.stream.key; process = c.advance.ensures.stream.process ∙ own.0 })
    c.in-Ok.ensures.few c.in-Ok.ensures.few_sends c.in-Ok.ensures.ready k.2

pub overflow_add-serial : goal.overflow_add-serial
overflow_add-serial g c =
    let handlers = g.M.Model.handlers c.args.model.now in
    let l = c.self.inside in
    let held = process_view l.lp l.config l.process.state l.process.number l.process.stream l.past l.pending l.waiting in
    let event = c.in-Some.event in
    let all : length c.in-Ok.advanced.1 ≡ length ((simulation_of handlers l.config).fire event.dest held.triple (unstamped event)).sends = ap length c.in-Ok.ensures.messages ∙ length-letters Plus _ _ _ in
    omega (arith, c.len.ensures, all, c.in-Ok.ensures.counted)

pub returns-clause-counted : goal.returns-clause-counted
returns-clause-counted g c =
    let handlers = g.M.Model.handlers c.args.model.now in
    let l = c.self.inside in
    let held = process_view l.lp l.config l.process.state l.process.number l.process.stream l.past l.pending l.waiting in
    let event = c.in-Some.event in
    let all : length c.in-Ok.advanced.1 ≡ length ((simulation_of handlers l.config).fire event.dest held.triple (unstamped event)).sends = ap length c.in-Ok.ensures.messages ∙ length-letters Plus _ _ _ in
    (c.advance.ensures.numbered, omega (arith, c.len.ensures, all, c.in-Ok.ensures.counted))

pub returns-clause-within : goal.returns-clause-within
returns-clause-within g c =
    let l = c.self.inside in
    subst (λ (v : HeldProcess _ _ _). AllWithinRun v.config c.args.outbox.now → AllWithinRun v.config c.append.new.self) c.self.view_is
    (λ all. subst (λ (xs : List (Letter _)). AllWithinRun l.config xs) (sym c.append.ensures.0)
    (All-append (IsWithinRun l.config.lps (end_of l.config)) c.args.outbox.now c.in-Ok.advanced.1 all c.in-Ok.ensures.within))

pub returns-clause-done : goal.returns-clause-done
returns-clause-done g c h s =
    let handlers = g.M.Model.handlers c.args.model.now in
    let l = c.self.inside in
    let inside = c.self.invariant in
    let held = process_view l.lp l.config l.process.state l.process.number l.process.stream l.past l.pending l.waiting in
    let w = l.lp % l.config.workers in
    let event = c.in-Some.event in
    let own = ready-own l.lp (end_of l.config) l.pending l.past event inside.own_pending c.in-Some.ensures.event in
    let now = subst (λ (v : HeldProcess _ _ _). StandsFor handlers v h) (sym c.self.view_is) s in
    let ok = subst (λ (t : Triple _). g.M.Model.IsState c.args.model.now t.state) (is_where (simulation_of handlers l.config) l.lp (process_memory handlers held) h now)
    (after_state handlers l.config (g.M.Model.IsState c.args.model.now) (g.met.M.Model.start_state c.args.model.now) (g.met.M.Model.forward_state c.args.model.now) l.lp (entry_events (h.done ++ h.past))) in
    let k = c.in_default-keep.ensures.kept in
    let after = c.advance.new.process in
    let fired = (simulation_of handlers l.config).fire event.dest held.triple (unstamped event) in
    let all : length c.in-Ok.advanced.1 ≡ length ((simulation_of handlers l.config).fire event.dest held.triple (unstamped event)).sends = ap length c.in-Ok.ensures.messages ∙ length-letters Plus _ _ _ in
    let mine : All (IsOwnLetter l.lp (end_of l.config) Plus) (k.0 ∷ c.keep.new.pending) = subst (λ (xs : List (Letter _)). All (IsOwnLetter l.lp (end_of l.config) Plus) xs) k.1 inside.own_pending in
    let new = process_view l.lp l.config after.state after.number after.stream c.keep.new.past c.keep.new.pending l.waiting in
    subst (λ (v : HeldProcess _ _ _). IsDone handlers new (execute_process (simulation_of handlers v.config) v.lp (v.lp % v.config.workers) c.args.serial.now h) c.args.outbox.now c.append.new.self c.args.serial.now (c.args.serial.now + c.len.result)) c.self.view_is
    (executes handlers held w c.args.serial.now h k.0 c.keep.new.pending event.dest event (triple_at after.state after.number after.stream) c.in-Ok.advanced.0 c.advance.new.out.records
    c.keep.new.past c.args.outbox.now c.append.new.self c.in-Ok.advanced.1 (c.args.serial.now + c.len.result)
    now k.1 c.in-Some.ensures.event (All-head (IsOwnLetter l.lp (end_of l.config) Plus) k.0 c.keep.new.pending mine).signed own.0
    (k.2 ∙ ap (λ (records : List Record). l.past ++ past_event k.0 c.in-Ok.advanced.0 records ∷ []) c.records.ensures) c.in-Ok.ensures.triple (c.in-Ok.ensures.remembered ok)
    (c.in-Ok.ensures.anti_messages ∙ (λ j. map (signed Minus) (stamped (own.0 j % l.config.workers) c.args.serial.now fired.sends)))
    (c.in-Ok.ensures.messages ∙ (λ j. map (signed Plus) (stamped (own.0 j % l.config.workers) c.args.serial.now fired.sends)))
    c.append.ensures.0
    (omega (arith, c.len.ensures, all, c.in-Ok.ensures.counted)))

pub returns-in-Err-clause-restored : goal.returns-in-Err-clause-restored
returns-in-Err-clause-restored g c is_state =
    let l = c.self.inside in
    let ok = subst (λ (v : HeldProcess _ _ _). g.M.Model.IsState c.args.model.now v.triple.state) (sym c.self.view_is) is_state in
    let same = c.in-Err.ensures.unchanged ok in
    (λ j. process_view l.lp l.config (same j).state (same j).number (same j).stream l.past l.pending l.waiting) ∙ c.self.view_is

pub returns-in-Err-clause-faults : goal.returns-in-Err-clause-faults
returns-in-Err-clause-faults g c = elim c.in-Err.ensures.refused [
  | inl w ↦ inr (inl w.0)
  | inr w ↦ inr (inr w.0)
]

pub returns-in-Err-clause-not_lawful : goal.returns-in-Err-clause-not_lawful
returns-in-Err-clause-not_lawful g c is = elim c.in-Err.ensures.refused [
  | inl w ↦ absurd (let h : Exhausted ≡ NotLawful = sym w.0 ∙ is in cc)
  | inr w ↦ absurd (let h : Memory ≡ NotLawful = sym w.0 ∙ is in cc)
]

pub returns-in-Err-clause-but_state : goal.returns-in-Err-clause-but_state
returns-in-Err-clause-but_state g c =
    let l = c.self.inside in
    let at = c.advance.new.process in
    let same = c.in-Err.ensures.but_state in
    subst (λ (v : HeldProcess _ _ _). (l.past ≡ v.past) × (l.pending ≡ v.pending) × (l.waiting ≡ v.waiting) × (at.number ≡ v.triple.number) × (at.stream.place ≡ v.triple.place)) c.self.view_is
    (refl, refl, refl, same.0, ap (λ (s : Stream). s.place) same.1)

pub returns-in-Err-keep-clause-restored : goal.returns-in-Err-keep-clause-restored
returns-in-Err-keep-clause-restored g c is_state =
    let ok = subst (λ (v : HeldProcess _ _ _). g.M.Model.IsState c.args.model.now v.triple.state) (sym c.self.view_is) is_state in
    undone g (goal.at.returns-in-Err-keep-clause-restored g c).After-undo ok ∙ c.self.view_is

pub returns-in-Err-keep-clause-but_state : goal.returns-in-Err-keep-clause-but_state
returns-in-Err-keep-clause-but_state g c =
    let l = c.self.inside in
    let left = c.in-Err-keep.ensures.unchanged in
    let drew = c.in-Ok.ensures.drew in
    let drawn = c.in-Ok.advanced.0.drawn in
    let at = c.undo.new.self in
    let place : at.stream.place ≡ l.process.stream.place = ap (λ (s : Stream). s.place) c.undo.ensures.stream
    ∙ ap (λ (s : Stream). (s.place + (2 ^ 64 - drawn)) % 2 ^ 64) drew.1
    ∙ place-back l.process.stream.place drawn c.advance.ensures.in_range c.in-Ok.ensures.few in
    subst (λ (v : HeldProcess _ _ _). (c.keep.new.past ≡ v.past) × (c.keep.new.pending ≡ v.pending) × (l.waiting ≡ v.waiting) × (at.number ≡ v.triple.number) × (at.stream.place ≡ v.triple.place)) c.self.view_is
    (left.1, left.0, refl, c.undo.ensures.number ∙ drew.0, place)

pub returns-in_default-clause-done : goal.returns-in_default-clause-done
returns-in_default-clause-done g c h s = tt

pub returns-in_default-clause-counted : goal.returns-in_default-clause-counted
returns-in_default-clause-counted g c = tt

pub returns-in_default-clause-within : goal.returns-in_default-clause-within
returns-in_default-clause-within g c all = all

pub returns-in-Err-clause-done : goal.returns-in-Err-clause-done
returns-in-Err-clause-done g c h s = tt

pub returns-in-Err-clause-counted : goal.returns-in-Err-clause-counted
returns-in-Err-clause-counted g c = tt

pub returns-in-Err-clause-within : goal.returns-in-Err-clause-within
returns-in-Err-clause-within g c all = all

pub returns-in-Err-keep-clause-done : goal.returns-in-Err-keep-clause-done
returns-in-Err-keep-clause-done g c h s = tt

pub returns-in-Err-keep-clause-counted : goal.returns-in-Err-keep-clause-counted
returns-in-Err-keep-clause-counted g c = tt

pub returns-in-Err-keep-clause-within : goal.returns-in-Err-keep-clause-within
returns-in-Err-keep-clause-within g c all = all

pub returns-in_default-clause-same : goal.returns-in_default-clause-same
returns-in_default-clause-same g c = (refl, refl)

pub returns-in-Err-clause-same : goal.returns-in-Err-clause-same
returns-in-Err-clause-same g c = (ap (λ (v : HeldProcess _ _ _). v.lp) c.self.view_is, ap (λ (v : HeldProcess _ _ _). v.config) c.self.view_is)

pub returns-in-Err-keep-clause-same : goal.returns-in-Err-keep-clause-same
returns-in-Err-keep-clause-same g c = (ap (λ (v : HeldProcess _ _ _). v.lp) c.self.view_is, ap (λ (v : HeldProcess _ _ _). v.config) c.self.view_is)

pub returns-clause-same : goal.returns-clause-same
returns-clause-same g c = (ap (λ (v : HeldProcess _ _ _). v.lp) c.self.view_is, ap (λ (v : HeldProcess _ _ _). v.config) c.self.view_is)

pub returns-clause-refused : goal.returns-clause-refused
returns-clause-refused g c h s = tt

pub returns-clause-unchanged : goal.returns-clause-unchanged
returns-clause-unchanged g c h s = tt

pub returns-clause-restored : goal.returns-clause-restored
returns-clause-restored g c is_state = tt

pub returns-clause-not_lawful : goal.returns-clause-not_lawful
returns-clause-not_lawful g c = tt

pub returns-clause-but_state : goal.returns-clause-but_state
returns-clause-but_state g c = tt

pub returns-clause-kept : goal.returns-clause-kept
returns-clause-kept g c = tt
