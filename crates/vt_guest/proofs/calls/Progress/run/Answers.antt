use Rattle.std.proofs.Common.{rules, ◌≡◌, ℕ, suc, ◌+◌, ◌-◌, ◌<◌, ◌≤◌, ◌∙◌, List, [], ◌∷◌, ◌++◌, length, true, Result, Ok, Err, append-nil, refl, sym, ap, subst, arith}
use Rattle.vt_key.specs.promise.Times.{priority_of}
use Rattle.vt_stream.specs.inside.Words.{Stream, word_of, moved}
use Rattle.vt_stream.proofs.DrawLemmas.{moved-moved, word_after}
use Rattle.vt_model.specs.declared.limits.TheConstants.{MAX_SENDS}
use Rattle.vt_model.specs.inside.Handler.{IsSendable}
use Rattle.vt_model.specs.inside.Sends.{Outgoing, with_requests}
use Rattle.vt_model.proofs.SendLemmas.{with_requests-append}
use Rattle.vt_model.proofs.RequestLemmas.{no_requests, sent_after, recorded}
use Rattle.vt_guest.specs.declared.trap.Reason.{Reason}
use Rattle.vt_guest.specs.declared.trap.Reason.TheVariants.{TooMany}
use Rattle.vt_guest.specs.declared.calls.Progress.{Progress}
use Rattle.vt_guest.specs.declared.calls.Next.{Next}
use Rattle.vt_guest.specs.declared.calls.Next.TheVariants.{On, Draw, Send, Emit, Ended, Trapped}
use Rattle.vt_guest.specs.declared.process.Words.{Words}
use Rattle.vt_guest.specs.promise.Calls.{Handling, answered_by, most_draws, most_sends, most_records, may_send, request_of, note_of}
use Rattle.vt_guest.specs.inside.Progresses.{handling_of}
use Rattle.vt_guest.specs.promise.Handling.{Handled, Rest, followed, handled}
use Rattle.vt_guest.specs.inside.Laws.{turn_lawful, may_sendable}
use Rattle.vt_guest.proofs.RunLemmas.{handled-as, handled-none, with_room, without_room}
use Rattle.vt_guest.proofs.calls.Progress.run.Goals.{After-turn}
use Rattle.vt_guest.proofs.calls.Progress.run.Given.{Over}
use Rattle.vt_guest.proofs.calls.Progress.run.Goals as goal

-- the whole run
abbrev whole : (g : Over) (c : After-turn g) → Handled g.row.SIZE
whole g c = handled c.args.code.now c.args.host (word_of c.args.draws.now.stream.now) c.args.self.now.left (handling_of g.row.SIZE c.args.self.now c.args.state.now) [] []

-- what is left of it behind this turn
abbrev rest : (g : Over) (c : After-turn g) → Rest g.row.SIZE
rest g c = handled c.args.code.now c.args.host (word_of c.args.draws.now.stream.now) (c.calls.calls - 1)

-- a turn draws nothing
kept : (g : Over) (c : After-turn g) → c.turn.new.self.drawn ≡ c.calls.self.drawn
kept g c = ap (λ (k : Handling _). k.drawn) c.turn.ensures.handling ∙ (turn_lawful c.args.host c.args.code.now (handling_of g.row.SIZE c.calls.self c.calls.state)).drawn

-- the run goes on as its turn says
turned : (g : Over) (c : After-turn g) (was : Next) → c.turn.result ≡ was
    → followed (rest g c) c.args.host (word_of c.args.draws.now.stream.now) was (handling_of g.row.SIZE c.turn.new.self c.turn.new.state) c.calls.invariant.sends c.calls.invariant.notes ≡ whole g c
turned g c was is =
    let i = c.calls.invariant in
    let more : c.calls.calls ≡ suc (c.calls.calls - 1) = omega arith in
    sym (handled-as c.args.code.now c.args.host (word_of c.args.draws.now.stream.now) i.sends i.notes c.calls.calls (c.calls.calls - 1) (handling_of g.row.SIZE c.calls.self c.calls.state) (handling_of g.row.SIZE c.turn.new.self c.turn.new.state) c.turn.result was more c.turn.ensures.next c.turn.ensures.handling is)
    ∙ i.same_run

-- how many events were sent so far, and how many records made
sent_count : (g : Over) (c : After-turn g) → c.calls.out.number ≡ c.calls.out.first + length c.calls.invariant.sends
sent_count g c =
    let number : c.calls.out.number ≡ c.args.out.now.number + length c.calls.invariant.sends = ap (λ (o : Outgoing Words). o.number) c.calls.invariant.out in
    let first : c.calls.out.first ≡ c.args.out.now.first = ap (λ (o : Outgoing Words). o.first) c.calls.invariant.out in
    omega (arith, number, first, c.requires.unsent)

note_count : (g : Over) (c : After-turn g) → length c.calls.out.records ≡ length c.calls.invariant.notes
note_count g c =
    let none : length c.args.out.now.records ≡ 0 = ap (λ (rs : List _). length rs) c.requires.unrecorded in
    omega (arith, none, recorded c.args.out.now c.calls.out c.calls.invariant.sends c.calls.invariant.notes c.calls.invariant.out)

-- where the run ends with this turn, its clauses hold
abbrev IsDone : (g : Over) (c : After-turn g) → Result (Unit {0}) Reason → Type 0
IsDone g c end = record {
  end : end ≡ (whole g c).end;
  handling : handling_of g.row.SIZE c.turn.new.self c.turn.new.state ≡ (whole g c).handling;
  out : c.calls.out ≡ with_requests c.args.out.now (whole g c).sends (whole g c).notes;
  same_reference : c.calls.draws.stream.ghost_name ≡ c.args.draws.now.stream.ghost_name;
  drawn : c.calls.draws.drawn ≡ c.turn.new.self.drawn;
  stream : c.calls.draws.stream.now ≡ moved c.args.draws.now.stream.now c.turn.new.self.drawn;
}

done : (g : Over) (c : After-turn g) (end : Result (Unit {0}) Reason) → record { end = end; handling = handling_of g.row.SIZE c.turn.new.self c.turn.new.state; sends = c.calls.invariant.sends; notes = c.calls.invariant.notes } ≡ whole g c → IsDone g c end
done g c end is = record {
  end = ap (λ (r : Handled _). r.end) is;
  handling = ap (λ (r : Handled _). r.handling) is;
  out = c.calls.invariant.out ∙ (λ j. with_requests c.args.out.now (is j).sends (is j).notes);
  same_reference = c.calls.invariant.same_reference;
  drawn = c.calls.invariant.drawn ∙ sym (kept g c);
  stream = c.calls.invariant.stream ∙ ap (moved c.args.draws.now.stream.now) (sym (kept g c));
}

pub calls-init : goal.calls-init
calls-init g c = record {
  sends = [];
  notes = [];
  same_run = refl;
  out = no_requests c.args.out.now;
  drawn = c.requires.undrawn.drawn ∙ sym c.requires.fresh;
  same_reference = refl;
  stream = search rules;
}

pub calls-preserved-in-On : goal.calls-preserved-in-On
calls-preserved-in-On g c =
    let k = (goal.at.calls-preserved-in-On g c).After-turn in
    record {
      sends = c.calls.invariant.sends;
      notes = c.calls.invariant.notes;
      same_run = turned g k On c.in-On.is;
      out = c.calls.invariant.out;
      drawn = c.calls.invariant.drawn ∙ sym (kept g k);
      same_reference = c.calls.invariant.same_reference;
      stream = c.calls.invariant.stream ∙ ap (moved c.args.draws.now.stream.now) (sym (kept g k));
    }

pub word-word-requires : goal.word-word-requires
word-word-requires g c =
    let same = kept g (goal.at.word-word-requires g c).After-turn in
    omega (arith, same, c.if-self-most_draws.false, c.most_draws.ensures.most, c.most_draws.ensures.limit, c.calls.invariant.drawn)

pub calls-preserved-in-Draw : goal.calls-preserved-in-Draw
calls-preserved-in-Draw g c =
    let k = (goal.at.calls-preserved-in-Draw g c).After-turn in
    let h = c.args.host in
    let s = c.args.draws.now.stream.now in
    let y = handling_of g.row.SIZE c.turn.new.self c.turn.new.state in
    let sends = c.calls.invariant.sends in
    let notes = c.calls.invariant.notes in
    let there : c.calls.draws.stream.now ≡ moved s y.drawn = c.calls.invariant.stream ∙ ap (moved s) (sym (kept g k)) in
    let word : c.word-word.result ≡ word_of s y.drawn = c.word-word.ensures.value ∙ word_after s c.calls.draws.stream.now y.drawn there in
    let after : c.answer.new.self.drawn ≡ y.drawn + 1 = ap (λ (p : Progress). p.drawn) c.answer.ensures in
    let room : y.drawn < most_draws h.handler = omega (arith, c.if-self-most_draws.false, c.most_draws.ensures.most) in
    record {
      sends = sends;
      notes = notes;
      same_run = ap (λ (z : Handling _). rest g k z sends notes) (ap (λ (p : Progress). handling_of g.row.SIZE p c.turn.new.state) c.answer.ensures ∙ ap (answered_by y) word) ∙ sym (with_room (most_draws h.handler) y.drawn _ _ room) ∙ turned g k Draw c.in-Draw.is;
      out = c.calls.invariant.out;
      drawn = c.word-word.ensures.drawn ∙ ap (λ (n : ℕ). n + 1) (c.calls.invariant.drawn ∙ sym (kept g k)) ∙ sym after;
      same_reference = c.word-word.ensures.same_reference ∙ c.calls.invariant.same_reference;
      stream = c.word-word.ensures.stream ∙ ap (λ (t : Stream). moved t 1) there ∙ moved-moved s y.drawn 1 ∙ ap (moved s) (sym after);
    }

pub returns-then-self-most_draws : goal.returns-then-self-most_draws
returns-then-self-most_draws g c =
    let k = (goal.at.returns-then-self-most_draws g c).After-turn in
    let most = most_draws c.args.host.handler in
    let full : most ≤ c.turn.new.self.drawn = omega (arith, c.if-self-most_draws.true, c.most_draws.ensures.most) in
    done g k (Err TooMany) (sym (without_room most c.turn.new.self.drawn _ _ full) ∙ turned g k Draw c.in-Draw.is)

pub send_into-requires : goal.send_into-requires
send_into-requires g c =
    let h = c.args.host in
    let y = handling_of g.row.SIZE c.turn.new.self c.turn.new.state in
    let turn = turn_lawful h c.args.code.now (handling_of g.row.SIZE c.calls.self c.calls.state) in
    let may : may_send h y ≡ true = ap (may_send h) c.turn.ensures.handling ∙ turn.may (sym c.turn.ensures.next ∙ c.in-Send.is) in
    let lps : h.lps ≡ c.calls.out.lps = c.requires.lps ∙ sym (ap (λ (o : Outgoing Words). o.lps) c.calls.invariant.out) in
    let time : c.args.out.now.time ≡ c.calls.out.time = sym (ap (λ (o : Outgoing Words). o.time) c.calls.invariant.out) in
    let sendable : IsSendable h.lps c.calls.out.time (request_of y) = may_sendable h c.calls.out.time (c.requires.priority ∙ ap priority_of time) y may in
    record { sendable = subst (λ (lps : ℕ). IsSendable lps c.calls.out.time (request_of y)) lps sendable; room = search rules }

pub calls-preserved-in-Send : goal.calls-preserved-in-Send
calls-preserved-in-Send g c =
    let k = (goal.at.calls-preserved-in-Send g c).After-turn in
    let h = c.args.host in
    let y = handling_of g.row.SIZE c.turn.new.self c.turn.new.state in
    let sends = c.calls.invariant.sends in
    let notes = c.calls.invariant.notes in
    let some : c.calls.out.number < c.calls.out.first + MAX_SENDS = search rules in
    let room : length sends < most_sends h.handler = omega (arith, sent_count g k, c.requires.most, some) in
    let same : c.send_into.new.self.drawn ≡ y.drawn = ap (λ (p : Progress). p.drawn) c.send_into.ensures.handling in
    record {
      sends = sends ++ request_of y ∷ [];
      notes = notes;
      same_run = ap (λ (p : Progress). rest g k (handling_of g.row.SIZE p c.turn.new.state) (sends ++ request_of y ∷ []) notes) c.send_into.ensures.handling ∙ sym (with_room (most_sends h.handler) (length sends) _ _ room) ∙ turned g k Send c.in-Send.is;
      out = sent_after c.args.out.now c.calls.out c.send_into.new.out sends notes (request_of y) c.calls.invariant.out c.send_into.ensures.out;
      drawn = c.calls.invariant.drawn ∙ sym (same ∙ kept g k);
      same_reference = c.calls.invariant.same_reference;
      stream = c.calls.invariant.stream ∙ ap (moved c.args.draws.now.stream.now) (sym (same ∙ kept g k));
    }

pub returns-then-not-room : goal.returns-then-not-room
returns-then-not-room g c =
    let k = (goal.at.returns-then-not-room g c).After-turn in
    let most = most_sends c.args.host.handler in
    let many = length c.calls.invariant.sends in
    let none : c.calls.out.first + MAX_SENDS ≤ c.calls.out.number = search rules in
    let full : most ≤ many = omega (arith, sent_count g k, c.requires.most, none) in
    done g k (Err TooMany) (sym (without_room most many _ _ full) ∙ turned g k Send c.in-Send.is)

pub calls-preserved : goal.calls-preserved
calls-preserved g c =
    let k = (goal.at.calls-preserved g c).After-turn in
    let h = c.args.host in
    let y = handling_of g.row.SIZE c.turn.new.self c.turn.new.state in
    let sends = c.calls.invariant.sends in
    let notes = c.calls.invariant.notes in
    let seen : length c.records.result.now ≡ length notes = ap (λ (rs : List _). length rs) c.records.ensures ∙ note_count g k in
    let room : length notes < most_records h.handler = omega (arith, seen, c.if-records-most_records.false, c.most_records.ensures.most) in
    let same : c.emit_into.new.self.drawn ≡ y.drawn = ap (λ (p : Progress). p.drawn) c.emit_into.ensures.handling in
    record {
      sends = sends;
      notes = notes ++ note_of y ∷ [];
      same_run = ap (λ (p : Progress). rest g k (handling_of g.row.SIZE p c.turn.new.state) sends (notes ++ note_of y ∷ [])) c.emit_into.ensures.handling ∙ sym (with_room (most_records h.handler) (length notes) _ _ room) ∙ turned g k Emit c.in-Emit.is;
      out = c.emit_into.ensures.out
          ∙ ap (λ (w : Outgoing Words). with_requests w [] (note_of y ∷ [])) c.calls.invariant.out
          ∙ with_requests-append c.args.out.now sends [] notes (note_of y ∷ [])
          ∙ ap (λ (xs : List _). with_requests c.args.out.now xs (notes ++ note_of y ∷ [])) (append-nil sends);
      drawn = c.calls.invariant.drawn ∙ sym (same ∙ kept g k);
      same_reference = c.calls.invariant.same_reference;
      stream = c.calls.invariant.stream ∙ ap (moved c.args.draws.now.stream.now) (sym (same ∙ kept g k));
    }

pub returns-then-records-most_records : goal.returns-then-records-most_records
returns-then-records-most_records g c =
    let k = (goal.at.returns-then-records-most_records g c).After-turn in
    let most = most_records c.args.host.handler in
    let many = length c.calls.invariant.notes in
    let seen : length c.records.result.now ≡ many = ap (λ (rs : List _). length rs) c.records.ensures ∙ note_count g k in
    let full : most ≤ many = omega (arith, seen, c.if-records-most_records.true, c.most_records.ensures.most) in
    done g k (Err TooMany) (sym (without_room most many _ _ full) ∙ turned g k Emit c.in-Emit.is)

pub returns-in-Ended : goal.returns-in-Ended
returns-in-Ended g c =
    let k = (goal.at.returns-in-Ended g c).After-turn in
    done g k (Ok tt) (turned g k Ended c.in-Ended.is)

pub returns-in-Trapped : goal.returns-in-Trapped
returns-in-Trapped g c =
    let k = (goal.at.returns-in-Trapped g c).After-turn in
    done g k (Err c.in-Trapped.reason) (turned g k (Trapped c.in-Trapped.reason) c.in-Trapped.is)

pub returns : goal.returns
returns g c =
    let none : c.calls.calls ≡ 0 = omega arith in
    let s = c.args.draws.now.stream.now in
    let i = c.calls.invariant in
    let is = sym (handled-none c.args.code.now c.args.host (word_of s) i.sends i.notes c.calls.calls (handling_of g.row.SIZE c.calls.self c.calls.state) none) ∙ i.same_run in
    record {
      end = ap (λ (r : Handled _). r.end) is;
      handling = ap (λ (r : Handled _). r.handling) is;
      out = i.out ∙ (λ j. with_requests c.args.out.now (is j).sends (is j).notes);
      same_reference = i.same_reference;
      drawn = i.drawn;
      stream = i.stream;
    }
