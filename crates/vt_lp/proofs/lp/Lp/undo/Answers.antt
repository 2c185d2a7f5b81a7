use Rattle.std.proofs.Common.{◌≡◌, ◌∙◌, ◌+◌, ◌-◌, ◌%◌, ◌^◌, ◌≤◌, List, ◌++◌, suc, length, false, sym, subst, refl, ap, arith}
use Rattle.std.specs.List.{All}
use Rattle.std.proofs.lemmas.List.Elements.{All-append}
use Rattle.std.proofs.lemmas.List.{length_push}
use Rattle.vt_key.specs.promise.Queues.{insert_letter}
use Rattle.vt_key.specs.inside.Queues.{holds_rank}
use Rattle.vt_key.specs.declared.limits.TheConstants.{MAX_COUNT}
use Rattle.vt_key.specs.declared.letter.Letter.{Letter}
use Rattle.vt_stream.specs.inside.Words.{Stream}
use Rattle.vt_model.specs.declared.limits.TheConstants.{MAX_DRAWS}
use Rattle.vt_model.specs.inside.Process.{triple_at}
use Rattle.vt_model.specs.promise.Settings.{end_of}
use Rattle.vt_steps.specs.promise.Letters.{unstamped}
use Rattle.vt_past.specs.declared.event.PastEvent.{PastEvent}
use Rattle.vt_past.specs.declared.event.UndoEntry.{UndoEntry}
use Rattle.vt_lp.specs.inside.Held.{HeldProcess, StandsFor, AllWithinRun, IsWithinRun, IsOwnEvent, IsNotPending}
use Rattle.vt_lp.proofs.UndoLemmas.{undo-none, undoes, inside-less, All-front, ready-within, length-insert}
use Rattle.vt_lp.proofs.ProcessView.{process_view}
use Rattle.vt_lp.proofs.lp.Lp.undo.Given.{Over}
use Rattle.vt_lp.proofs.lp.Lp.undo.Goals.{After-into_parts-letter}
use Rattle.vt_lp.proofs.lp.Lp.undo.Goals as goal

pub returns-then-not-must_undo_last-clause-refused : goal.returns-then-not-must_undo_last-clause-refused
returns-then-not-must_undo_last-clause-refused g c h s =
    let l = c.self.inside in
    let handlers = g.M.Model.handlers c.args.model.now in
    let held = process_view l.lp l.config l.process.state l.process.number l.process.stream l.past l.pending l.waiting in
    let now = subst (λ (v : HeldProcess _ _ _). StandsFor handlers v h) (sym c.self.view_is) s in
    undo-none handlers held h (sym c.must_undo_last.ensures ∙ c.if-not-must_undo_last.true) now

-- what the event is taken apart into
parts : (g : Over) (c : After-into_parts-letter g) → (c.into_parts-letter.result.0 ≡ c.in-Some.last.letter) × (c.into_parts-letter.result.1 ≡ c.in-Some.last.undo_entry)
parts g c =
    (c.into_parts-letter.ensures.0 ∙ ap (λ (e : PastEvent _ _). e.letter) c.into_value.ensures, c.into_parts-letter.ensures.1 ∙ ap (λ (e : PastEvent _ _). e.undo_entry) c.into_value.ensures)

-- the last past event is one of the process's own
own : (g : Over) (c : After-into_parts-letter g) → IsOwnEvent c.self.inside.config c.self.inside.lp c.in-Some.last
own g c =
    let l = c.self.inside in
    (All-front (IsOwnEvent l.config l.lp) c.pop_back.new.self c.in-Some.last (subst (λ (xs : List (PastEvent _ _)). All (IsOwnEvent l.config l.lp) xs) c.in-Some.ensures c.self.invariant.own_past)).1

pub undo-requires-clause-few : goal.undo-requires-clause-few
undo-requires-clause-few g c κs within =
    subst (λ (entry : UndoEntry _ _). entry.drawn ≤ MAX_DRAWS) (sym (parts g (goal.at.undo-requires-clause-few g c).After-into_parts-letter).1) (own g (goal.at.undo-requires-clause-few g c).After-into_parts-letter).few

pub insert-requires : goal.insert-requires
insert-requires g c =
    let l = c.self.inside in
    let apart = subst (λ (xs : List (PastEvent _ _)). All (IsNotPending l.pending) xs) c.in-Some.ensures c.self.invariant.apart in
    subst (λ (letter : Letter _). holds_rank letter.event.rank l.pending ≡ false) (sym (parts g (goal.at.insert-requires g c).After-into_parts-letter).0) (All-front (IsNotPending l.pending) c.pop_back.new.self c.in-Some.last apart).1

pub invariant_of-self-2 : goal.invariant_of-self-2
invariant_of-self-2 g c =
    let l = c.self.inside in
    let number = c.undo.ensures.number ∙ ap (λ (entry : UndoEntry _ _). entry.number) (parts g (goal.at.invariant_of-self-2 g c).After-into_parts-letter).1 in
    inside-less l.config l.lp l.process.number _ l.process.stream _ l.past l.pending l.waiting c.insert.new.self c.pop_back.new.self c.in-Some.last c.self.invariant c.in-Some.ensures
    (subst (λ n. n ≤ MAX_COUNT) (sym number) (own g (goal.at.invariant_of-self-2 g c).After-into_parts-letter).numbered)
    (record {
      key = ap (λ (v : Stream). v.key) c.undo.ensures.stream ∙ c.self.invariant.own_stream.key;
      process = ap (λ (v : Stream). v.process) c.undo.ensures.stream ∙ c.self.invariant.own_stream.process;
    }) (c.insert.ensures.letters ∙ ap (λ (letter : Letter _). insert_letter letter l.pending) (parts g (goal.at.invariant_of-self-2 g c).After-into_parts-letter).0)

pub returns-clause-done : goal.returns-clause-done
returns-clause-done g c h s =
    let l = c.self.inside in
    let e = c.in-Some.last in
    let mine = own g (goal.at.returns-clause-done g c).After-into_parts-letter in
    let handlers = g.M.Model.handlers c.args.model.now in
    let held = process_view l.lp l.config l.process.state l.process.number l.process.stream l.past l.pending l.waiting in
    let now = subst (λ (v : HeldProcess _ _ _). StandsFor handlers v h) (sym c.self.view_is) s in
    let got : c.get.result.now ≡ e.letter = c.get.ensures ∙ (parts g (goal.at.returns-clause-done g c).After-into_parts-letter).0 in
    let sent = c.unstamped-sent.ensures ∙ ap (λ (letter : Letter _). unstamped letter.event) got in
    let state = c.undo.ensures.state ∙ (λ j. handlers.reverse (sent j).dest (sent j).key.time (sent j).payload l.process.state ((parts g (goal.at.returns-clause-done g c).After-into_parts-letter).1 j).bits ((parts g (goal.at.returns-clause-done g c).After-into_parts-letter).1 j).kept) in
    let number = c.undo.ensures.number ∙ ap (λ (entry : UndoEntry _ _). entry.number) (parts g (goal.at.returns-clause-done g c).After-into_parts-letter).1 in
    let place = ap (λ (v : Stream). v.place) c.undo.ensures.stream ∙ ap (λ (entry : UndoEntry _ _). (l.process.stream.place + (2 ^ 64 - entry.drawn)) % 2 ^ 64) (parts g (goal.at.returns-clause-done g c).After-into_parts-letter).1 in
    undoes handlers held h c.pop_back.new.self e e.letter.event.dest (triple_at c.undo.new.self.state c.undo.new.self.number c.undo.new.self.stream) c.insert.new.self c.args.outbox.now c.append.new.self
    now c.in-Some.ensures (sym c.must_undo_last.ensures ∙ c.if-not-must_undo_last.false) mine mine.own.dest
    (λ j. record { state = state j; number = number j; place = place j })
    (c.insert.ensures.letters ∙ ap (λ (letter : Letter _). insert_letter letter l.pending) (parts g (goal.at.returns-clause-done g c).After-into_parts-letter).0)
    (c.append.ensures.0 ∙ ap (λ (entry : UndoEntry _ _). c.args.outbox.now ++ entry.anti_messages) (parts g (goal.at.returns-clause-done g c).After-into_parts-letter).1)

pub returns-clause-within : goal.returns-clause-within
returns-clause-within g c =
    let l = c.self.inside in
    let e = c.in-Some.last in
    let sent = c.append.ensures.0 ∙ ap (λ (entry : UndoEntry _ _). c.args.outbox.now ++ entry.anti_messages) (parts g (goal.at.returns-clause-within g c).After-into_parts-letter).1 in
    let ready = ready-within l.config.lps (end_of l.config) e.undo_entry.anti_messages (own g (goal.at.returns-clause-within g c).After-into_parts-letter).ready in
    subst (λ (v : HeldProcess _ _ _). AllWithinRun v.config c.args.outbox.now → AllWithinRun v.config c.append.new.self) c.self.view_is
    (λ all. subst (λ (xs : List (Letter _)). AllWithinRun l.config xs) (sym sent) (All-append (IsWithinRun l.config.lps (end_of l.config)) c.args.outbox.now e.undo_entry.anti_messages all ready))

pub returns-clause-shorter : goal.returns-clause-shorter
returns-clause-shorter g c =
    let l = c.self.inside in
    let letter = c.into_parts-letter.result.0 in
    let past : length l.past ≡ length c.pop_back.new.self + 1 = ap length c.in-Some.ensures ∙ length_push c.pop_back.new.self c.in-Some.last in
    let pending : length c.insert.new.self ≡ length l.pending + 1 = ap length c.insert.ensures.letters ∙ length-insert letter l.pending in
    subst (λ (v : HeldProcess _ _ _). (suc (length c.pop_back.new.self) ≡ length v.past) × (length c.insert.new.self ≡ suc (length v.pending)) × (l.waiting ≡ v.waiting)) c.self.view_is
    (omega (arith, past), omega (arith, pending), refl)
