-- Which steps make letters and which take them away: what each step does to a sum over all letters, whatever the weight.
use Rattle.std.proofs.Common.{◌≡◌, ℕ, ◌+◌, ◌/◌, ◌%◌, true, false, List, [], ◌∷◌, ◌++◌, map, refl, sym, ◌∙◌, ap, subst, arith, Option, Some, None, Ok, Err, slice_get, cond}
use Rattle.std.specs.List.{find, last_or, sum_by, filter, remove}
use Rattle.std.specs.Option.{option_map, option_and_then}
use Rattle.std.proofs.lemmas.List.Sums.{sum_by-cons, sum_by-append}
use Rattle.vt_key.specs.declared.order.Stamp.{Stamp}
use Rattle.vt_key.specs.declared.letter.Event.{Event}
use Rattle.vt_key.specs.declared.letter.Letter.{Letter}
use Rattle.vt_key.specs.declared.letter.Mail.{Mail}
use Rattle.vt_key.specs.declared.letter.Sign.{Sign}
use Rattle.vt_key.specs.declared.letter.Sign.TheVariants.{Plus, Minus}
use Rattle.vt_key.specs.declared.fault.Fault.TheVariants.{NotLawful}
use Rattle.vt_model.specs.promise.Simulation.{Simulation}
use Rattle.vt_steps.specs.declared.step.Step.{Step}
use Rattle.vt_steps.specs.declared.step.Step.TheVariants.{Execute, Undo, Cancel, Home, Send, Fetch, Accept, Cut, Report, Commit, Close}
use Rattle.vt_steps.specs.declared.step.Reply.TheVariants.{Done}
use Rattle.vt_steps.specs.promise.Letters.{signed, stamped, unstamped, is_empty}
use Rattle.vt_steps.specs.promise.World.{Entry, LogicalProcess, Part, Board, Book, World, process_at, triple_after, entry_rank}
use Rattle.vt_steps.specs.promise.ProcessSteps.{ProcessEffect, may_follow, must_undo, are_opposite, holds, effect_of_execute, effect_of_undo, execute_least, execute_process, undo_process, cancel_process, accept_process}
use Rattle.vt_steps.specs.promise.PartSteps.{execute, undo, cancel, with_effect, at_process, is_for, deliver, home, accept, part_after_send, mail_of_send, part_after_fetch, part_after_cut, report_least}
use Rattle.vt_steps.specs.promise.CellSteps.{CellEffect, may_send, send, fetch, cut, report, commit, close}
use Rattle.vt_steps.specs.promise.Next.{refused, done_or_refused, with_part, with_inbox, with_board, with_book, locally, at_cell, next}
use Rattle.vt_steps.specs.promise.BoardSteps.{cut_board, may_report}
use Rattle.vt_steps.specs.promise.BookSteps.{may_commit}
use Rattle.vt_steps.specs.inside.Copies.{letter_weight, mail_weight, part_sum, letter_sum}
use Rattle.vt_steps.specs.inside.Laws.{IsMessageExecuted, IsEventUndone, AreBothGone, AreLettersKept, AreLettersRight}
use Rattle.vt_key.specs.promise.Order.{key_same}
use Rattle.vt_key.specs.promise.Queues.{has_stamp, without_first}
use Rattle.vt_key.proofs.OrderLemmas.{key_same-true, stamp_same-true}
use Rattle.vt_key.proofs.ListLemmas.{find-passes}
use Rattle.vt_steps.proofs.steps.Changes.{Leaves, homes, arrives, map_has, chain_has, if_has, unless_has, empty_is}
use Rattle.vt_steps.proofs.steps.Outcomes.{locally-either, at_cell-either, done_or_refused-either, unless_closed-either}
use Rattle.vt_steps.proofs.lists.Sums.{sum_by-put, sum_by-single, sum_by-map, sum_by-filters}
use Rattle.vt_steps.proofs.letters.Balance.{ProcessBalance, PartBalance, execute-balance, undo-balance, cancel-balance, effect-balance, takes-balance, with_part-balance, commit-balance}

-- ---- a step of one process

-- a local step that is done, and the part before and after it
record DoneLocally {P : Type 0} (world : World P) (w : ℕ) (step : Part P → Option (Part P)) : Type 0 where
  part : Part P
  new : Part P
  is : slice_get world.parts w ≡ Some part
  takes : step part ≡ Some new
  gives : (locally world w step).world ≡ with_part world w new

locally-done : {P : Type 0} (world : World P) (w : ℕ) (step : Part P → Option (Part P)) → (locally world w step).answer ≡ Ok Done → DoneLocally world w step
locally-done {P = P} world w step e = by_part (slice_get world.parts w) refl
  where
    by_new : (part : Part P) (o : Option (Part P)) → slice_get world.parts w ≡ Some part → step part ≡ o → DoneLocally world w step
    by_new part None is takes =
        absurd (let same = ap (λ (o : Option (Part P)). (done_or_refused world (option_map (with_part world w) (option_and_then step o))).answer) is
        ∙ ap (λ (o : Option (Part P)). (done_or_refused world (option_map (with_part world w) o)).answer) takes in
        let h : Err NotLawful ≡ Ok Done = sym same ∙ e in cc)
    by_new part (Some new) is takes = record {
      part = part;
      new = new;
      is = is;
      takes = takes;
      gives = ap (λ (o : Option (Part P)). (done_or_refused world (option_map (with_part world w) (option_and_then step o))).world) is
          ∙ ap (λ (o : Option (Part P)). (done_or_refused world (option_map (with_part world w) o)).world) takes;
    }

    by_part : (o : Option (Part P)) → slice_get world.parts w ≡ o → DoneLocally world w step
    by_part None is =
        absurd (let same = ap (λ (o : Option (Part P)). (done_or_refused world (option_map (with_part world w) (option_and_then step o))).answer) is in
        let h : Err NotLawful ≡ Ok Done = sym same ∙ e in cc)
    by_part (Some part) is = by_new part (step part) is refl

-- a step of a process that is done, and what it does there
record DoneAt {P : Type 0} (step : LogicalProcess P → Option (ProcessEffect P)) (index : ℕ) (part new : Part P) : Type 0 where
  process : LogicalProcess P
  effect : ProcessEffect P
  at : slice_get part.processes index ≡ Some process
  takes : step process ≡ Some effect
  gives : new ≡ with_effect part index effect

at_process-done : {P : Type 0} (step : LogicalProcess P → Option (ProcessEffect P)) (index : ℕ) (part new : Part P) → at_process step index part ≡ Some new → DoneAt step index part new
at_process-done step index part new e =
    let has = map_has (with_effect part index) (option_and_then step (slice_get part.processes index)) new e in
    let at = chain_has step (slice_get part.processes index) has.0 has.1 in
    record { process = at.0; effect = has.0; at = at.1; takes = at.2; gives = has.2 }

-- the sums over the world after such a step
process-letters : {P : Type 0} (world : World P) (w index : ℕ) (step : Part P → Option (Part P)) (d : DoneLocally world w step)
    (at_one : LogicalProcess P → Option (ProcessEffect P)) (a : DoneAt at_one index d.part d.new) (come gone : List (Letter P)) (more fewer : List (Entry P)) →
    ProcessBalance a.process a.effect.process come gone more fewer → (f : Sign → Event P → ℕ) →
    letter_sum f (locally world w step).world + sum_by (letter_weight f) gone ≡ letter_sum f world + (sum_by (letter_weight f) come + sum_by (letter_weight f) a.effect.letters)
process-letters world w index step d at_one a come gone more fewer balance f =
    let b = (with_part-balance world w d.part (with_effect d.part index a.effect) _ _ _ _ d.is (effect-balance d.part index a.process a.effect come gone more fewer a.at balance)).letters f in
    let c = ap (letter_sum f) (d.gives ∙ ap (with_part world w) a.gives) in
    let e = sum_by-append (letter_weight f) come a.effect.letters in
    omega arith

-- ---- Execute, Undo and Cancel

record Executed {S P : Type 0} (sim : Simulation S P) (p w serial : ℕ) (process : LogicalProcess P) (effect : ProcessEffect P) : Type 0 where
  least : Letter P
  rest : List (Letter P)
  is : process.pending ≡ least ∷ rest
  does : effect ≡ effect_of_execute sim p w serial process least rest

execute-done : {S P : Type 0} (sim : Simulation S P) (p w serial : ℕ) (process : LogicalProcess P) (effect : ProcessEffect P) (pending : List (Letter P)) →
    process.pending ≡ pending → execute_least sim p w serial process pending ≡ Some effect → Executed sim p w serial process effect
execute-done sim p w serial process effect [] is e = absurd (let h : None ≡ Some effect = e in cc)
execute-done sim p w serial process effect (least ∷ rest) is e =
    let has = if_has (may_follow entry_rank (last_or None process.past) least.event.rank) _ effect e in
    record { least = least; rest = rest; is = is; does = has.1 }

record Undone {P : Type 0} (process : LogicalProcess P) (effect : ProcessEffect P) : Type 0 where
  last : Entry P
  is : last_or None process.past ≡ Some last
  does : effect ≡ effect_of_undo process last

undo-done : {P : Type 0} (process : LogicalProcess P) (effect : ProcessEffect P) → undo_process process ≡ Some effect → Undone process effect
undo-done {P = P} process effect e =
    let at = chain_has (λ (last : Entry P). cond (must_undo process.pending process.waiting last.event.rank) (Some (effect_of_undo process last)) None) (last_or None process.past) effect e in
    let has = if_has (must_undo process.pending process.waiting at.0.event.rank) _ effect at.2 in
    record { last = at.0; is = at.1; does = has.1 }

record Opposite {P : Type 0} (m p : Option (Letter P)) : Type 0 where
  minus : Letter P
  plus : Letter P
  waits : m ≡ Some minus
  pends : p ≡ Some plus
  keys : key_same minus.event.rank.key plus.event.rank.key ≡ true

opposite-are : {P : Type 0} (m p : Option (Letter P)) → are_opposite m p ≡ true → Opposite m p
opposite-are None p e = absurd (let h : false ≡ true = e in cc)
opposite-are (Some minus) None e = absurd (let h : false ≡ true = e in cc)
opposite-are (Some minus) (Some plus) e = record { minus = minus; plus = plus; waits = refl; pends = refl; keys = e }

-- the letters of these events weigh what the events do
signed-sum : {P : Type 0} (f : Sign → Event P → ℕ) (sign : Sign) (events : List (Event P)) → sum_by (letter_weight f) (map (signed sign) events) ≡ sum_by (f sign) events
signed-sum f sign events = sum_by-map (letter_weight f) (signed sign) events

execute-letters : {S P : Type 0} (sim : Simulation S P) (world : World P) (p : ℕ) → (next sim world (Execute p)).answer ≡ Ok Done →
    (entry : Entry P) × IsMessageExecuted entry world (next sim world (Execute p)).world
unfolding next effect_of_execute
execute-letters {P = P} sim world p done =
    let w : ℕ = p % sim.workers in
    let index : ℕ = p / sim.workers in
    let q : ℕ = process_at sim w index in
    let d = locally-done world w (execute sim w index) done in
    let a = at_process-done (execute_process sim q w d.part.serial) index d.part d.new d.takes in
    let x = execute-done sim q w d.part.serial a.process a.effect a.process.pending refl a.takes in
    let fired = sim.fire q (triple_after sim q (a.process.done ++ a.process.past)) (unstamped x.least.event) in
    let entry : Entry P = record { event = x.least.event; sent = stamped w d.part.serial fired.sends } in
    let come : List (Letter P) = [] in
    let fewer : List (Entry P) = [] in
    let balance : ProcessBalance a.process a.effect.process come (signed Plus entry.event ∷ []) (entry ∷ []) fewer =
    subst (λ (e : ProcessEffect P). ProcessBalance a.process e.process come (signed Plus entry.event ∷ []) (entry ∷ []) fewer) (sym x.does)
    (execute-balance sim q w d.part.serial a.process x.least x.rest x.is) in (
      entry,
      λ f.
          (let b = process-letters world w index (execute sim w index) d _ a come (signed Plus entry.event ∷ []) (entry ∷ []) fewer balance f in
          let g = sum_by-single (letter_weight f) (signed Plus entry.event) in
          let m = ap (λ (e : ProcessEffect P). sum_by (letter_weight f) e.letters) x.does in
          let n = signed-sum f Plus entry.sent in
          omega arith),
    )

undo-letters : {S P : Type 0} (sim : Simulation S P) (world : World P) (p : ℕ) → (next sim world (Undo p)).answer ≡ Ok Done →
    (entry : Entry P) × IsEventUndone entry world (next sim world (Undo p)).world
unfolding next effect_of_undo
undo-letters {P = P} sim world p done =
    let w : ℕ = p % sim.workers in
    let index : ℕ = p / sim.workers in
    let d = locally-done world w (undo index) done in
    let a = at_process-done undo_process index d.part d.new d.takes in
    let x = undo-done a.process a.effect a.takes in
    let gone : List (Letter P) = [] in
    let more : List (Entry P) = [] in
    let balance : ProcessBalance a.process a.effect.process (signed Plus x.last.event ∷ []) gone more (x.last ∷ []) =
    subst (λ (e : ProcessEffect P). ProcessBalance a.process e.process (signed Plus x.last.event ∷ []) gone more (x.last ∷ [])) (sym x.does)
    (undo-balance a.process x.last x.is) in (
      x.last,
      λ f.
          (let b = process-letters world w index (undo index) d _ a (signed Plus x.last.event ∷ []) gone more (x.last ∷ []) balance f in
          let g = sum_by-single (letter_weight f) (signed Plus x.last.event) in
          let m = ap (λ (e : ProcessEffect P). sum_by (letter_weight f) e.letters) x.does in
          let n = signed-sum f Minus x.last.sent in
          omega arith),
    )

cancel-letters : {S P : Type 0} (sim : Simulation S P) (world : World P) (p : ℕ) (stamp : Stamp) → (next sim world (Cancel p stamp)).answer ≡ Ok Done →
    (message anti_message : Event P) × (message.rank.stamp ≡ stamp) × (anti_message.rank ≡ message.rank)
    × AreBothGone message anti_message world (next sim world (Cancel p stamp)).world
unfolding next cancel_process
cancel-letters {P = P} sim world p stamp done =
    let w : ℕ = p % sim.workers in
    let index : ℕ = p / sim.workers in
    let d = locally-done world w (cancel index stamp) done in
    let a = at_process-done (cancel_process stamp) index d.part d.new d.takes in
    let has = if_has (are_opposite (find (has_stamp stamp) a.process.waiting) (find (has_stamp stamp) a.process.pending)) _ a.effect a.takes in
    let both = opposite-are (find (has_stamp stamp) a.process.waiting) (find (has_stamp stamp) a.process.pending) has.0 in
    let come : List (Letter P) = [] in
    let gone : List (Letter P) = signed Minus both.minus.event ∷ signed Plus both.plus.event ∷ [] in
    let more : List (Entry P) = [] in
    let balance : ProcessBalance a.process a.effect.process come gone more more =
    subst (λ (e : ProcessEffect P). ProcessBalance a.process e.process come gone more more) (sym has.1)
    (cancel-balance a.process stamp both.minus both.plus both.waits both.pends) in
    let plus_stamp = stamp_same-true both.plus.event.rank.stamp stamp (find-passes (has_stamp stamp) a.process.pending both.plus both.pends) in
    let minus_stamp = stamp_same-true both.minus.event.rank.stamp stamp (find-passes (has_stamp stamp) a.process.waiting both.minus both.waits) in
    let keys = key_same-true both.minus.event.rank.key both.plus.event.rank.key both.keys in
    let stamps = minus_stamp ∙ sym plus_stamp in (
      both.plus.event,
      both.minus.event,
      plus_stamp,
      λ i. record { key = keys i; stamp = stamps i },
      λ f.
          (let b = process-letters world w index (cancel index stamp) d _ a come gone more more balance f in
          let g = sum_by-cons (letter_weight f) (signed Minus both.minus.event) (signed Plus both.plus.event ∷ []) in
          let h = sum_by-single (letter_weight f) (signed Plus both.plus.event) in
          let m = ap (λ (e : ProcessEffect P). sum_by (letter_weight f) e.letters) has.1 in
          omega arith),
    )

-- ---- the steps that only move letters

-- whatever a local step makes of the part, the letters are kept
locally-kept : {P : Type 0} (world : World P) (w : ℕ) (step : Part P → Option (Part P)) →
    ((part new : Part P) → step part ≡ Some new → PartBalance part new [] [] [] []) → AreLettersKept world (locally world w step).world
locally-kept world w step kept =
    locally-either world w step (λ o. AreLettersKept world o.world) (λ f. refl) (λ part new is takes f.
    (let b = (with_part-balance world w part new _ _ _ _ is (kept part new takes)).letters f in omega arith))

-- a letter that leaves the outbox or the arrived mail goes to its process
deliver-balance : {S P : Type 0} (sim : Simulation S P) (w : ℕ) (old part new : Part P) (letter : Letter P) → Leaves sim w old part letter → deliver sim part letter ≡ Some new →
    PartBalance old new [] [] [] []
unfolding accept_process
deliver-balance {P = P} sim w old part new letter leaves e =
    let index : ℕ = letter.event.dest / sim.workers in
    let a = at_process-done (accept_process letter) index part new e in
    let free = unless_has (holds entry_rank a.process.pending a.process.waiting a.process.past letter.sign letter.event.rank) _ a.effect a.takes in
    subst (λ n. PartBalance old n [] [] [] []) (sym (a.gives ∙ ap (with_effect part index) free.1))
    (takes-balance sim w index old part letter a.process leaves a.at)

home-balance : {S P : Type 0} (sim : Simulation S P) (w : ℕ) (part new : Part P) → home sim w part ≡ Some new → PartBalance part new [] [] [] []
home-balance {P = P} sim w part new e =
    let left : Part P = record part { outbox = without_first (is_for sim.workers w) part.outbox } in
    let at = chain_has (deliver sim left) (find (is_for sim.workers w) part.outbox) new e in
    deliver-balance sim w part left new at.0 (homes at.1 refl) at.2

accept-balance : {S P : Type 0} (sim : Simulation S P) (w i : ℕ) (part new : Part P) → accept sim i part ≡ Some new → PartBalance part new [] [] [] []
accept-balance {P = P} sim w i part new e =
    let left : Part P = record part { arrived = remove part.arrived i } in
    let at = chain_has (λ (mail : Mail P). deliver sim left mail.letter) (slice_get part.arrived i) new e in
    deliver-balance sim w part left new at.0.letter (arrives i at.0 at.1 refl refl) at.2

-- whatever is done at a cell, the letters are kept
cell-kept : {P C : Type 0} (world : World P) (w : ℕ) (put : World P → C → World P) (step : Part P → C → Option (CellEffect P C)) (cell : Option C) →
    ((part : Part P) (held : C) (effect : CellEffect P C) → slice_get world.parts w ≡ Some part → cell ≡ Some held → step part held ≡ Some effect →
    AreLettersKept world (put (with_part world w effect.part) effect.cell)) →
    AreLettersKept world (at_cell world w put step cell).world
cell-kept world w put step cell kept = at_cell-either world w put step cell (λ o. AreLettersKept world o.world) (λ f. refl) kept

-- the letters for v go from an outbox to an inbox
send-kept : {S P : Type 0} (sim : Simulation S P) (world : World P) (w v : ℕ) → AreLettersKept world (at_cell world w (with_inbox v) (send sim w v) (slice_get world.inboxes v)).world
unfolding send letter_sum part_after_send mail_of_send
send-kept {P = P} sim world w v =
    cell-kept world w (with_inbox v) (send sim w v) (slice_get world.inboxes v) (λ part inbox effect is holds e f.
    (let has = if_has (may_send sim.workers w v part.outbox) _ effect e in
    let same = ap (λ (n : CellEffect P (List (Mail P))). letter_sum f (with_inbox v (with_part world w n.part) n.cell)) has.1 in
    let x = sum_by-put (part_sum f) world.parts w part (part_after_send sim v part) is in
    let z = sum_by-put (sum_by (mail_weight f)) world.inboxes v inbox (inbox ++ mail_of_send sim v part) holds in
    let a = sum_by-append (mail_weight f) inbox (mail_of_send sim v part) in
    let b = sum_by-filters (letter_weight f) (is_for sim.workers v) part.outbox in
    let wrap : Letter P → Mail P = λ letter. record { letter = letter; colour = part.colour } in
    let c = sum_by-map (mail_weight f) wrap (filter (is_for sim.workers v) part.outbox) in
    omega arith))

-- an inbox becomes what has arrived
fetch-kept : {P : Type 0} (world : World P) (w : ℕ) → AreLettersKept world (at_cell world w (with_inbox w) fetch (slice_get world.inboxes w)).world
unfolding fetch letter_sum part_after_fetch
fetch-kept {P = P} world w =
    cell-kept world w (with_inbox w) fetch (slice_get world.inboxes w) (λ part inbox effect is holds e f.
    (let has = if_has (is_empty part.arrived) _ effect e in
    let same = ap (λ (n : CellEffect P (List (Mail P))). letter_sum f (with_inbox w (with_part world w n.part) n.cell)) has.1 in
    let empty : List (Mail P) = [] in
    let x = sum_by-put (part_sum f) world.parts w part (part_after_fetch inbox part) is in
    let z = sum_by-put (sum_by (mail_weight f)) world.inboxes w inbox empty holds in
    let a = ap (sum_by (mail_weight f)) (empty_is part.arrived has.0) in
    omega arith))

-- a part gives way to one with the same letters, and the inboxes stay
part-kept : {P C : Type 0} (world : World P) (w : ℕ) (put : World P → C → World P) (step : Part P → C → Option (CellEffect P C)) (cell : Option C) →
    ((new : World P) (c : C) → (put new c).parts ≡ new.parts) → ((new : World P) (c : C) → (put new c).inboxes ≡ new.inboxes) →
    ((part : Part P) (held : C) (effect : CellEffect P C) → step part held ≡ Some effect → (f : Sign → Event P → ℕ) → part_sum f effect.part ≡ part_sum f part) →
    AreLettersKept world (at_cell world w put step cell).world
unfolding letter_sum
part-kept world w put step cell parts inboxes kept =
    cell-kept world w put step cell (λ part held effect is holds e f.
    (let new = with_part world w effect.part in
    let x = sum_by-put (part_sum f) world.parts w part effect.part is in
    let y = ap (sum_by (part_sum f)) (parts new effect.cell) in
    let z = ap (sum_by (sum_by (mail_weight f))) (inboxes new effect.cell) in
    let same = kept part held effect e f in
    omega arith))

cut-kept : {S P : Type 0} (sim : Simulation S P) (world : World P) (w : ℕ) → AreLettersKept world (at_cell world w with_board (cut sim w) (Some world.board)).world
unfolding cut part_after_cut
cut-kept {P = P} sim world w =
    part-kept world w with_board (cut sim w) (Some world.board) (λ new c. refl) (λ new c. refl) (λ part board effect e f.
    ap (λ (n : CellEffect P Board). part_sum f n.part) (map_has _ (cut_board sim.end w board) effect e).2)

report-kept : {S P : Type 0} (sim : Simulation S P) (world : World P) (w : ℕ) → AreLettersKept world (at_cell world w with_board (report sim w) (Some world.board)).world
unfolding report
report-kept {P = P} sim world w =
    part-kept world w with_board (report sim w) (Some world.board) (λ new c. refl) (λ new c. refl) (λ part board effect e f.
    ap (λ (n : CellEffect P Board). part_sum f n.part) (if_has (may_report w (report_least sim.end part) board) _ effect e).1)

commit-kept : {S P : Type 0} (sim : Simulation S P) (world : World P) (w : ℕ) → AreLettersKept world (at_cell world w with_book (commit sim w) (Some world.book)).world
unfolding commit
commit-kept {P = P} sim world w =
    part-kept world w with_book (commit sim w) (Some world.book) (λ new c. refl) (λ new c. refl) (λ part book effect e f.
    (let same = ap (λ (n : CellEffect P Book). part_sum f n.part) (if_has (may_commit (slice_get book.floors w) part.floor) _ effect e).1 in
    let b = (commit-balance part).letters f in
    omega arith))

close-kept : {S P : Type 0} (sim : Simulation S P) (world : World P) → AreLettersKept world (done_or_refused world (option_map (with_book world) (close sim world.book))).world
unfolding letter_sum
close-kept sim world =
    done_or_refused-either world (option_map (with_book world) (close sim world.book)) (λ o. AreLettersKept world o.world) (λ f. refl) (λ new e f.
    ap (letter_sum f) (map_has (with_book world) (close sim world.book) new e).2)

moves-kept : {S P : Type 0} (sim : Simulation S P) (world : World P) (step : Step) → ((p : ℕ) → step ≡ Execute p → ⊥) → ((p : ℕ) → step ≡ Undo p → ⊥) →
    ((p : ℕ) (stamp : Stamp) → step ≡ Cancel p stamp → ⊥) → AreLettersKept world (next sim world step).world
unfolding next
moves-kept sim world (Execute p) x u c = absurd (x p refl)
moves-kept sim world (Undo p) x u c = absurd (u p refl)
moves-kept sim world (Cancel p stamp) x u c = absurd (c p stamp refl)
moves-kept sim world (Home w) x u c = locally-kept world w (home sim w) (home-balance sim w)
moves-kept sim world (Accept w i) x u c = locally-kept world w (accept sim i) (accept-balance sim w i)
moves-kept sim world (Send w v) x u c = send-kept sim world w v
moves-kept sim world (Fetch w) x u c = fetch-kept world w
moves-kept sim world (Cut w) x u c = cut-kept sim world w
moves-kept sim world (Report w) x u c = report-kept sim world w
moves-kept sim world (Commit w) x u c = unless_closed-either world.book (refused world) _ (λ o. AreLettersKept world o.world) (λ shut f. refl) (λ is_open. commit-kept sim world w)
moves-kept sim world Close x u c = unless_closed-either world.book (refused world) _ (λ o. AreLettersKept world o.world) (λ shut f. refl) (λ is_open. close-kept sim world)

pub letters_right : {S P : Type 0} (sim : Simulation S P) (world : World P) → AreLettersRight sim world
letters_right sim world = record {
  executed = execute-letters sim world;
  undone = undo-letters sim world;
  cancelled = cancel-letters sim world;
  kept = moves-kept sim world;
}
