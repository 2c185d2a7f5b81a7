-- What a step does, case by case: what each of these changes keeps is proved over the cases.
use Rattle.std.proofs.Common.{◌≡◌, ℕ, ◌/◌, ◌%◌, Bool, true, false, cond, List, [], ◌∷◌, ◌++◌, refl, ◌∙◌, ap, Option, Some, None, slice_get, slice_set}
use Rattle.std.specs.List.{find, last_or, remove}
use Rattle.std.specs.Option.{option_map, option_and_then}
use Rattle.vt_key.specs.promise.Order.{key_same}
use Rattle.vt_key.specs.promise.Queues.{has_stamp, without_first}
use Rattle.vt_key.specs.declared.letter.Letter.{Letter}
use Rattle.vt_key.specs.declared.letter.Mail.{Mail}
use Rattle.vt_key.specs.declared.order.Stamp.{Stamp}
use Rattle.vt_model.specs.promise.Simulation.{Simulation}
use Rattle.vt_steps.specs.promise.BoardSteps.{cut_board, may_report, with_report}
use Rattle.vt_steps.specs.promise.BookSteps.{may_commit, may_close, with_rows}
use Rattle.vt_steps.specs.promise.Letters.{is_empty}
use Rattle.vt_steps.specs.promise.CellSteps.{CellEffect, close, commit, cut, fetch, may_send, report, reported, send}
use Rattle.vt_steps.specs.promise.Next.{at_cell, done_or_refused, locally, next, refused, run, with_board, with_book, with_inbox, with_part}
use Rattle.vt_steps.specs.promise.PartSteps.{at_process, deliver, is_for, mail_of_send, part_after_commit, part_after_cut, part_after_fetch, part_after_send, report_got, report_least, report_sent, rows_of_commit, with_effect, accept, home}
use Rattle.vt_steps.specs.promise.ProcessSteps.{ProcessEffect, accept_process, are_opposite, cancel_process, effect_of_execute, effect_of_undo, execute_least, holds, may_follow, must_undo, with_letter, undo_process}
use Rattle.vt_steps.specs.promise.World.{Board, Book, Entry, LogicalProcess, Part, World, process_at, entry_rank}
use Rattle.vt_steps.specs.declared.step.Step.{Step}
use Rattle.vt_steps.specs.declared.step.Step.TheVariants.{Accept, Cancel, Close, Commit, Cut, Execute, Fetch, Home, Report, Send, Undo}
use Rattle.vt_steps.proofs.steps.Outcomes.{at_cell-either, done_or_refused-either, locally-either, unless_closed-either}

-- what a process does in a step of its own: it executes its least pending event, undoes its last past one, or a message
-- and its anti-message annihilate each other
pub data Act {S P : Type 0} (sim : Simulation S P) (p w serial : ℕ) (old : LogicalProcess P) (new : ProcessEffect P) : Type 0 where
  executes : (least : Letter P) (rest : List (Letter P)) → old.pending ≡ least ∷ rest →
      may_follow entry_rank (last_or None old.past) least.event.rank ≡ true → new ≡ effect_of_execute sim p w serial old least rest → Act sim p w serial old new
  undoes : (last : Entry P) → last_or None old.past ≡ Some last → must_undo old.pending old.waiting last.event.rank ≡ true → new ≡ effect_of_undo old last → Act sim p w serial old new
  cancels : (stamp : Stamp) (minus plus : Letter P) → find (has_stamp stamp) old.waiting ≡ Some minus → find (has_stamp stamp) old.pending ≡ Some plus →
      key_same minus.event.rank.key plus.event.rank.key ≡ true →
      new ≡ record {
        process = record old { pending = without_first (has_stamp stamp) old.pending; waiting = without_first (has_stamp stamp) old.waiting };
        letters = [];
        serials = 0;
      } → Act sim p w serial old new

-- a letter leaves the outbox for home, or the mail that has arrived
pub data Leaves {S P : Type 0} (sim : Simulation S P) (w : ℕ) (old new : Part P) (letter : Letter P) : Type 0 where
  homes : find (is_for sim.workers w) old.outbox ≡ Some letter → new ≡ record old { outbox = without_first (is_for sim.workers w) old.outbox } → Leaves sim w old new letter
  arrives : (i : ℕ) (mail : Mail P) → slice_get old.arrived i ≡ Some mail → letter ≡ mail.letter → new ≡ record old { arrived = remove old.arrived i } → Leaves sim w old new letter

-- a local step of worker w: a process acts, or takes a letter
pub data Local {S P : Type 0} (sim : Simulation S P) (w : ℕ) (old new : Part P) : Type 0 where
  acts : (index : ℕ) (process : LogicalProcess P) (acted : ProcessEffect P) → slice_get old.processes index ≡ Some process →
      Act sim (process_at sim w index) w old.serial process acted → new ≡ with_effect old index acted → Local sim w old new
  takes : (part : Part P) (letter : Letter P) (index : ℕ) (process : LogicalProcess P) → Leaves sim w old part letter →
      slice_get part.processes index ≡ Some process → index ≡ letter.event.dest / sim.workers → holds entry_rank process.pending process.waiting process.past letter.sign letter.event.rank ≡ false →
      new ≡ with_effect part index (record { process = with_letter process letter.sign letter; letters = []; serials = 0 }) → Local sim w old new

-- the world after a lawful report of w on this board
abbrev pub with_reported : {S P : Type 0} → Simulation S P → World P → ℕ → Part P → Board → World P
with_reported sim world w part board = let effect = reported sim part board in with_board (with_part world w effect.part) effect.cell

-- what a step does to a world: nothing, or one of these
pub data Change {S P : Type 0} (sim : Simulation S P) (old new : World P) : Type 0 where
  stays : new ≡ old → Change sim old new
  local : (w : ℕ) (part after : Part P) → slice_get old.parts w ≡ Some part → Local sim w part after → new ≡ with_part old w after → Change sim old new
  sends : (w v : ℕ) (part : Part P) (inbox : List (Mail P)) → slice_get old.parts w ≡ Some part → slice_get old.inboxes v ≡ Some inbox →
      new ≡ record old { parts = slice_set old.parts w (part_after_send sim v part); inboxes = slice_set old.inboxes v (inbox ++ mail_of_send sim v part) } → Change sim old new
  fetches : (w : ℕ) (part : Part P) (inbox : List (Mail P)) → slice_get old.parts w ≡ Some part → slice_get old.inboxes w ≡ Some inbox → part.arrived ≡ [] →
      new ≡ record old { parts = slice_set old.parts w (part_after_fetch inbox part); inboxes = slice_set old.inboxes w [] } → Change sim old new
  cuts : (w : ℕ) (part : Part P) (board : Board) → slice_get old.parts w ≡ Some part → cut_board sim.end w old.board ≡ Some board →
      new ≡ record old { parts = slice_set old.parts w (part_after_cut sim.end old.board.announced part); board = board } → Change sim old new
  reports : (w : ℕ) (part : Part P) → slice_get old.parts w ≡ Some part → may_report w (report_least sim.end part) old.board ≡ true →
      new ≡ with_reported sim old w part (with_report w (report_sent part) (report_got part) (report_least sim.end part) old.board) → Change sim old new
  commits : (w : ℕ) (part : Part P) → slice_get old.parts w ≡ Some part → old.book.is_closed ≡ false → may_commit (slice_get old.book.floors w) part.floor ≡ true →
      new ≡ record old { parts = slice_set old.parts w (part_after_commit part); book = with_rows w (rows_of_commit sim w part) part.floor old.book } → Change sim old new
  closes : old.book.is_closed ≡ false → may_close sim.end old.book ≡ true →
      new ≡ record old { book = record old.book { is_closed = true } } → Change sim old new

-- ---- an Option that has a value

-- an image of what is there
pub map_has : {X Y : Type 0} (g : X → Y) (o : Option X) (y : Y) → option_map g o ≡ Some y → (x : X) × (o ≡ Some x) × (y ≡ g x)
map_has g None y e = absurd (let h : None ≡ Some y = e in cc)
map_has g (Some x) y e = (x, refl, let h : Some (g x) ≡ Some y = e in cc)

-- what is there leads to it
pub chain_has : {X Y : Type 0} (g : X → Option Y) (o : Option X) (y : Y) → option_and_then g o ≡ Some y → (x : X) × (o ≡ Some x) × (g x ≡ Some y)
chain_has g None y e = absurd (let h : None ≡ Some y = e in cc)
chain_has g (Some x) y e = (x, refl, e)

-- the test passed
pub if_has : {X : Type 0} (b : Bool) (x y : X) → cond b (Some x) None ≡ Some y → (b ≡ true) × (y ≡ x)
if_has true x y e = (refl, let h : Some x ≡ Some y = e in cc)
if_has false x y e = absurd (let h : None ≡ Some y = e in cc)

-- the test did not pass
pub unless_has : {X : Type 0} (b : Bool) (x y : X) → cond b None (Some x) ≡ Some y → (b ≡ false) × (y ≡ x)
unless_has false x y e = (refl, let h : Some x ≡ Some y = e in cc)
unless_has true x y e = absurd (let h : None ≡ Some y = e in cc)

-- ---- at a process

-- Execute
pub execute_acts : {S P : Type 0} (sim : Simulation S P) (p w serial : ℕ) (old : LogicalProcess P) (pending : List (Letter P)) (new : ProcessEffect P) →
    old.pending ≡ pending → execute_least sim p w serial old pending ≡ Some new → Act sim p w serial old new
execute_acts sim p w serial old [] new is e = absurd (let h : None ≡ Some new = e in cc)
execute_acts sim p w serial old (least ∷ rest) new is e =
    let has = if_has (may_follow entry_rank (last_or None old.past) least.event.rank) (effect_of_execute sim p w serial old least rest) new e in
    executes least rest is has.0 has.1

-- Undo
pub undo_acts : {S P : Type 0} (sim : Simulation S P) (p w serial : ℕ) (old : LogicalProcess P) (new : ProcessEffect P) → undo_process old ≡ Some new → Act sim p w serial old new
undo_acts {P = P} sim p w serial old new e =
    let at = chain_has (λ (last : Entry P). cond (must_undo old.pending old.waiting last.event.rank) (Some (effect_of_undo old last)) None) (last_or None old.past) new e in
    let has = if_has (must_undo old.pending old.waiting at.0.event.rank) (effect_of_undo old at.0) new at.2 in
    undoes at.0 at.1 has.0 has.1

-- two letters that annihilate each other are there
opposite_are : {P : Type 0} (m p : Option (Letter P)) → are_opposite m p ≡ true → (minus : Letter P) × (plus : Letter P) × (m ≡ Some minus) × (p ≡ Some plus) × (key_same minus.event.rank.key plus.event.rank.key ≡ true)
opposite_are None p e = absurd (let h : false ≡ true = e in cc)
opposite_are (Some minus) None e = absurd (let h : false ≡ true = e in cc)
opposite_are (Some minus) (Some plus) e = (minus, plus, refl, refl, e)

-- Cancel
pub cancel_acts : {S P : Type 0} (sim : Simulation S P) (p w serial : ℕ) (old : LogicalProcess P) (stamp : Stamp) (new : ProcessEffect P) →
    cancel_process stamp old ≡ Some new → Act sim p w serial old new
unfolding cancel_process
cancel_acts sim p w serial old stamp new e =
    let has = if_has (are_opposite (find (has_stamp stamp) old.waiting) (find (has_stamp stamp) old.pending)) _ new e in
    let both = opposite_are (find (has_stamp stamp) old.waiting) (find (has_stamp stamp) old.pending) has.0 in
    cancels stamp both.0 both.1 both.2 both.3 both.4 has.1

-- ---- at a part

-- a step at the process of an index
pub at_process_acts : {S P : Type 0} (sim : Simulation S P) (w : ℕ) (act : LogicalProcess P → Option (ProcessEffect P)) (index : ℕ) (old new : Part P) →
    ((process : LogicalProcess P) (acted : ProcessEffect P) → act process ≡ Some acted → Act sim (process_at sim w index) w old.serial process acted) →
    at_process act index old ≡ Some new → Local sim w old new
at_process_acts sim w act index old new means e =
    let has = map_has (with_effect old index) (option_and_then act (slice_get old.processes index)) new e in
    let at = chain_has act (slice_get old.processes index) has.0 has.1 in
    acts index at.0 has.0 at.1 (means at.0 has.0 at.2) has.2

-- a letter goes to its process
pub deliver_takes : {S P : Type 0} (sim : Simulation S P) (w : ℕ) (old part new : Part P) (letter : Letter P) →
    Leaves sim w old part letter → deliver sim part letter ≡ Some new → Local sim w old new
unfolding accept_process
deliver_takes sim w old part new letter leaves e =
    let index = letter.event.dest / sim.workers in
    let has = map_has (with_effect part index) (option_and_then (accept_process letter) (slice_get part.processes index)) new e in
    let at = chain_has (accept_process letter) (slice_get part.processes index) has.0 has.1 in
    let free = unless_has (holds entry_rank at.0.pending at.0.waiting at.0.past letter.sign letter.event.rank) _ has.0 at.2 in
    takes part letter index at.0 leaves at.1 refl free.0 (has.2 ∙ ap (with_effect part index) free.1)

-- Home
home_takes : {S P : Type 0} (sim : Simulation S P) (w : ℕ) (old new : Part P) → home sim w old ≡ Some new → Local sim w old new
home_takes {P = P} sim w old new e =
    let part : Part P = record old { outbox = without_first (is_for sim.workers w) old.outbox } in
    let at = chain_has (deliver sim part) (find (is_for sim.workers w) old.outbox) new e in
    deliver_takes sim w old part new at.0 (homes at.1 refl) at.2

-- Accept
accept_takes : {S P : Type 0} (sim : Simulation S P) (w i : ℕ) (old new : Part P) → accept sim i old ≡ Some new → Local sim w old new
accept_takes {P = P} sim w i old new e =
    let part : Part P = record old { arrived = remove old.arrived i } in
    let at = chain_has (λ (mail : Mail P). deliver sim part mail.letter) (slice_get old.arrived i) new e in
    deliver_takes sim w old part new at.0.letter (arrives i at.0 at.1 refl refl) at.2

-- ---- at a world

-- a list that is empty
pub empty_is : {X : Type 0} (xs : List X) → is_empty xs ≡ true → xs ≡ []
empty_is [] e = refl
empty_is (x ∷ xs) e = absurd (let h : false ≡ true = e in cc)

-- a local step
locally_changes : {S P : Type 0} (sim : Simulation S P) (old : World P) (w : ℕ) (step : Part P → Option (Part P)) →
    ((part after : Part P) → step part ≡ Some after → Local sim w part after) → Change sim old (locally old w step).world
locally_changes sim old w step means =
    locally-either old w step (λ o. Change sim old o.world) (stays refl) (λ part after is e. local w part after is (means part after e) refl)

-- a step at a cell
cell_changes : {S P C : Type 0} (sim : Simulation S P) (old : World P) (w : ℕ) (put : World P → C → World P) (step : Part P → C → Option (CellEffect P C)) (cell : Option C) →
    ((part : Part P) (held : C) (effect : CellEffect P C) → slice_get old.parts w ≡ Some part → cell ≡ Some held → step part held ≡ Some effect →
    Change sim old (put (with_part old w effect.part) effect.cell)) →
    Change sim old (at_cell old w put step cell).world
cell_changes sim old w put step cell means = at_cell-either old w put step cell (λ o. Change sim old o.world) (stays refl) means

-- Send
send_changes : {S P : Type 0} (sim : Simulation S P) (old : World P) (w v : ℕ) → Change sim old (at_cell old w (with_inbox v) (send sim w v) (slice_get old.inboxes v)).world
unfolding send
send_changes {P = P} sim old w v =
    cell_changes sim old w (with_inbox v) (send sim w v) (slice_get old.inboxes v) (λ part inbox effect is holds e.
    (let has = if_has (may_send sim.workers w v part.outbox) _ effect e in
    sends w v part inbox is holds (ap (λ (x : CellEffect P (List (Mail P))). with_inbox v (with_part old w x.part) x.cell) has.1)))

-- Fetch
fetch_changes : {S P : Type 0} (sim : Simulation S P) (old : World P) (w : ℕ) → Change sim old (at_cell old w (with_inbox w) fetch (slice_get old.inboxes w)).world
unfolding fetch
fetch_changes {P = P} sim old w =
    cell_changes sim old w (with_inbox w) fetch (slice_get old.inboxes w) (λ part inbox effect is holds e.
    (let has = if_has (is_empty part.arrived) _ effect e in
    fetches w part inbox is holds (empty_is part.arrived has.0) (ap (λ (x : CellEffect P (List (Mail P))). with_inbox w (with_part old w x.part) x.cell) has.1)))

-- Cut
cut_changes : {S P : Type 0} (sim : Simulation S P) (old : World P) (w : ℕ) → Change sim old (at_cell old w with_board (cut sim w) (Some old.board)).world
unfolding cut
cut_changes {P = P} sim old w =
    cell_changes sim old w with_board (cut sim w) (Some old.board) (λ part board effect is holds e.
    (let same : old.board ≡ board = cc in
    let has = map_has _ (cut_board sim.end w old.board) effect (ap (λ b. cut sim w part b) same ∙ e) in
    cuts w part has.0 is has.1 (ap (λ (x : CellEffect P Board). with_board (with_part old w x.part) x.cell) has.2)))

-- Report
report_changes : {S P : Type 0} (sim : Simulation S P) (old : World P) (w : ℕ) → Change sim old (at_cell old w with_board (report sim w) (Some old.board)).world
unfolding report
report_changes {P = P} sim old w =
    cell_changes sim old w with_board (report sim w) (Some old.board) (λ part board effect is holds e.
    (let same : old.board ≡ board = cc in
    let has = if_has (may_report w (report_least sim.end part) old.board) _ effect (ap (λ b. report sim w part b) same ∙ e) in
    reports w part is has.0 (ap (λ (x : CellEffect P Board). with_board (with_part old w x.part) x.cell) has.1)))

-- Commit
commit_changes : {S P : Type 0} (sim : Simulation S P) (old : World P) (w : ℕ) → old.book.is_closed ≡ false → Change sim old (at_cell old w with_book (commit sim w) (Some old.book)).world
unfolding commit
commit_changes {P = P} sim old w open_is =
    cell_changes sim old w with_book (commit sim w) (Some old.book) (λ part book effect is holds e.
    (let same : old.book ≡ book = cc in
    let has = if_has (may_commit (slice_get old.book.floors w) part.floor) _ effect (ap (λ b. commit sim w part b) same ∙ e) in
    commits w part is open_is has.0 (ap (λ (x : CellEffect P Book). with_book (with_part old w x.part) x.cell) has.1)))

-- Close
close_changes : {S P : Type 0} (sim : Simulation S P) (old : World P) → old.book.is_closed ≡ false → Change sim old (done_or_refused old (option_map (with_book old) (close sim old.book))).world
unfolding close
close_changes sim old open_is =
    done_or_refused-either old (option_map (with_book old) (close sim old.book)) (λ o. Change sim old o.world) (stays refl) (λ new e.
    (let at = map_has (with_book old) (close sim old.book) new e in
    let has = if_has (may_close sim.end old.book) _ at.0 at.1 in
    closes open_is has.0 (at.2 ∙ ap (with_book old) has.1)))

-- each step
pub next_changes : {S P : Type 0} (sim : Simulation S P) (old : World P) (step : Step) → Change sim old (next sim old step).world
unfolding next
next_changes sim old (Execute p) = locally_changes sim old (p % sim.workers) _ (λ part after. at_process_acts sim (p % sim.workers) _ (p / sim.workers) part after (λ process acted. execute_acts sim _ _ _ process process.pending acted refl))
next_changes sim old (Undo p) = locally_changes sim old (p % sim.workers) _ (λ part after. at_process_acts sim (p % sim.workers) _ (p / sim.workers) part after (undo_acts sim _ _ _))
next_changes sim old (Cancel p stamp) = locally_changes sim old (p % sim.workers) _ (λ part after. at_process_acts sim (p % sim.workers) _ (p / sim.workers) part after (λ process acted. cancel_acts sim _ _ _ process stamp acted))
next_changes sim old (Home w) = locally_changes sim old w _ (λ part after. home_takes sim w part after)
next_changes sim old (Accept w i) = locally_changes sim old w _ (λ part after. accept_takes sim w i part after)
next_changes sim old (Send w v) = send_changes sim old w v
next_changes sim old (Fetch w) = fetch_changes sim old w
next_changes sim old (Cut w) = cut_changes sim old w
next_changes sim old (Report w) = report_changes sim old w
next_changes sim old (Commit w) = unless_closed-either old.book (refused old) _ (λ o. Change sim old o.world) (λ shut. stays refl) (commit_changes sim old w)
next_changes sim old Close = unless_closed-either old.book (refused old) _ (λ o. Change sim old o.world) (λ shut. stays refl) (close_changes sim old)

-- what each change keeps, each run keeps
pub run_keeps : {S P : Type 0} (sim : Simulation S P) (Keeps : World P → Type 0) → ((old new : World P) → Change sim old new → Keeps old → Keeps new) →
    (steps : List Step) (world : World P) → Keeps world → Keeps (run sim world steps)
unfolding run
run_keeps sim Keeps kept [] world holds = holds
run_keeps sim Keeps kept (step ∷ steps) world holds =
    run_keeps sim Keeps kept steps (next sim world step).world (kept world (next sim world step).world (next_changes sim world step) holds)
