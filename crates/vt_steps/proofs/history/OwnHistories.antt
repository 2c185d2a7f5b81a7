-- What stands where: what a process holds and has executed is for it, mail is in the inbox of its receiver's worker, and what
-- an entry sent is what its event sends, the process standing where the entries before it leave it.
use Rattle.std.proofs.Common.{◌≡◌, ℕ, ◌-◌, ◌/◌, ◌%◌, true, List, [], ◌∷◌, ◌++◌, map, length, take, drop, refl, sym, ◌∙◌, ap, subst, arith, append_assoc, Some, None, slice_get, slice_set}
use Rattle.std.specs.List.{filter, flat_map, last_or, prefix_len, range_with_len, AllByRecursion}
use Rattle.std.proofs.Math.Nat.{div-add-mod'}
use Rattle.std.proofs.lemmas.Bool.{eqb-true}
use Rattle.std.proofs.lemmas.List.{map-append, take-append-drop}
use Rattle.vt_key.specs.declared.letter.Event.{Event}
use Rattle.vt_key.specs.declared.letter.Letter.{Letter}
use Rattle.vt_key.specs.declared.letter.Mail.{Mail}
use Rattle.vt_key.specs.declared.letter.Sign.{Sign}
use Rattle.vt_key.specs.declared.letter.Sign.TheVariants.{Plus, Minus}
use Rattle.vt_model.specs.inside.Histories.{sends_from}
use Rattle.vt_model.specs.promise.Simulation.{Simulation, Triple}
use Rattle.vt_model.proofs.RunLemmas.{after_from}
use Rattle.vt_model.specs.declared.sending.Sent.{Sent}
use Rattle.vt_steps.specs.declared.step.Step.{Step}
use Rattle.vt_steps.specs.promise.Letters.{signed, stamped, unstamped}
use Rattle.vt_key.specs.promise.Order.{rank_before}
use Rattle.vt_key.specs.promise.Queues.{has_stamp, letter_rank}
use Rattle.vt_steps.specs.promise.Next.{reached}
use Rattle.vt_steps.specs.promise.PartSteps.{is_below, is_for, mail_of_send, part_after_commit, part_after_cut, part_after_fetch, part_after_send, process_after_commit}
use Rattle.vt_steps.specs.promise.ProcessSteps.{ProcessEffect, effect_of_execute, effect_of_undo, with_letter}
use Rattle.vt_steps.specs.promise.World.{Entry, LogicalProcess, Part, World, entry_events, opening_part, opening_world, process_at, process_count, triple_after}
use Rattle.vt_key.proofs.ListLemmas.{before_last, every-append, every-get, every-insert_ordered, every-left, every-map, every-remove, every-right, every-without_first, filter-passes, find-passes}
use Rattle.vt_steps.proofs.lists.Indices.{all-put, get-map, get-replicate}
use Rattle.vt_steps.proofs.letters.Stamped.{unstamped-stamped}
use Rattle.vt_steps.proofs.steps.Changes.{Act, executes, undoes, cancels, Leaves, homes, arrives, Local, acts, takes, Change, stays, local, sends, fetches, cuts, reports, commits, closes, run_keeps}

-- ---- what entries sent

-- what the entries sent, with its stamps
abbrev pub events_sent : {P : Type 0} → List (Entry P) → List (Event P)
events_sent entries = flat_map (λ entry. entry.sent) entries

module _ {S P : Type 0} (sim : Simulation S P) (p : ℕ) where
  -- each entry sent what its event sends at process p, which stood somewhere before them all
  abbrev pub AreFired : Triple S → List (Entry P) → Type 0
  AreFired triple [] = Unit {0}
  AreFired triple (entry ∷ entries) =
      (map unstamped entry.sent ≡ (sim.fire p triple (unstamped entry.event)).sends) × AreFired (sim.fire p triple (unstamped entry.event)).triple entries

  -- one more
  fired-snoc : (triple : Triple S) (entries : List (Entry P)) (entry : Entry P) → AreFired triple entries →
      map unstamped entry.sent ≡ (sim.fire p (after_from sim p triple (entry_events entries)) (unstamped entry.event)).sends → AreFired triple (entries ++ entry ∷ [])
  fired-snoc triple [] entry h is = (is, tt)
  fired-snoc triple (e ∷ es) entry h is = (h.0, fired-snoc (sim.fire p triple (unstamped e.event)).triple es entry h.1 is)

  -- those before some
  fired-left : (triple : Triple S) (xs ys : List (Entry P)) → AreFired triple (xs ++ ys) → AreFired triple xs
  fired-left triple [] ys h = tt
  fired-left triple (e ∷ es) ys h = (h.0, fired-left (sim.fire p triple (unstamped e.event)).triple es ys h.1)

  -- what they sent is what their events send
  pub fired-sends : (triple : Triple S) (entries : List (Entry P)) → AreFired triple entries → map unstamped (events_sent entries) ≡ sends_from sim p triple (entry_events entries)
  fired-sends triple [] h = refl
  fired-sends triple (e ∷ es) h =
      map-append unstamped e.sent (events_sent es)
      ∙ ap (λ l. l ++ map unstamped (events_sent es)) h.0
      ∙ ap (λ l. (sim.fire p triple (unstamped e.event)).sends ++ l) (fired-sends (sim.fire p triple (unstamped e.event)).triple es h.1)

-- ---- a process

-- what process p has executed was fired from its start on and is for p, and so is what is pending
pub record IsOwnHistory {S P : Type 0} (sim : Simulation S P) (p : ℕ) (process : LogicalProcess P) : Type 0 where
  pub fired : AreFired sim p (sim.start p).triple (process.done ++ process.past)
  pub receiver : AllByRecursion (λ entry. entry.event.dest ≡ p) (process.done ++ process.past)
  pub pending : AllByRecursion (λ letter. letter.event.dest ≡ p) process.pending

-- the entries of a process before its last one, and it
pub history-before_last : {P : Type 0} (process : LogicalProcess P) (last : Entry P) → last_or None process.past ≡ Some last → process.done ++ process.past ≡ (process.done ++ take (length process.past - 1) process.past) ++ last ∷ []
history-before_last process last is = ap (λ past. process.done ++ past) (before_last process.past last is) ∙ sym (append_assoc process.done (take (length process.past - 1) process.past) (last ∷ []))

-- the entries of a process, after it committed some
pub history-commit : {P : Type 0} (n : ℕ) (process : LogicalProcess P) → process.done ++ process.past ≡ (process.done ++ take n process.past) ++ drop n process.past
history-commit n process = ap (λ past. process.done ++ past) (sym (take-append-drop n process.past)) ∙ sym (append_assoc process.done (take n process.past) (drop n process.past))

module _ {S P : Type 0} (sim : Simulation S P) (p : ℕ) where
  -- where p acts
  act-history : (w serial : ℕ) (old : LogicalProcess P) (effect : ProcessEffect P) → Act sim p w serial old effect → IsOwnHistory sim p old → IsOwnHistory sim p effect.process
  unfolding effect_of_execute effect_of_undo
  act-history w serial old effect (executes least rest pending follows is) h =
      let unsent : List (Sent P) = (sim.fire p (triple_after sim p (old.done ++ old.past)) (unstamped least.event)).sends in
      let entry : Entry P = record { event = least.event; sent = stamped w serial unsent } in
      let queue : AllByRecursion (λ letter. letter.event.dest ≡ p) (least ∷ rest) = subst (AllByRecursion (λ letter. letter.event.dest ≡ p)) pending h.pending in
      let longer : (old.done ++ old.past) ++ entry ∷ [] ≡ old.done ++ (old.past ++ entry ∷ []) = append_assoc old.done old.past (entry ∷ []) in
      subst (λ a. IsOwnHistory sim p a.process) (sym is) (record {
        fired = subst (AreFired sim p (sim.start p).triple) longer (fired-snoc sim p (sim.start p).triple (old.done ++ old.past) entry h.fired (unstamped-stamped w serial unsent));
        receiver = subst (AllByRecursion (λ e. e.event.dest ≡ p)) longer (every-append (λ e. e.event.dest ≡ p) (old.done ++ old.past) (entry ∷ []) h.receiver (queue.0, tt));
        pending = queue.1;
      })
  act-history w serial old effect (undoes last last_is must is) h =
      let front : List (Entry P) = take (length old.past - 1) old.past in
      let shorter = history-before_last old last last_is in
      let receivers = subst (AllByRecursion (λ e. e.event.dest ≡ p)) shorter h.receiver in
      subst (λ a. IsOwnHistory sim p a.process) (sym is) (record {
        fired = fired-left sim p (sim.start p).triple (old.done ++ front) (last ∷ []) (subst (AreFired sim p (sim.start p).triple) shorter h.fired);
        receiver = every-left (λ e. e.event.dest ≡ p) (old.done ++ front) (last ∷ []) receivers;
        pending = every-insert_ordered (λ a b. rank_before (letter_rank a) (letter_rank b)) (λ letter. letter.event.dest ≡ p) (signed Plus last.event) old.pending (every-right (λ e. e.event.dest ≡ p) (old.done ++ front) (last ∷ []) receivers).0 h.pending;
      })
  act-history w serial old effect (cancels stamp minus plus waits pends keys is) h =
      subst (λ a. IsOwnHistory sim p a.process) (sym is) (record {
        fired = h.fired;
        receiver = h.receiver;
        pending = every-without_first (λ letter. letter.event.dest ≡ p) (has_stamp stamp) old.pending h.pending;
      })

  -- where p takes a letter for it
  with_letter-history : (process : LogicalProcess P) (sign : Sign) (letter : Letter P) → letter.event.dest ≡ p → IsOwnHistory sim p process → IsOwnHistory sim p (with_letter process sign letter)
  with_letter-history process Plus letter to h = record { fired = h.fired; receiver = h.receiver; pending = every-insert_ordered (λ a b. rank_before (letter_rank a) (letter_rank b)) (λ l. l.event.dest ≡ p) letter process.pending to h.pending }
  with_letter-history process Minus letter to h = record { fired = h.fired; receiver = h.receiver; pending = h.pending }

  -- where p commits
  commit-history : (floor : _) (process : LogicalProcess P) → IsOwnHistory sim p process → IsOwnHistory sim p (process_after_commit floor process)
  commit-history floor process h =
      let same = history-commit (prefix_len (is_below floor) process.past) process in
      record {
        fired = subst (AreFired sim p (sim.start p).triple) same h.fired;
        receiver = subst (AllByRecursion (λ e. e.event.dest ≡ p)) same h.receiver;
        pending = h.pending;
      }

-- ---- a part

-- the histories of a worker's processes are their own, and its arrived mail is for them
pub record IsOwnPart {S P : Type 0} (sim : Simulation S P) (w : ℕ) (part : Part P) : Type 0 where
  pub history : (index : ℕ) (process : LogicalProcess P) → slice_get part.processes index ≡ Some process → IsOwnHistory sim (process_at sim w index) process
  pub arrived : AllByRecursion (λ mail. is_for sim.workers w mail.letter ≡ true) part.arrived

module _ {S P : Type 0} (sim : Simulation S P) (w : ℕ) where
  -- a letter for a worker is for the process of its index
  receiver-index : (letter : Letter P) → is_for sim.workers w letter ≡ true → letter.event.dest ≡ process_at sim w (letter.event.dest / sim.workers)
  receiver-index letter h =
      let own : letter.event.dest % sim.workers ≡ w = eqb-true (letter.event.dest % sim.workers) w h in
      let whole = div-add-mod' letter.event.dest sim.workers in
      omega arith

  -- a letter leaves
  leaves-own : (old new : Part P) (letter : Letter P) → Leaves sim w old new letter → IsOwnPart sim w old → IsOwnPart sim w new × (is_for sim.workers w letter ≡ true)
  leaves-own old new letter (homes found is) h =
      (subst (IsOwnPart sim w) (sym is) (record { history = h.history; arrived = h.arrived }), find-passes (is_for sim.workers w) old.outbox letter found)
  leaves-own old new letter (arrives i mail at letter_is is) h = (
    subst (IsOwnPart sim w) (sym is) (record { history = h.history; arrived = every-remove (λ m. is_for sim.workers w m.letter ≡ true) old.arrived i h.arrived }),
    subst (λ l. is_for sim.workers w l ≡ true) (sym letter_is) (every-get (λ m. is_for sim.workers w m.letter ≡ true) old.arrived i mail at h.arrived),
  )

  -- a process gives way to one whose history is its own
  put-own : (part : Part P) (index : ℕ) (old new : LogicalProcess P) → slice_get part.processes index ≡ Some old → IsOwnPart sim w part →
      (IsOwnHistory sim (process_at sim w index) old → IsOwnHistory sim (process_at sim w index) new) →
      (j : ℕ) (process : LogicalProcess P) → slice_get (slice_set part.processes index new) j ≡ Some process → IsOwnHistory sim (process_at sim w j) process
  put-own part index old new at h f = all-put (λ j z. IsOwnHistory sim (process_at sim w j) z) part.processes index old new at h.history f

  -- a local step
  local-own : (old new : Part P) → Local sim w old new → IsOwnPart sim w old → IsOwnPart sim w new
  local-own old new (acts index process effect at act is) h =
      subst (IsOwnPart sim w) (sym is) (record {
        history = put-own old index process effect.process at h (act-history sim (process_at sim w index) w old.serial process effect act);
        arrived = h.arrived;
      })
  local-own old new (takes part letter index process leaves at index_is free is) h =
      let left = leaves-own old part letter leaves h in
      let to : letter.event.dest ≡ process_at sim w index = receiver-index letter left.1 ∙ ap (process_at sim w) (sym index_is) in
      subst (IsOwnPart sim w) (sym is) (record {
        history = put-own part index process (with_letter process letter.sign letter) at left.0 (with_letter-history sim (process_at sim w index) process letter.sign letter to);
        arrived = left.0.arrived;
      })

-- ---- a world

-- of each worker: its part is its own, and the mail in its inbox is for its processes
pub record IsOwnWorld {S P : Type 0} (sim : Simulation S P) (world : World P) : Type 0 where
  pub parts : (w : ℕ) (part : Part P) → slice_get world.parts w ≡ Some part → IsOwnPart sim w part
  pub inboxes : (v : ℕ) (inbox : List (Mail P)) → slice_get world.inboxes v ≡ Some inbox → AllByRecursion (λ mail. is_for sim.workers v mail.letter ≡ true) inbox

module _ {S P : Type 0} (sim : Simulation S P) where
  -- a part gives way to one of its own
  part-own : (old new : World P) (w : ℕ) (part after : Part P) → slice_get old.parts w ≡ Some part → new.parts ≡ slice_set old.parts w after →
      IsOwnWorld sim old → (IsOwnPart sim w part → IsOwnPart sim w after) → (v : ℕ) (found : Part P) → slice_get new.parts v ≡ Some found → IsOwnPart sim v found
  part-own old new w part after is e h f v found at = all-put (IsOwnPart sim) old.parts w part after is h.parts f v found (sym (ap (λ ps. slice_get ps v) e) ∙ at)

  -- the inboxes stay
  same-inboxes : (old new : World P) → new.inboxes ≡ old.inboxes → IsOwnWorld sim old → (v : ℕ) (inbox : List (Mail P)) → slice_get new.inboxes v ≡ Some inbox → AllByRecursion (λ mail. is_for sim.workers v mail.letter ≡ true) inbox
  same-inboxes old new e h v inbox at = h.inboxes v inbox (sym (ap (λ boxes. slice_get boxes v) e) ∙ at)

  -- each change keeps it
  own-kept : (old new : World P) → Change sim old new → IsOwnWorld sim old → IsOwnWorld sim new
  unfolding part_after_send mail_of_send part_after_fetch part_after_cut part_after_commit
  own-kept old new (stays e) h = subst (IsOwnWorld sim) (sym e) h
  own-kept old new (local w part after is change e) h = record {
    parts = part-own old new w part after is (ap (λ n. n.parts) e) h (local-own sim w part after change);
    inboxes = same-inboxes old new (ap (λ n. n.inboxes) e) h;
  }
  own-kept old new (sends w v part inbox is in_is e) h = record {
    parts = part-own old new w part (part_after_send sim v part) is (ap (λ n. n.parts) e) h (λ here. record { history = here.history; arrived = here.arrived });
    inboxes = λ u box at. all-put (λ j z. AllByRecursion (λ mail. is_for sim.workers j mail.letter ≡ true) z) old.inboxes v inbox (inbox ++ mail_of_send sim v part) in_is h.inboxes
        (λ there. every-append (λ mail. is_for sim.workers v mail.letter ≡ true) inbox (mail_of_send sim v part) there
        (every-map (λ letter. record { letter = letter; colour = part.colour }) (λ mail. is_for sim.workers v mail.letter ≡ true) (filter (is_for sim.workers v) part.outbox) (filter-passes (is_for sim.workers v) part.outbox)))
        u box (sym (ap (λ n. slice_get n.inboxes u) e) ∙ at);
  }
  own-kept old new (fetches w part inbox is in_is none e) h = record {
    parts = part-own old new w part (part_after_fetch inbox part) is (ap (λ n. n.parts) e) h (λ here. record { history = here.history; arrived = h.inboxes w inbox in_is });
    inboxes = λ u box at. all-put (λ j z. AllByRecursion (λ mail. is_for sim.workers j mail.letter ≡ true) z) old.inboxes w inbox [] in_is h.inboxes (λ there. tt) u box (sym (ap (λ n. slice_get n.inboxes u) e) ∙ at);
  }
  own-kept old new (cuts w part board is cut_is e) h = record {
    parts = part-own old new w part (part_after_cut sim.end old.board.announced part) is (ap (λ n. n.parts) e) h (λ here. record { history = here.history; arrived = here.arrived });
    inboxes = same-inboxes old new (ap (λ n. n.inboxes) e) h;
  }
  own-kept old new (reports w part is may e) h = record {
    parts = part-own old new w part _ is (ap (λ n. n.parts) e) h (λ here. record { history = here.history; arrived = here.arrived });
    inboxes = same-inboxes old new (ap (λ n. n.inboxes) e) h;
  }
  own-kept old new (commits w part is open_is may e) h = record {
    parts = part-own old new w part (part_after_commit part) is (ap (λ n. n.parts) e) h (λ here. record {
      history = λ index process at. (
          let found = get-map (process_after_commit part.floor) part.processes index process at in
          subst (IsOwnHistory sim (process_at sim w index)) (sym found.2) (commit-history sim (process_at sim w index) part.floor found.0 (here.history index found.0 found.1)));
      arrived = here.arrived;
    });
    inboxes = same-inboxes old new (ap (λ n. n.inboxes) e) h;
  }
  own-kept old new (closes open_is at_end e) h = record {
    parts = λ v part at. h.parts v part (sym (ap (λ n. slice_get n.parts v) e) ∙ at);
    inboxes = same-inboxes old new (ap (λ n. n.inboxes) e) h;
  }

  -- the opening world has it: nothing is executed, and there is no mail
  opening-own : (serial : ℕ) → IsOwnWorld sim (opening_world sim serial)
  unfolding opening_world
  opening-own serial = record {
    parts = λ w part at. (
        let from = get-map (opening_part sim serial) (range_with_len 0 sim.workers) w part at in
        let empty : LogicalProcess P = record { done = []; past = []; pending = []; waiting = [] } in
        subst (IsOwnPart sim w) (sym from.2) (record {
          history = λ index process there. subst (IsOwnHistory sim (process_at sim w index)) (sym (get-replicate (process_count sim from.0) index empty process there)) (record { fired = tt; receiver = tt; pending = tt });
          arrived = tt;
        }));
    inboxes = λ v inbox at. (let none : List (Mail P) = [] in subst (AllByRecursion (λ mail. is_for sim.workers v mail.letter ≡ true)) (sym (get-replicate sim.workers v none inbox at)) tt);
  }

  -- and each reached world
  pub reached-own : (serial : ℕ) (steps : List Step) → IsOwnWorld sim (reached sim serial steps)
  reached-own serial steps = run_keeps sim (IsOwnWorld sim) own-kept steps (opening_world sim serial) (opening-own serial)
