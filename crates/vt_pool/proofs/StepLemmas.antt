-- Steps at one process, on what a worker keeps of all of them together, as steps of the worker's part.
use Rattle.std.proofs.Common.{◌≡◌, ◌∙◌, ℕ, ◌+◌, ◌*◌, ◌/◌, ◌<◌, Bool, true, false, if◌then◌else◌, List, [], ◌∷◌, ◌++◌, map, length, refl, sym, ap, subst, Option, Some, None, slice_get, slice_set}
use Rattle.std.specs.List.{find, last_or, remove}
use Rattle.vt_key.specs.promise.Queues.{insert_letter, without_first, has_rank}
use Rattle.vt_key.specs.inside.Queues.{IsRising}
use Rattle.vt_key.specs.declared.order.Rank.{Rank}
use Rattle.vt_key.specs.declared.letter.Letter.{Letter}
use Rattle.vt_key.specs.declared.letter.Mail.{Mail}
use Rattle.vt_key.specs.declared.letter.Sign.{Sign}
use Rattle.vt_key.specs.declared.letter.Sign.TheVariants.{Plus, Minus}
use Rattle.vt_model.specs.declared.rows.Record.{Record}
use Rattle.vt_model.specs.promise.Handler.{Handlers}
use Rattle.vt_model.specs.promise.Simulation.{Triple, simulation_of}
use Rattle.vt_steps.specs.declared.step.Step.TheVariants.{Execute, Undo, Cancel, Home, Accept}
use Rattle.vt_steps.specs.promise.Letters.{unstamped, stamped, signed}
use Rattle.vt_steps.specs.promise.World.{LogicalProcess, Part}
use Rattle.vt_steps.specs.promise.ProcessSteps.{ProcessEffect, execute_process, undo_process, cancel_process, accept_process}
use Rattle.vt_steps.specs.promise.PartSteps.{at_process, is_for}
use Rattle.vt_steps.specs.inside.StandsFor.{IsRemembered}
use Rattle.vt_past.specs.declared.event.PastEvent.{PastEvent}
use Rattle.vt_past.specs.declared.event.UndoEntry.{UndoEntry}
use Rattle.vt_past.specs.inside.Events.{past_event}
use Rattle.vt_lp.specs.inside.Held.{HeldProcess, StandsFor as ProcessStandsFor, remembered, way_back, IsOwnEvent}
use Rattle.vt_lp.specs.inside.Guards.{IsDone as ProcessIsDone, holds_letter, may_come_after}
use Rattle.vt_lp.specs.inside.Past.{must_undo_last, ready_event}
use Rattle.vt_lp.proofs.ExecuteLemmas.{executes}
use Rattle.vt_lp.proofs.UndoLemmas.{undoes}
use Rattle.vt_lp.proofs.CancelLemmas.{cancels}
use Rattle.vt_lp.proofs.AcceptLemmas.{accepts-message, accepts-anti_message}
use Rattle.vt_kernel.specs.inside.Held.{HeldWorker, StandsFor, AreProcesses}
use Rattle.vt_kernel.specs.inside.Guards.{IsDone}
use Rattle.vt_kernel.specs.inside.Steps.{part_after}
use Rattle.vt_kernel.proofs.OwnSteps.{at_own, own-execute}
use Rattle.vt_kernel.proofs.LocalLemmas.{IsOwnIndex, found-at, at-found-done, no-serial, plain-done, execute-step}
use Rattle.vt_kernel.proofs.DeliveryLemmas.{home-done as home-done-at, accept-done as accept-done-at}
use Rattle.vt_pool.specs.inside.View.{Stock, past_at, letters_to, number_at, process_in, processes_in, HaveOwnStamps}
use Rattle.vt_pool.specs.inside.Steps.{executed_in, undone_in, cancelled_in, received_in}
use Rattle.vt_pool.proofs.ViewLemmas.{number-index, index-own, numbers-differ, get-in, are-from, IsSameAt, changed-in, changed-letters, past-more, past-more-other, past-less, past-less-other, to-first, to-first-other, to-insert, to-insert-other, to-without, to-without-other}
use Rattle.vt_pool.proofs.StampLemmas.{found-to, apart-to, without-rank, annihilate}

module _ {S P K : Type 0} (handlers : Handlers S P K) (held : HeldWorker S P K) (stock : Stock S P K) (is : held.processes ≡ processes_in held.config held.worker stock)
    (known : held.worker < held.config.workers) (part : Part P) (h : StandsFor handlers held part) where
  are : AreProcesses held.config held.worker 0 held.processes
  are = subst (AreProcesses held.config held.worker 0) (sym is) (are-from held.config held.worker 0 stock.triples stock)

  -- the process at an index
  there : (i : ℕ) {triple : Triple S} → slice_get stock.triples i ≡ Some triple → slice_get held.processes i ≡ Some (process_in held.config held.worker i triple stock)
  there i {triple} at = ap (λ ps. slice_get ps i) is ∙ get-in held.config held.worker i triple stock at

  -- where it alone has changed
  written : (new : Stock S P K) (i : ℕ) (now : Triple S) → processes_in held.config held.worker new ≡ slice_set (processes_in held.config held.worker stock) i (process_in held.config held.worker i now new)
      → slice_set held.processes i (process_in held.config held.worker i now new) ≡ processes_in held.config held.worker new
  written new i now changed = ap (λ ps. slice_set ps i (process_in held.config held.worker i now new)) is ∙ sym changed

  -- what is done at the process at an index, which alone has changed, is done at the worker
  at-index : (i : ℕ) {triple now : Triple S} (new : Stock S P K) (outbox : List (Letter P)) (serial : ℕ) (step : LogicalProcess P → Option (ProcessEffect P))
      → number_at held.config held.worker i < held.config.lps → slice_get stock.triples i ≡ Some triple
      → processes_in held.config held.worker new ≡ slice_set (processes_in held.config held.worker stock) i (process_in held.config held.worker i now new)
      → ((process : LogicalProcess P) → ProcessStandsFor handlers (process_in held.config held.worker i triple stock) process
      → ProcessIsDone handlers (process_in held.config held.worker i now new) (step process) held.outbox outbox held.serial serial)
      → IsDone handlers (record held { processes = processes_in held.config held.worker new; outbox = outbox; serial = serial })
      (at_own (simulation_of handlers held.config) held.worker (number_at held.config held.worker i) (at_process step (number_at held.config held.worker i / held.config.workers) part))
  at-index i {triple} {now} new outbox serial step within at changed done =
      let own = index-own held.config held.worker known i within in
      let f = found-at handlers held are part h own (there i at) in
      subst (λ ps. IsDone handlers (record held { processes = ps; outbox = outbox; serial = serial })
      (at_own (simulation_of handlers held.config) held.worker (number_at held.config held.worker i) (at_process step (number_at held.config held.worker i / held.config.workers) part)))
      (written new i now changed)
      (at-found-done handlers held are part h (process_in held.config held.worker i now new) outbox serial step own f (refl, refl) (done f.process f.stands))

  -- ---- Execute

  pub execute-done : (i : ℕ) (triple now : Triple S) (l : Letter P) (rest : List (Letter P)) (undo_entry : UndoEntry P K) (records : List Record) (outbox : List (Letter P)) (serial : ℕ)
      → number_at held.config held.worker i < held.config.lps → slice_get stock.triples i ≡ Some triple
      → stock.pending ≡ l ∷ rest → l.event.dest ≡ number_at held.config held.worker i → l.sign ≡ Plus → may_come_after (last_or None (past_at i stock.past)) l.event.rank ≡ true
      → now ≡ ((simulation_of handlers held.config).fire (number_at held.config held.worker i) triple (unstamped l.event)).triple
      → ((process : LogicalProcess P) → ProcessStandsFor handlers (process_in held.config held.worker i triple stock) process
      → IsRemembered (simulation_of handlers held.config) (number_at held.config held.worker i) triple (remembered handlers (number_at held.config held.worker i) (past_event (signed Plus l.event) undo_entry records)))
      → undo_entry.anti_messages ≡ map (signed Minus) (stamped held.worker held.serial ((simulation_of handlers held.config).fire (number_at held.config held.worker i) triple (unstamped l.event)).sends)
      → outbox ≡ held.outbox ++ map (signed Plus) (stamped held.worker held.serial ((simulation_of handlers held.config).fire (number_at held.config held.worker i) triple (unstamped l.event)).sends)
      → serial ≡ held.serial + length ((simulation_of handlers held.config).fire (number_at held.config held.worker i) triple (unstamped l.event)).sends
      → IsDone handlers (record held { processes = processes_in held.config held.worker (executed_in i (past_event l undo_entry records) rest now stock); outbox = outbox; serial = serial })
      (part_after handlers held (Execute (number_at held.config held.worker i)) part)
  execute-done i triple now l rest undo_entry records outbox serial within at first dest plus may fires kept anti box next =
      let config = held.config in
      let w = held.worker in
      let p = number_at config w i in
      let sim = simulation_of handlers config in
      let event : PastEvent P K = past_event l undo_entry records in
      let new : Stock S P K = executed_in i event rest now stock in
      let q : HeldProcess S P K = process_in config w i triple stock in
      let pending : q.pending ≡ l ∷ letters_to p rest = ap (letters_to p) first ∙ to-first p l rest dest in
      let ready : Some l.event ≡ ready_event q.pending q.past =
      sym (ap (λ ls. ready_event ls q.past) pending ∙ ap (λ (b : Bool). if b then Some l.event else None) may) in
      let same : (j : ℕ) → (j ≡ i → ⊥) → IsSameAt config w stock new j =
      λ j apart. record {
        past = past-more-other i j event stock.past apart;
        pending = sym (ap (letters_to (number_at config w j)) first ∙ to-first-other p (number_at config w j) l rest dest (numbers-differ config w known i j apart));
        waiting = refl;
      } in
      let messages : List (Letter P) = map (signed Plus) (stamped w held.serial (sim.fire p triple (unstamped l.event)).sends) in
      let done : (process : LogicalProcess P) → ProcessStandsFor handlers q process → ProcessIsDone handlers (process_in config w i now new) (execute-step handlers held part p process) held.outbox outbox held.serial serial =
      λ process st.
      let one : execute_process sim p w held.serial process ≡ execute-step handlers held part p process =
      λ j. execute_process sim (sym (number-index config w known i) j * config.workers + w) w (sym h.serial j) process in
      subst (λ x. ProcessIsDone handlers (process_in config w i now new) x held.outbox outbox held.serial serial) one
      (executes handlers q w held.serial process l (letters_to p rest) p l.event now undo_entry records (past_at i new.past) held.outbox outbox messages serial
      st pending ready plus refl (past-more i event stock.past) fires (kept process st) anti refl box next) in
      subst (IsDone handlers (record held { processes = processes_in config w new; outbox = outbox; serial = serial })) (sym (own-execute sim w p part))
      (at-index i new outbox serial (execute-step handlers held part p) within at (changed-in config w stock new i now refl same) done)

  -- ---- Undo

  pub undo-done : (i : ℕ) (triple now : Triple S) (e : PastEvent P K) (outbox : List (Letter P))
      → number_at held.config held.worker i < held.config.lps → slice_get stock.triples i ≡ Some triple
      → last_or None (past_at i stock.past) ≡ Some e → IsOwnEvent held.config (number_at held.config held.worker i) e → IsRising stock.pending
      → must_undo_last (letters_to (number_at held.config held.worker i) stock.pending) (letters_to (number_at held.config held.worker i) stock.waiting) (Some e) ≡ true
      → now ≡ way_back handlers (number_at held.config held.worker i) e triple → outbox ≡ held.outbox ++ e.undo_entry.anti_messages
      → IsDone handlers (record held { processes = processes_in held.config held.worker (undone_in i e now stock); outbox = outbox }) (part_after handlers held (Undo (number_at held.config held.worker i)) part)
  undo-done i triple now e outbox within at last mine rises forced back box =
      let config = held.config in
      let w = held.worker in
      let p = number_at config w i in
      let new : Stock S P K = undone_in i e now stock in
      let q : HeldProcess S P K = process_in config w i triple stock in
      let same : (j : ℕ) → (j ≡ i → ⊥) → IsSameAt config w stock new j =
      λ j apart. record {
        past = past-less-other i j stock.past apart;
        pending = to-insert-other p (number_at config w j) e.letter stock.pending mine.own.dest (numbers-differ config w known i j apart);
        waiting = refl;
      } in
      at-index i new outbox held.serial undo_process within at (changed-in config w stock new i now refl same)
      (λ process st. no-serial handlers (process_in config w i now new) (undo_process process) held.outbox outbox held.serial
      (undoes handlers q process (past_at i new.past) e p now (letters_to p new.pending) held.outbox outbox st (past-less i e stock.past last)
      (ap (must_undo_last q.pending q.waiting) last ∙ forced) mine refl back (to-insert p e.letter stock.pending mine.own.dest rises) box))

  -- ---- Cancel

  pub cancel-done : (i : ℕ) (triple : Triple S) (rank : Rank) (message anti_message : Letter P)
      → number_at held.config held.worker i < held.config.lps → slice_get stock.triples i ≡ Some triple
      → find (has_rank rank) stock.pending ≡ Some message → find (has_rank rank) stock.waiting ≡ Some anti_message
      → message.event.dest ≡ number_at held.config held.worker i → anti_message.event.dest ≡ number_at held.config held.worker i
      → HaveOwnStamps stock.pending → HaveOwnStamps stock.waiting
      → IsDone handlers (record held { processes = processes_in held.config held.worker (cancelled_in rank stock) }) (part_after handlers held (Cancel (number_at held.config held.worker i) rank.stamp) part)
  cancel-done i triple rank message anti_message within at found found_waiting dest dest_waiting apart apart_waiting =
      let config = held.config in
      let w = held.worker in
      let p = number_at config w i in
      let new : Stock S P K = cancelled_in rank stock in
      let q : HeldProcess S P K = process_in config w i triple stock in
      let same : (j : ℕ) → (j ≡ i → ⊥) → IsSameAt config w stock new j =
      λ j other. record {
        past = refl;
        pending = to-without-other p (number_at config w j) rank message stock.pending found dest (numbers-differ config w known i j other);
        waiting = to-without-other p (number_at config w j) rank anti_message stock.waiting found_waiting dest_waiting (numbers-differ config w known i j other);
      } in
      let mine = found-to rank stock.pending message apart found p dest in
      let mine_apart = apart-to rank stock.pending message apart found p in
      let waits = found-to rank stock.waiting anti_message apart_waiting found_waiting p dest_waiting in
      let waits_apart = apart-to rank stock.waiting anti_message apart_waiting found_waiting p in
      at-index i new held.outbox held.serial (cancel_process rank.stamp) within at (changed-letters config w stock new i triple refl at same)
      (λ process st. plain-done handlers (process_in config w i triple new) (cancel_process rank.stamp process) held.outbox held.serial
      (cancels handlers q process rank.stamp (letters_to p new.pending) (letters_to p new.waiting)
      (to-without p rank message stock.pending found dest ∙ without-rank rank q.pending message mine_apart mine)
      (to-without p rank anti_message stock.waiting found_waiting dest_waiting ∙ without-rank rank q.waiting anti_message waits_apart waits)
      (annihilate rank q.pending q.waiting message anti_message mine_apart waits_apart mine waits) st))

  -- ---- a letter that comes

  -- the process at this index is that of the letter, and doesn't hold it
  pub record IsNew (i : ℕ) (letter : Letter P) : Type 0 where
    pub within : number_at held.config held.worker i < held.config.lps
    pub dest : letter.event.dest ≡ number_at held.config held.worker i
    pub not_held : holds_letter (letters_to (number_at held.config held.worker i) stock.pending) (letters_to (number_at held.config held.worker i) stock.waiting) (past_at i stock.past) letter.sign letter.event.rank ≡ false

  -- the letter's index, by its receiver
  letter-index : {i : ℕ} {letter : Letter P} → IsNew i letter → IsOwnIndex held.config held.worker letter.event.dest i
  letter-index {i} {letter} n = subst (λ p. IsOwnIndex held.config held.worker p i) (sym n.dest) (index-own held.config held.worker known i n.within)

  module _ (pending_rises : IsRising stock.pending) (waiting_rises : IsRising stock.waiting) where
    -- the other processes are as they were
    received-same : (sign : Sign) (i : ℕ) (letter : Letter P) → letter.event.dest ≡ number_at held.config held.worker i → (j : ℕ) → (j ≡ i → ⊥) → IsSameAt held.config held.worker stock (received_in sign letter stock) j
    received-same Plus i letter dest j apart =
        record { past = refl; pending = to-insert-other (number_at held.config held.worker i) (number_at held.config held.worker j) letter stock.pending dest (numbers-differ held.config held.worker known i j apart); waiting = refl }
    received-same Minus i letter dest j apart =
        record { past = refl; pending = refl; waiting = to-insert-other (number_at held.config held.worker i) (number_at held.config held.worker j) letter stock.waiting dest (numbers-differ held.config held.worker known i j apart) }

    still : (sign : Sign) (letter : Letter P) → (received_in sign letter stock).triples ≡ stock.triples
    still Plus letter = refl
    still Minus letter = refl

    -- what becomes of its own
    accepted-at : (sign : Sign) (i : ℕ) (triple : Triple S) (letter : Letter P) → letter.sign ≡ sign → IsNew i letter → (process : LogicalProcess P)
        → ProcessStandsFor handlers (process_in held.config held.worker i triple stock) process
        → ProcessIsDone handlers (process_in held.config held.worker i triple (received_in sign letter stock)) (accept_process letter process) [] [] 0 0
    accepted-at Plus i triple letter signed_so n process st =
        accepts-message handlers (process_in held.config held.worker i triple stock) process letter (letters_to (number_at held.config held.worker i) (insert_letter letter stock.pending)) signed_so
        (to-insert (number_at held.config held.worker i) letter stock.pending n.dest pending_rises) n.not_held st
    accepted-at Minus i triple letter signed_so n process st =
        accepts-anti_message handlers (process_in held.config held.worker i triple stock) process letter (letters_to (number_at held.config held.worker i) (insert_letter letter stock.waiting)) signed_so
        (to-insert (number_at held.config held.worker i) letter stock.waiting n.dest waiting_rises) n.not_held st

    received-written : (i : ℕ) (triple : Triple S) (letter : Letter P) → slice_get stock.triples i ≡ Some triple → IsNew i letter
        → slice_set held.processes i (process_in held.config held.worker i triple (received_in letter.sign letter stock)) ≡ processes_in held.config held.worker (received_in letter.sign letter stock)
    received-written i triple letter at n =
        let new : Stock S P K = received_in letter.sign letter stock in
        written new i triple (changed-letters held.config held.worker stock new i triple (still letter.sign letter) at (received-same letter.sign i letter n.dest))

    -- Home
    pub home-done : (i : ℕ) (triple : Triple S) (letter : Letter P) → slice_get stock.triples i ≡ Some triple → find (is_for held.config.workers held.worker) held.outbox ≡ Some letter → IsNew i letter
        → IsDone handlers (record held { processes = processes_in held.config held.worker (received_in letter.sign letter stock); outbox = without_first (is_for held.config.workers held.worker) held.outbox })
        (part_after handlers held (Home held.worker) part)
    home-done i triple letter at found n =
        subst (λ ps. IsDone handlers (record held { processes = ps; outbox = without_first (is_for held.config.workers held.worker) held.outbox }) (part_after handlers held (Home held.worker) part))
        (received-written i triple letter at n)
        (home-done-at handlers held are part h (process_in held.config held.worker i triple (received_in letter.sign letter stock)) found (letter-index n) (there i at) (refl, refl)
        (accepted-at letter.sign i triple letter refl n))

    -- Accept of the mail at an index
    pub accept-done : (k i : ℕ) (triple : Triple S) (mail : Mail P) → slice_get stock.triples i ≡ Some triple → slice_get held.arrived k ≡ Some mail → IsNew i mail.letter
        → IsDone handlers (record held { processes = processes_in held.config held.worker (received_in mail.letter.sign mail.letter stock); arrived = remove held.arrived k })
        (part_after handlers held (Accept held.worker k) part)
    accept-done k i triple mail at arrived n =
        subst (λ ps. IsDone handlers (record held { processes = ps; arrived = remove held.arrived k }) (part_after handlers held (Accept held.worker k) part))
        (received-written i triple mail.letter at n)
        (accept-done-at handlers held are part h k (process_in held.config held.worker i triple (received_in mail.letter.sign mail.letter stock)) arrived (letter-index n) (there i at) (refl, refl)
        (accepted-at mail.letter.sign i triple mail.letter refl n))
