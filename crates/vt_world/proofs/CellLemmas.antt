-- A step on a kernel and on what a cell holds, as the step of the world that has them.
use Rattle.std.proofs.Common.{◌≡◌, ℕ, ◌+◌, List, length, refl, sym, ◌∙◌, ap, subst, arith, Some, Result, Ok, Err, IfErr, slice_get, slice_set}
use Rattle.std.proofs.Math.Logic.{∥∥₁_map}
use Rattle.std.specs.Option.{option_map}
use Rattle.std.proofs.lemmas.List.{length-set}
use Rattle.vt_key.specs.promise.Times.{Time}
use Rattle.vt_key.specs.declared.letter.Mail.{Mail}
use Rattle.vt_key.specs.declared.fault.Fault.{Fault}
use Rattle.vt_model.specs.declared.settings.Config.{Config}
use Rattle.vt_model.specs.promise.Handler.{Handlers}
use Rattle.vt_model.specs.promise.Histories.{IsLawful}
use Rattle.vt_model.specs.promise.Simulation.{Simulation, simulation_of}
use Rattle.vt_steps.specs.declared.step.Step.{Step}
use Rattle.vt_steps.specs.declared.step.Step.TheVariants.{Close}
use Rattle.vt_steps.specs.declared.step.Reply.{Reply}
use Rattle.vt_steps.specs.promise.World.{Part, World, Board, Book}
use Rattle.vt_steps.specs.promise.Next.{next, with_part, reached}
use Rattle.vt_steps.specs.promise.Cells.{worker_of}
use Rattle.vt_steps.specs.inside.Cells.{CellName, inbox_of, board_cell, book_cell, Cell, in_inbox, on_board, in_book, content, with_content, cell_of, Acted, act, put_back}
use Rattle.vt_steps.specs.inside.Laws.{IsAny}
use Rattle.vt_steps.specs.inside.StandsFor.{GoesOn}
use Rattle.vt_kernel.specs.inside.Held.{HeldWorker, AllOwnMail}
use Rattle.vt_kernel.specs.promise.Refusals.{PassesIn, PassesLimit, IsStepRefusal}
use Rattle.vt_kernel.proofs.Written.{put-there}
use Rattle.vt_cells.specs.inside.Calls.{IsCellStepOf, rounds_of, AreOfOneWorld}
use Rattle.vt_cells.proofs.BookSteps.{close-step}
use Rattle.vt_cells.proofs.WorldLemmas.{next-put_back, limit-there, refused-there}
use Rattle.vt_world.specs.inside.Held.{HeldWorld, held_world, world_memory, StandsForWorld, IsHeldStepOf, AreInboxes, IsWorldInside}
use Rattle.vt_world.proofs.WorldLemmas.{found, part-changed}
use Rattle.vt_world.proofs.WorldSteps.{who, goes}
use Rattle.vt_world.proofs.StepLemmas.{step-done, step-refused, inside-stepped, inside-same}
use Rattle.vt_world.proofs.Indices.{are-workers, inboxes-changed, put-back, mail-back}
use Rattle.vt_steps.proofs.lists.Indices.{get-within}

module _ {M S P K : Type 0} (handlers : Handlers S P K) (held : HeldWorld M S P K) (w : ℕ) (k new : HeldWorker S P K) where
  -- the world with a new worker w, and with what the cells hold then
  abbrev pub after_step : List (List (Mail P)) → Board → Book → HeldWorld M S P K
  after_step inboxes board book = held_world held.model held.config (slice_set held.workers w new) inboxes board book

  -- the worker was there, and the cell of this name held one thing, and holds another in the world after the step
  pub record Puts (name : CellName) (cell left : Cell P) (inboxes : List (List (Mail P))) (board : Board) (book : Book) : Type 0 where
    pub at : slice_get held.workers w ≡ Some k
    pub holds : (world : World P) → StandsForWorld handlers held world → content world name ≡ Some cell
    pub puts : (world : World P) → StandsForWorld handlers (after_step held.inboxes held.board held.book) world → StandsForWorld handlers (after_step inboxes board book) (with_content world name left)
    pub back : new ≡ k → left ≡ cell → after_step inboxes board book ≡ held
    pub all_inboxes : length inboxes ≡ length held.inboxes
    pub own_inboxes : AreInboxes held.config 0 inboxes

module _ {M S P K : Type 0} {handlers : Handlers S P K} {held : HeldWorld M S P K} {board_end book_end : Time} (inside : IsWorldInside handlers held board_end book_end)
    {w : ℕ} {k : HeldWorker S P K} (at : slice_get held.workers w ≡ Some k) (new : HeldWorker S P K) where
  -- an inbox with other mail
  pub inbox-put : (v : ℕ) {inbox : List (Mail P)} → slice_get held.inboxes v ≡ Some inbox → (mails : List (Mail P)) → AllOwnMail held.config v mails
      → Puts handlers held w k new (inbox_of v) (in_inbox inbox) (in_inbox mails) (slice_set held.inboxes v mails) held.board held.book
  inbox-put v {inbox} here mails own = record {
    at = at;
    holds = λ world h. ap (λ xs. option_map in_inbox (slice_get xs v)) h.inboxes ∙ ap (option_map in_inbox) here;
    puts = λ world h. record { parts = h.parts; inboxes = ap (λ xs. slice_set xs v mails) h.inboxes; board = h.board; book = h.book };
    back = λ same same_cell. (let same_mail : mails ≡ inbox = cc in put-back inside w at same (mail-back inside v here same_mail));
    all_inboxes = length-set held.inboxes v mails;
    own_inboxes = (let at_v : v ≡ 0 + v = omega arith in inboxes-changed held.config 0 v held.inboxes mails inside.own_inboxes (subst (λ n. AllOwnMail held.config n mails) at_v own));
  }

  -- another board
  pub board-put : (board : Board) → Puts handlers held w k new board_cell (on_board held.board) (on_board board) held.inboxes board held.book
  board-put board = record {
    at = at;
    holds = λ world h. ap (λ b. Some (on_board b)) h.board;
    puts = λ world h. record { parts = h.parts; inboxes = h.inboxes; board = refl; book = h.book };
    back = λ same same_cell. (let same_board : board ≡ held.board = cc in let workers = put-back inside w at same refl in (λ j. record (workers j) { board = same_board j }));
    all_inboxes = refl;
    own_inboxes = inside.own_inboxes;
  }

  -- another book
  pub book-put : (book : Book) → Puts handlers held w k new book_cell (in_book held.book) (in_book book) held.inboxes held.board book
  book-put book = record {
    at = at;
    holds = λ world h. ap (λ b. Some (in_book b)) h.book;
    puts = λ world h. record { parts = h.parts; inboxes = h.inboxes; board = h.board; book = refl };
    back = λ same same_cell. (let same_book : book ≡ held.book = cc in let workers = put-back inside w at same refl in (λ j. record (workers j) { book = same_book j }));
    all_inboxes = refl;
    own_inboxes = inside.own_inboxes;
  }

module _ {M S P K : Type 0} (meaning : M → Handlers S P K) {held : HeldWorld M S P K} {board_end book_end : Time} (inside : IsWorldInside (meaning held.model) held board_end book_end)
    (step_of : ℕ → Step) {w : ℕ} {name : CellName} (whose : IsAny (worker_of (simulation_of (meaning held.model) held.config) (step_of w)) w) (named : cell_of (simulation_of (meaning held.model) held.config) (step_of w) ≡ Some name)
    {k new : HeldWorker S P K} {cell left : Cell P} {inboxes : List (List (Mail P))} {board : Board} {book : Book}
    (p : Puts (meaning held.model) held w k new name cell left inboxes board book) where
  abbrev sim : Simulation S P
  sim = simulation_of (meaning held.model) held.config

  abbrev after : HeldWorld M S P K
  after = after_step (meaning held.model) held w k new inboxes board book

  done-there : (reply : Reply) → IsCellStepOf (meaning held.model) held.config (step_of w) k new cell left (Ok reply)
      → GoesOn sim (step_of w) (Ok reply) (world_memory (meaning held.model) held) (world_memory (meaning held.model) after)
  done-there reply s world h =
      let is = who inside p.at in
      let f = found (meaning held.model) held world w k inside.own_workers h p.at in
      let a = s.done.acts f.part f.stands in
      let parts = part-changed (meaning held.model) held world w new a.0 h (s.done.worker ∙ is.0) (s.done.config_is ∙ is.1) a.2 in
      goes (meaning held.model) held world (step_of w) (put_back world w name (record { part = a.0; cell = left; answer = Ok reply })) (Ok reply) after
      (next-put_back sim world (step_of w) w whose named f.there (p.holds world h) ∙ ap (put_back world w name) a.1) refl refl
      (p.puts (with_part world w a.0) (record { parts = parts; inboxes = h.inboxes; board = h.board; book = h.book }))

  few-there : (reply : Reply) → IsCellStepOf (meaning held.model) held.config (step_of w) k new cell left (Ok reply)
      → (world : World P) → StandsForWorld (meaning held.model) held world → PassesLimit sim (step_of w) (next sim world (step_of w)).world → ⊥
  few-there reply s world h past =
      let f = found (meaning held.model) held world w k inside.own_workers h p.at in
      let a = s.done.acts f.part f.stands in
      s.within a.0 a.2 (subst (λ (x : Acted P). PassesIn sim (step_of w) x.part (rounds_of x.cell)) a.1 (limit-there sim world (step_of w) w whose named f.there (p.holds world h) past))

  why-there : (fault : Fault) → IsCellStepOf (meaning held.model) held.config (step_of w) k new cell left (Err fault)
      → (world : World P) → StandsForWorld (meaning held.model) held world → IsStepRefusal sim (step_of w) world fault
  why-there fault s world h =
      let f = found (meaning held.model) held world w k inside.own_workers h p.at in
      refused-there sim world (step_of w) w whose named f.there (p.holds world h) (s.refused f.part f.stands)

  step-there : {seen : HeldWorld M S P K} → held ≡ seen → (result : Result Reply Fault) → IsCellStepOf (meaning held.model) held.config (step_of w) k new cell left result
      → IsHeldStepOf (meaning seen.model) (step_of w) seen after result
  step-there seen_is (Ok reply) s = step-done meaning seen_is after (step_of w) reply (done-there reply s) refl refl (few-there reply s)
  step-there seen_is (Err fault) s = step-refused meaning seen_is after (step_of w) fault (Err fault) refl (p.back s.unchanged.0 s.unchanged.1) (why-there fault s)

  inside-there : {new_board_end new_book_end : Time} → new_board_end ≡ board_end → new_book_end ≡ book_end → (result : Result Reply Fault) → IsCellStepOf (meaning held.model) held.config (step_of w) k new cell left result
      → IsWorldInside (meaning held.model) after new_board_end new_book_end
  inside-there same_board same_book (Ok reply) s =
      inside-stepped inside (step_of w) reply (slice_set held.workers w new) inboxes board book (length-set held.workers w new)
      (are-workers inside w p.at new (s.done.worker, s.done.config_is)) p.all_inboxes p.own_inboxes same_board same_book (done-there reply s)
  inside-there same_board same_book (Err fault) s = inside-same inside (p.back s.unchanged.0 s.unchanged.1) same_board same_book

  -- what a kernel does by its own number and config, the worker at this index does
  module _ {result : Result Reply Fault} (s : IsCellStepOf (meaning held.model) k.config (step_of k.worker) k new cell left result) where
    own-step : IsCellStepOf (meaning held.model) held.config (step_of w) k new cell left result
    own-step =
        let is = who inside p.at in
        subst (λ (x : ℕ × Config). IsCellStepOf (meaning held.model) x.1 (step_of x.0) k new cell left result) (λ i. (is.0 i, is.1 i)) s

    -- the call does the step of the world
    pub cell-step : {seen : HeldWorld M S P K} → held ≡ seen → IsHeldStepOf (meaning seen.model) (step_of w) seen after result
    cell-step seen_is = step-there seen_is result own-step

    -- with another word for what it answers
    pub cell-answers : {seen : HeldWorld M S P K} → held ≡ seen → {answer : Result Reply Fault} → result ≡ answer → IsHeldStepOf (meaning seen.model) (step_of w) seen after answer
    cell-answers {seen} seen_is is = subst (IsHeldStepOf (meaning seen.model) (step_of w) seen after) is (cell-step seen_is)

    -- and the world keeps to itself
    pub cell-inside : {new_board_end new_book_end : Time} → new_board_end ≡ board_end → new_book_end ≡ book_end → IsWorldInside (meaning held.model) after new_board_end new_book_end
    cell-inside same_board same_book = inside-there same_board same_book result own-step

-- ---- the book

module _ {M S P K : Type 0} (meaning : M → Handlers S P K) {held : HeldWorld M S P K} {board_end book_end : Time} (inside : IsWorldInside (meaning held.model) held board_end book_end) where
  -- a worker and the book are of one world
  pub one-world : IsLawful (simulation_of (meaning held.model) held.config) → (w : ℕ) {k : HeldWorker S P K} → slice_get held.workers w ≡ Some k → AreOfOneWorld (meaning held.model) k held.book
  one-world lawful w {k} at =
      let handlers = meaning held.model in
      let is = who inside at in (
        subst (λ (c : Config). IsLawful (simulation_of handlers c)) (sym is.1) lawful,
        ∥∥₁_map inside.is_reached (λ x.
            (let f = found handlers held (reached (simulation_of handlers held.config) x.0 x.1.0) w k inside.own_workers x.1.1 at in
            record {
              serial = x.0;
              steps = x.1.0;
              part = f.part;
              there = subst (λ (y : ℕ × Config). slice_get (reached (simulation_of handlers y.1) x.0 x.1.0).parts y.0 ≡ Some f.part) (λ i. (sym is.0 i, sym is.1 i)) f.there;
              stands = f.stands;
              book_is = subst (λ (c : Config). (reached (simulation_of handlers c) x.0 x.1.0).book ≡ held.book) (sym is.1) x.1.1.book;
            })),
      )

  module _ {book : Book} {result : Result Reply Fault}
      (acts : (part : Part P) → act (simulation_of (meaning held.model) held.config) Close part (in_book held.book) ≡ record { part = part; cell = in_book book; answer = result }) (same : IfErr result (λ fault. book ≡ held.book)) where
    -- a close changes no worker, as the first one shows
    first : (k : HeldWorker S P K) × (slice_get held.workers 0 ≡ Some k)
    first = get-within held.workers 0 (let size = inside.all_workers in let many = held.config.some_worker in omega (arith, size, many))

    put : Puts (meaning held.model) held 0 first.0 first.0 book_cell (in_book held.book) (in_book book) held.inboxes held.board book
    put = book-put inside first.1 first.0 book

    back : after_step (meaning held.model) held 0 first.0 first.0 held.inboxes held.board book ≡ record held { book = book }
    back = ap (λ ks. held_world held.model held.config ks held.inboxes held.board book) (put-there held.workers 0 first.0 first.1)

    its-step : IsCellStepOf (meaning held.model) first.0.config Close first.0 first.0 (in_book held.book) (in_book book) result
    its-step =
        subst (λ (c : Config). IsCellStepOf (meaning held.model) c Close first.0 first.0 (in_book held.book) (in_book book) result) (sym (who inside first.1).1)
        (close-step (meaning held.model) held.config first.0 result acts same)

    pub closes : {seen : HeldWorld M S P K} → held ≡ seen → IsHeldStepOf (meaning seen.model) Close seen (record held { book = book }) result
    closes {seen} seen_is = subst (λ (x : HeldWorld M S P K). IsHeldStepOf (meaning seen.model) Close seen x result) back (cell-step meaning inside (λ u. Close) tt refl put its-step seen_is)

    pub closes-inside : {new_book_end : Time} → new_book_end ≡ book_end → IsWorldInside (meaning held.model) (record held { book = book }) board_end new_book_end
    closes-inside {new_book_end} same_end =
        subst (λ (x : HeldWorld M S P K). IsWorldInside (meaning held.model) x board_end new_book_end) back (cell-inside meaning inside (λ u. Close) tt refl put its-step refl same_end)
