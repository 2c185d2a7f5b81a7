-- What the steps of one worker do to its part and to one cell they do in every world that has these two: local steps, and then
-- one step at the cell. So they may stand last, whatever the other workers did since the first of them.
use Rattle.std.proofs.Common.{◌≡◌, inl, inr, ℕ, true, false, cond, nat_eq, List, [], ◌∷◌, ◌++◌, map, refl, sym, ◌∙◌, ap, subst, Option, Some, None, Ok, slice_get, slice_set}
use Rattle.std.specs.Option.{option_map, is_none}
use Rattle.std.specs.List.{AllByRecursion}
use Rattle.std.proofs.lemmas.Bool.Decides.{eqb_tells}
use Rattle.std.proofs.lemmas.List.{map-append}
use Rattle.vt_model.specs.promise.Simulation.{Simulation}
use Rattle.vt_steps.specs.declared.step.Step.{Step}
use Rattle.vt_steps.specs.declared.step.Reply.{Reply}
use Rattle.vt_steps.specs.declared.step.Reply.TheVariants.{Done}
use Rattle.vt_steps.specs.promise.Cells.{action_worker, worker_of}
use Rattle.vt_steps.specs.inside.Cells.{CellName, inbox_of, board_cell, book_cell, Cell, in_inbox, on_board, in_book, content, with_content, action_cell, cell_of, is_local, Acted, left_alone, acted_locally, acted_at, acted_close, local_rule, done_at, act, put_back, if_own, local_step, local_steps}
use Rattle.vt_steps.specs.inside.Laws.{IsAny, IsRefused, ActsOnOneCell}
use Rattle.vt_steps.specs.inside.Marked.{Marked, Made, answered, unmarked, marked, made_done, IsMarkedRight, own_steps, DoesSo, Leads}
use Rattle.vt_steps.specs.promise.CellSteps.{CellEffect}
use Rattle.vt_steps.specs.promise.Actions.{Action, on_part, at_inbox, at_board, at_book, on_book, action_of}
use Rattle.vt_steps.specs.promise.Next.{done_in, next, run, refused, with_book}
use Rattle.vt_steps.specs.promise.World.{Part, Book, World}
use Rattle.vt_steps.proofs.steps.CellLemmas.{next-acts_on_one_cell}
use Rattle.vt_steps.proofs.steps.Changes.{map_has, chain_has}
use Rattle.vt_steps.proofs.steps.Outcomes.{done_or_refused-either, unless_closed-either}
use Rattle.vt_steps.proofs.marks.MarkedRuns.{marked-append, own-append, own-first, unmarked-marked}
use Rattle.vt_steps.proofs.lists.Indices.{get-put_same, get-put_other}
use Rattle.vt_key.proofs.ListLemmas.{every-append}
use Rattle.vt_steps.proofs.steps.MemoryLemmas.{run-append}

-- ---- cells of one kind

-- both are inboxes, or boards, or books
abbrev pub AreOneKind : {P : Type 0} → Cell P → Cell P → Type 0
AreOneKind (in_inbox a) (in_inbox b) = Unit {0}
AreOneKind (on_board a) (on_board b) = Unit {0}
AreOneKind (in_book a) (in_book b) = Unit {0}
AreOneKind _ _ = ⊥

same-kind : {P : Type 0} (cell : Cell P) → AreOneKind cell cell
same-kind (in_inbox a) = tt
same-kind (on_board a) = tt
same-kind (in_book a) = tt

module _ {P : Type 0} where
  locally-kind : (part : Part P) (cell : Cell P) (o : Option (Part P)) → AreOneKind cell (acted_locally part cell o).cell
  locally-kind part cell None = same-kind cell
  locally-kind part cell (Some new) = same-kind cell

  cell-kind : {C : Type 0} (part : Part P) (kind : C → Cell P) (held : C) (o : Option (CellEffect P C)) → ((a b : C) → AreOneKind (kind a) (kind b)) → AreOneKind (kind held) (acted_at part kind held o).cell
  cell-kind part kind held None same = same held held
  cell-kind part kind held (Some effect) same = same held effect.cell

  close-kind : (part : Part P) (book : Book) (o : Option Book) → AreOneKind (in_book book) (acted_close part book o).cell
  close-kind part book None = tt
  close-kind part book (Some new) = tt

  done-kind : (action : Action P) (part : Part P) (cell : Cell P) → AreOneKind cell (done_at action part cell).cell
  done-kind (on_part w step) part cell = locally-kind part cell (step part)
  done-kind (at_inbox w v step) part (in_inbox inbox) = cell-kind part in_inbox inbox (step part inbox) (λ a b. tt)
  done-kind (at_inbox w v step) part (on_board board) = tt
  done-kind (at_inbox w v step) part (in_book book) = tt
  done-kind (at_board w step) part (in_inbox inbox) = tt
  done-kind (at_board w step) part (on_board board) = cell-kind part on_board board (step part board) (λ a b. tt)
  done-kind (at_board w step) part (in_book book) = tt
  done-kind (at_book w step) part (in_inbox inbox) = tt
  done-kind (at_book w step) part (on_board board) = tt
  done-kind (at_book w step) part (in_book book) =
      unless_closed-either book (left_alone part (in_book book)) _ (λ a. AreOneKind (in_book book) a.cell) (λ shut. tt) (λ is_open. cell-kind part in_book book (step part book) (λ a b. tt))
  done-kind (on_book step) part (in_inbox inbox) = tt
  done-kind (on_book step) part (on_board board) = tt
  done-kind (on_book step) part (in_book book) =
      unless_closed-either book (left_alone part (in_book book)) _ (λ a. AreOneKind (in_book book) a.cell) (λ shut. tt) (λ is_open. close-kind part book (step book))

-- a step leaves an inbox an inbox, the board the board, and the book the book
pub act-kind : {S P : Type 0} (sim : Simulation S P) (step : Step) (part : Part P) (cell : Cell P) → AreOneKind cell (act sim step part cell).cell
unfolding act
act-kind sim step part cell = done-kind (action_of sim step) part cell

-- ---- a cell that is put back

module _ {P : Type 0} where
  -- it holds what was put there
  pub content-put_same : (world : World P) (name : CellName) (cell left : Cell P) → content world name ≡ Some cell → AreOneKind cell left → content (with_content world name left) name ≡ Some left
  content-put_same world (inbox_of w) cell left holds kind =
      let has = map_has in_inbox (slice_get world.inboxes w) cell holds in
      by_left left (subst (λ c. AreOneKind c left) has.2 kind)
    where
      by_left : (left : Cell P) → AreOneKind (in_inbox (map_has in_inbox (slice_get world.inboxes w) cell holds).0) left → content (with_content world (inbox_of w) left) (inbox_of w) ≡ Some left
      by_left (in_inbox mails) k = ap (option_map in_inbox) (get-put_same world.inboxes w (map_has in_inbox (slice_get world.inboxes w) cell holds).0 mails (map_has in_inbox (slice_get world.inboxes w) cell holds).1)
      by_left (on_board board) k = absurd k
      by_left (in_book book) k = absurd k
  content-put_same world board_cell cell (in_inbox mails) holds kind = absurd (subst (λ c. AreOneKind c (in_inbox mails)) (let h : Some (on_board world.board) ≡ Some cell = holds in let same : cell ≡ on_board world.board = cc in same) kind)
  content-put_same world board_cell cell (on_board board) holds kind = refl
  content-put_same world board_cell cell (in_book book) holds kind = absurd (subst (λ c. AreOneKind c (in_book book)) (let h : Some (on_board world.board) ≡ Some cell = holds in let same : cell ≡ on_board world.board = cc in same) kind)
  content-put_same world book_cell cell (in_inbox mails) holds kind = absurd (subst (λ c. AreOneKind c (in_inbox mails)) (let h : Some (in_book world.book) ≡ Some cell = holds in let same : cell ≡ in_book world.book = cc in same) kind)
  content-put_same world book_cell cell (on_board board) holds kind = absurd (subst (λ c. AreOneKind c (on_board board)) (let h : Some (in_book world.book) ≡ Some cell = holds in let same : cell ≡ in_book world.book = cc in same) kind)
  content-put_same world book_cell cell (in_book book) holds kind = refl

  -- the others hold what they held
  pub content-put_other : (world : World P) (name other : CellName) (left : Cell P) → ¬ (other ≡ name) → content (with_content world name left) other ≡ content world other
  content-put_other world (inbox_of w) (inbox_of v) (in_inbox mails) apart = ap (option_map in_inbox) (get-put_other world.inboxes w v mails (λ e. apart (ap inbox_of e)))
  content-put_other world (inbox_of w) board_cell (in_inbox mails) apart = refl
  content-put_other world (inbox_of w) book_cell (in_inbox mails) apart = refl
  content-put_other world (inbox_of w) other (on_board board) apart = refl
  content-put_other world (inbox_of w) other (in_book book) apart = refl
  content-put_other world board_cell other (in_inbox mails) apart = refl
  content-put_other world board_cell (inbox_of v) (on_board board) apart = refl
  content-put_other world board_cell board_cell (on_board board) apart = absurd (apart refl)
  content-put_other world board_cell book_cell (on_board board) apart = refl
  content-put_other world board_cell other (in_book book) apart = refl
  content-put_other world book_cell other (in_inbox mails) apart = refl
  content-put_other world book_cell other (on_board board) apart = refl
  content-put_other world book_cell (inbox_of v) (in_book book) apart = refl
  content-put_other world book_cell board_cell (in_book book) apart = refl
  content-put_other world book_cell book_cell (in_book book) apart = absurd (apart refl)

  -- a cell that is put back changes no part
  pub parts-put : (world : World P) (name : CellName) (left : Cell P) → (with_content world name left).parts ≡ world.parts
  parts-put world (inbox_of w) (in_inbox mails) = refl
  parts-put world (inbox_of w) (on_board board) = refl
  parts-put world (inbox_of w) (in_book book) = refl
  parts-put world board_cell (in_inbox mails) = refl
  parts-put world board_cell (on_board board) = refl
  parts-put world board_cell (in_book book) = refl
  parts-put world book_cell (in_inbox mails) = refl
  parts-put world book_cell (on_board board) = refl
  parts-put world book_cell (in_book book) = refl

  -- a part that is put back changes no cell
  pub content-part : (world : World P) (parts : List (Part P)) (name : CellName) → content (record world { parts = parts }) name ≡ content world name
  content-part world parts (inbox_of w) = refl
  content-part world parts board_cell = refl
  content-part world parts book_cell = refl

-- ---- the steps of one worker

module _ {S P : Type 0} (sim : Simulation S P) (w : ℕ) where
  none-any : {X : Type 0} (o : Option X) (x : X) → is_none o ≡ true → IsAny o x
  none-any None x e = tt
  none-any (Some y) x e = absurd (let h : false ≡ true = e in cc)

  some-any : {X : Type 0} (o : Option X) (x : X) → o ≡ Some x → IsAny o x
  some-any None x e = tt
  some-any (Some y) x e = let h : Some y ≡ Some x = e in cc

  -- one step, at a cell
  pub step-does : (world : World P) (name : CellName) (step : Step) (part new : Part P) (cell left : Cell P) (reply : Reply) → IsAny (worker_of sim step) w → IsAny (cell_of sim step) name →
      act sim step part cell ≡ record { part = new; cell = left; answer = Ok reply } → slice_get world.parts w ≡ Some part → content world name ≡ Some cell →
      DoesSo sim w name (step ∷ []) world new left (record { step = step; reply = reply } ∷ [])
  unfolding run own_steps
  step-does world name step part new cell left reply whose at does is holds =
      let outcome = next sim world step in
      let acted : Acted P = record { part = new; cell = left; answer = Ok reply } in
      let goes : outcome ≡ put_back world w name acted = (next-acts_on_one_cell sim world step).acts w name part cell whose at is holds ∙ ap (put_back world w name) does in
      let kind : AreOneKind cell left = subst (λ (a : Acted P). AreOneKind cell a.cell) does (act-kind sim step part cell) in
      let moved : World P = record world { parts = slice_set world.parts w new } in
      let after : outcome.world ≡ with_content moved name left = ap (λ o. o.world) goes in
      record {
        part = ap (λ (n : World P). slice_get n.parts w) after ∙ ap (λ (ps : List (Part P)). slice_get ps w) (parts-put moved name left) ∙ get-put_same world.parts w part new is;
        cell = ap (λ (n : World P). content n name) after ∙ content-put_same moved name cell left (content-part world (slice_set world.parts w new) name ∙ holds) kind;
        other_parts = λ v apart. ap (λ (n : World P). slice_get n.parts v) after ∙ ap (λ (ps : List (Part P)). slice_get ps v) (parts-put moved name left) ∙ get-put_other world.parts w v new apart;
        other_cells = λ other apart. ap (λ (n : World P). content n other) after ∙ content-put_other moved name other left apart ∙ content-part world (slice_set world.parts w new) other;
        answers = own-first sim w world step [] ∙ ap (λ a. record { step = step; answer = a } ∷ []) (ap (λ o. o.answer) goes);
      }

  -- nothing is done by no steps
  pub nothing-done : (world : World P) (name : CellName) (part : Part P) (cell : Cell P) → slice_get world.parts w ≡ Some part → content world name ≡ Some cell → DoesSo sim w name [] world part cell []
  unfolding run own_steps
  nothing-done world name part cell is holds = record { part = is; cell = holds; other_parts = λ v apart. refl; other_cells = λ other apart. refl; answers = refl }

  -- some steps and then others
  pub does-append : (world : World P) (name : CellName) (first more : List Step) (part new : Part P) (cell left : Cell P) (made then_made : List Made) →
      DoesSo sim w name first world part cell made → DoesSo sim w name more (run sim world first) new left then_made →
      DoesSo sim w name (first ++ more) world new left (made ++ then_made)
  does-append world name first more part new cell left made then_made a b =
      let whole = run-append sim world first more in
      record {
        part = ap (λ (n : World P). slice_get n.parts w) whole ∙ b.part;
        cell = ap (λ (n : World P). content n name) whole ∙ b.cell;
        other_parts = λ v apart. ap (λ (n : World P). slice_get n.parts v) whole ∙ b.other_parts v apart ∙ a.other_parts v apart;
        other_cells = λ other apart. ap (λ (n : World P). content n other) whole ∙ b.other_cells other apart ∙ a.other_cells other apart;
        answers =
            ap (own_steps sim w world) (marked-append w first more)
            ∙ own-append sim w world (marked w first) (marked w more)
            ∙ ap (λ l. own_steps sim w world (marked w first) ++ own_steps sim w (run sim world l) (marked w more)) (unmarked-marked w first)
            ∙ ap (λ l. l ++ own_steps sim w (run sim world first) (marked w more)) a.answers
            ∙ ap (λ l. map answered made ++ l) b.answers
            ∙ sym (map-append answered made then_made);
      }

  -- ---- local steps

  if-own : {X : Type 0} (v : ℕ) (o : Option X) (x : X) → cond (nat_eq v w) o None ≡ Some x → (v ≡ w) × (o ≡ Some x)
  if-own v o x e =
      elim (eqb_tells v w) [
        | inl t ↦ (t.1, sym (ap (λ b. cond b o None) t.0) ∙ e)
        | inr t ↦ absurd (let h : None ≡ Some x = sym (ap (λ b. cond b o None) t.0) ∙ e in cc)
      ]

  -- a local step that is done is its worker's, is about no cell, and does so whatever a cell holds
  record LeadsLocally (step : Step) (part new : Part P) : Type 0 where
    pub own : worker_of sim step ≡ Some w
    pub local : is_local sim step ≡ true
    pub done : (cell : Cell P) → act sim step part cell ≡ record { part = new; cell = cell; answer = Ok Done }

  action-leads : (action : Action P) (part new : Part P) → if_own sim w (action_worker action) (local_rule action part) ≡ Some new →
      (action_worker action ≡ Some w) × (is_none (action_cell action) ≡ true) × ((cell : Cell P) → done_at action part cell ≡ record { part = new; cell = cell; answer = Ok Done })
  action-leads (on_part v step) part new e = let h = if-own v (step part) new e in (ap (λ n. Some n) h.0, refl, λ cell. ap (acted_locally part cell) h.1)
  action-leads (at_inbox v u step) part new e = absurd (let h : None ≡ Some new = (if-own v None new e).1 in cc)
  action-leads (at_board v step) part new e = absurd (let h : None ≡ Some new = (if-own v None new e).1 in cc)
  action-leads (at_book v step) part new e = absurd (let h : None ≡ Some new = (if-own v None new e).1 in cc)
  action-leads (on_book step) part new e = absurd (let h : None ≡ Some new = e in cc)

  step-leads : (step : Step) (part new : Part P) → local_step sim w step part ≡ Some new → LeadsLocally step part new
  unfolding act
  step-leads step part new e = let l = action-leads (action_of sim step) part new e in record { own = l.0; local = l.1; done = l.2 }

  -- local steps
  pub local-does : (world : World P) (name : CellName) (steps : List Step) (part new : Part P) (cell : Cell P) → local_steps sim w steps part ≡ Some new →
      slice_get world.parts w ≡ Some part → content world name ≡ Some cell → DoesSo sim w name steps world new cell (made_done steps)
  local-does world name [] part new cell led is holds = nothing-done world name new cell (is ∙ led) holds
  local-does world name (step ∷ steps) part new cell led is holds =
      let between = chain_has (local_steps sim w steps) (local_step sim w step part) new led in
      let first = step-leads step part between.0 between.1 in
      let one = step-does world name step part between.0 cell cell Done (some-any (worker_of sim step) w first.own) (none-any (cell_of sim step) name first.local) (first.done cell) is holds in
      does-append world name (step ∷ []) steps between.0 new cell cell (record { step = step; reply = Done } ∷ []) (made_done steps) one
      (local-does (run sim world (step ∷ [])) name steps between.0 new cell between.2 one.part one.cell)

  -- no step leads nowhere
  pub leads-nowhere : (name : CellName) (part : Part P) (cell : Cell P) → Leads sim w name part cell [] part cell []
  leads-nowhere name part cell = record { own = tt; does = λ world is holds. nothing-done world name part cell is holds }

  -- local steps are marked with their worker
  local-right : (steps : List Step) (part new : Part P) → local_steps sim w steps part ≡ Some new → AllByRecursion (IsMarkedRight sim) (marked w steps)
  local-right [] part new led = tt
  local-right (step ∷ steps) part new led =
      let between = chain_has (local_steps sim w steps) (local_step sim w step part) new led in
      (some-any (worker_of sim step) w (step-leads step part between.0 between.1).own, local-right steps between.0 new between.2)

  -- local steps, and one step at the cell
  pub leads : (name : CellName) (steps : List Step) (step : Step) (part before new : Part P) (cell left : Cell P) (reply : Reply) → local_steps sim w steps part ≡ Some before →
      IsAny (worker_of sim step) w → IsAny (cell_of sim step) name → act sim step before cell ≡ record { part = new; cell = left; answer = Ok reply } →
      Leads sim w name part cell (steps ++ step ∷ []) new left (made_done steps ++ record { step = step; reply = reply } ∷ [])
  leads name steps step part before new cell left reply local whose at does = record {
    own = subst (AllByRecursion (IsMarkedRight sim)) (sym (marked-append w steps (step ∷ []))) (every-append (IsMarkedRight sim) (marked w steps) (marked w (step ∷ [])) (local-right steps part before local) (whose, tt));
    does = λ world is holds.
        (let first = local-does world name steps part before cell local is holds in
        does-append world name steps (step ∷ []) before new cell left (made_done steps) (record { step = step; reply = reply } ∷ []) first
        (step-does (run sim world steps) name step before new cell left reply whose at does first.part first.cell));
  }

-- ---- the parts of the others

module _ {S P : Type 0} (sim : Simulation S P) where
  -- an action that is about no part changes none
  no-worker-parts : (world : World P) (action : Action P) → action_worker action ≡ None → (done_in world action).world.parts ≡ world.parts
  no-worker-parts world (on_book step) none =
      unless_closed-either world.book (refused world) _ (λ o. o.world.parts ≡ world.parts) (λ shut. refl)
      (λ is_open. done_or_refused-either world (option_map (with_book world) (step world.book)) (λ o. o.world.parts ≡ world.parts) refl (λ new e.
      ap (λ (n : World P). n.parts) (map_has (with_book world) (step world.book) new e).2))
  no-worker-parts world (on_part w step) none = absurd (let h : Some w ≡ None = none in cc)
  no-worker-parts world (at_inbox w v step) none = absurd (let h : Some w ≡ None = none in cc)
  no-worker-parts world (at_board w step) none = absurd (let h : Some w ≡ None = none in cc)
  no-worker-parts world (at_book w step) none = absurd (let h : Some w ≡ None = none in cc)

  next-no_worker : (world : World P) (step : Step) → worker_of sim step ≡ None → (next sim world step).world.parts ≡ world.parts
  unfolding next
  next-no_worker world step none = no-worker-parts world (action_of sim step) none

  -- a step changes no part but that of the worker that makes it
  pub others-part : (world : World P) (step : Step) (w q : ℕ) → IsAny (worker_of sim step) w → ¬ (q ≡ w) → slice_get (next sim world step).world.parts q ≡ slice_get world.parts q
  others-part world step w q whose apart = by_worker (worker_of sim step) refl whose
    where
      laws : ActsOnOneCell sim world step
      laws = next-acts_on_one_cell sim world step

      refused-same : IsRefused sim world step → slice_get (next sim world step).world.parts q ≡ slice_get world.parts q
      refused-same is = ap (λ o. slice_get o.world.parts q) is.1

      acted-same : (name : CellName) (acted : Acted P) → next sim world step ≡ put_back world w name acted → slice_get (next sim world step).world.parts q ≡ slice_get world.parts q
      acted-same name acted is =
          ap (λ o. slice_get o.world.parts q) is
          ∙ ap (λ (ps : List (Part P)). slice_get ps q) (parts-put (record world { parts = slice_set world.parts w acted.part }) name acted.cell)
          ∙ get-put_other world.parts w q acted.part apart

      by_content : (name : CellName) (part : Part P) (o : Option (Cell P)) → cell_of sim step ≡ Some name → slice_get world.parts w ≡ Some part → content world name ≡ o → slice_get (next sim world step).world.parts q ≡ slice_get world.parts q
      by_content name part None at is holds = refused-same (laws.no_cell name at holds)
      by_content name part (Some cell) at is holds = acted-same name (act sim step part cell) (laws.acts w name part cell whose (some-any sim w (cell_of sim step) name at) is holds)

      by_cell : (part : Part P) (o : Option CellName) → cell_of sim step ≡ o → slice_get world.parts w ≡ Some part → slice_get (next sim world step).world.parts q ≡ slice_get world.parts q
      by_cell part None at is = acted-same board_cell (act sim step part (on_board world.board)) (laws.acts w board_cell part (on_board world.board) whose (subst (λ o. IsAny o board_cell) (sym at) tt) is refl)
      by_cell part (Some name) at is = by_content name part (content world name) at is refl

      by_part : (o : Option (Part P)) → worker_of sim step ≡ Some w → slice_get world.parts w ≡ o → slice_get (next sim world step).world.parts q ≡ slice_get world.parts q
      by_part None mine is = refused-same (laws.no_worker w mine is)
      by_part (Some part) mine is = by_cell part (cell_of sim step) refl is

      by_worker : (o : Option ℕ) → worker_of sim step ≡ o → IsAny o w → slice_get (next sim world step).world.parts q ≡ slice_get world.parts q
      by_worker None mine any = ap (λ (ps : List (Part P)). slice_get ps q) (next-no_worker world step mine)
      by_worker (Some u) mine any = by_part (slice_get world.parts w) (mine ∙ ap (λ n. Some n) any) refl

  -- nor do steps of other workers
  pub run-others_part : (world : World P) (q : ℕ) (marks : List Marked) → AllByRecursion (IsMarkedRight sim) marks → AllByRecursion (λ m. ¬ (m.worker ≡ q)) marks → slice_get (run sim world (unmarked marks)).parts q ≡ slice_get world.parts q
  unfolding run
  run-others_part world q [] right others = refl
  run-others_part world q (m ∷ marks) right others =
      run-others_part (next sim world m.step).world q marks right.1 others.1 ∙ others-part world m.step m.worker q right.0 (λ e. others.0 (sym e))
