-- A step of a world is a step of one part and one cell, put back.
use Rattle.std.proofs.Common.{◌≡◌, ℕ, zero, suc, true, false, cond, List, [], ◌∷◌, refl, sym, subst, ◌∙◌, ap, Option, Some, None, slice_get, slice_set, IsTrue}
use Rattle.std.specs.Option.{option_map, option_and_then, is_none}
use Rattle.vt_key.specs.declared.letter.Mail.{Mail}
use Rattle.vt_key.specs.declared.fault.Fault.{Fault}
use Rattle.vt_key.specs.declared.fault.Fault.TheVariants.{NotLawful, Closed}
use Rattle.vt_model.specs.promise.Simulation.{Simulation}
use Rattle.vt_steps.specs.declared.step.Step.{Step}
use Rattle.vt_steps.specs.declared.step.Reply.TheVariants.{Done}
use Rattle.vt_steps.specs.promise.World.{Part, Board, Book, World}
use Rattle.vt_steps.specs.promise.BookSteps.{unless_closed}
use Rattle.vt_steps.specs.promise.CellSteps.{CellEffect}
use Rattle.vt_steps.specs.promise.Actions.{Action, on_part, at_inbox, at_board, at_book, on_book, action_of}
use Rattle.vt_steps.specs.promise.Next.{effect_in, Outcome, refused, replied, done_or_refused, with_part, with_inbox, with_board, with_book, locally, at_cell, done_in, next}
use Rattle.vt_steps.specs.promise.Cells.{action_worker, worker_of}
use Rattle.vt_steps.specs.inside.Cells.{CellName, inbox_of, board_cell, book_cell, Cell, in_inbox, on_board, in_book, content, with_content, action_cell, cell_of, is_local, Acted, left_alone, acted_locally, acted_at, acted_close, done_at, act, put_back}
use Rattle.vt_steps.specs.inside.Laws.{IsAny, ActsOnOneCell, LeavesCells}
use Rattle.vt_steps.proofs.steps.Changes.{map_has}
use Rattle.vt_steps.proofs.steps.Outcomes.{at_cell-found, at_cell-nobody, at_cell-nowhere, unless_closed-either, unless_closed-open}

-- ---- what is put back as it was

slice_set-same : {X : Type 0} (xs : List X) (i : ℕ) (x : X) → slice_get xs i ≡ Some x → slice_set xs i x ≡ xs
slice_set-same [] i x e = refl
slice_set-same (y ∷ ys) zero x e = let same : y ≡ x = cc in ap (λ z. z ∷ ys) (sym same)
slice_set-same (y ∷ ys) (suc i) x e = ap (λ zs. y ∷ zs) (slice_set-same ys i x e)

with_content-same : {P : Type 0} (world : World P) (name : CellName) (cell : Cell P) → content world name ≡ Some cell → with_content world name cell ≡ world
with_content-same world (inbox_of w) (in_inbox mails) e =
    let has = map_has in_inbox (slice_get world.inboxes w) (in_inbox mails) e in
    let same : mails ≡ has.0 = cc in
    ap (λ (inboxes : List _). record world { inboxes = inboxes }) (slice_set-same world.inboxes w mails (has.1 ∙ ap (λ x. Some x) (sym same)))
with_content-same world board_cell (on_board board) e = let same : world.board ≡ board = cc in ap (λ (b : Board). record world { board = b }) (sym same)
with_content-same world book_cell (in_book book) e = let same : world.book ≡ book = cc in ap (λ (b : Book). record world { book = b }) (sym same)
with_content-same world (inbox_of w) (on_board board) e = refl
with_content-same world (inbox_of w) (in_book book) e = refl
with_content-same world board_cell (in_inbox mails) e = refl
with_content-same world board_cell (in_book book) e = refl
with_content-same world book_cell (in_inbox mails) e = refl
with_content-same world book_cell (on_board board) e = refl

-- the part and the cell are put back as they were
left-alone : {P : Type 0} (world : World P) (w : ℕ) (name : CellName) (part : Part P) (cell : Cell P) →
    slice_get world.parts w ≡ Some part → content world name ≡ Some cell → with_content (with_part world w part) name cell ≡ world
left-alone world w name part cell is holds =
    ap (λ (parts : List _). with_content (record world { parts = parts }) name cell) (slice_set-same world.parts w part is)
    ∙ with_content-same world name cell holds

-- ---- the steps

-- a refusal puts back what was there
refuses : {P : Type 0} (world : World P) (w : ℕ) (name : CellName) (part : Part P) (cell : Cell P) (fault : Fault) →
    slice_get world.parts w ≡ Some part → content world name ≡ Some cell → refused world fault ≡ put_back world w name (left_alone part cell fault)
refuses world w name part cell fault is holds =
    ap (λ (x : World _). refused x fault) (sym (left-alone world w name part cell is holds))

-- the cell is put back beside a new part
beside : {P : Type 0} (world : World P) (w : ℕ) (name : CellName) (new : Part P) (cell : Cell P) →
    content world name ≡ Some cell → with_part world w new ≡ with_content (with_part world w new) name cell
beside world w (inbox_of v) new cell holds = sym (with_content-same (with_part world w new) (inbox_of v) cell holds)
beside world w board_cell new cell holds = sym (with_content-same (with_part world w new) board_cell cell holds)
beside world w book_cell new cell holds = sym (with_content-same (with_part world w new) book_cell cell holds)

locally-acts : {P : Type 0} (world : World P) (w : ℕ) (step : Part P → Option (Part P)) (name : CellName) (part : Part P) (cell : Cell P) →
    slice_get world.parts w ≡ Some part → content world name ≡ Some cell → locally world w step ≡ put_back world w name (acted_locally part cell (step part))
locally-acts {P = P} world w step name part cell is holds =
    ap (λ (o : Option (Part P)). done_or_refused world (option_map (with_part world w) (option_and_then step o))) is ∙ by_result (step part)
  where
    by_result : (o : Option (Part P)) → done_or_refused world (option_map (with_part world w) o) ≡ put_back world w name (acted_locally part cell o)
    by_result None = refuses world w name part cell NotLawful is holds
    by_result (Some new) = ap (λ (x : World P). replied x Done) (beside world w name new cell holds)

-- an effect at a cell is put back into the world
effect-acts : {P C : Type 0} (world : World P) (w : ℕ) (name : CellName) (put : World P → C → World P) (kind : C → Cell P) (part : Part P) (held : C) (o : Option (CellEffect P C)) →
    ((new : World P) (c : C) → with_content new name (kind c) ≡ put new c) → slice_get world.parts w ≡ Some part → content world name ≡ Some (kind held) →
    effect_in world w put o ≡ put_back world w name (acted_at part kind held o)
effect-acts world w name put kind part held None puts is holds = refuses world w name part (kind held) NotLawful is holds
effect-acts world w name put kind part held (Some effect) puts is holds = ap (λ (x : World _). replied x effect.reply) (sym (puts (with_part world w effect.part) effect.cell))

cell-acts : {P C : Type 0} (world : World P) (w : ℕ) (name : CellName) (put : World P → C → World P) (kind : C → Cell P) (step : Part P → C → Option (CellEffect P C)) (cell : Option C) (part : Part P) (held : C) →
    ((new : World P) (c : C) → with_content new name (kind c) ≡ put new c) → slice_get world.parts w ≡ Some part → cell ≡ Some held → content world name ≡ Some (kind held) →
    at_cell world w put step cell ≡ put_back world w name (acted_at part kind held (step part held))
cell-acts world w name put kind step cell part held puts is there holds =
    at_cell-found world w put step cell part held is there ∙ effect-acts world w name put kind part held (step part held) puts is holds

-- what is done on the book, unless it is closed
book-acts : {P : Type 0} (world : World P) (w : ℕ) (part : Part P) (outcome : Outcome P) (acted : Acted P) → slice_get world.parts w ≡ Some part →
    outcome ≡ put_back world w book_cell acted → unless_closed world.book (refused world) outcome ≡ put_back world w book_cell (unless_closed world.book (left_alone part (in_book world.book)) acted)
book-acts {P = P} world w part outcome acted is same =
    elim (world.book.is_closed) as (λ b. cond b (refused world Closed) outcome ≡ put_back world w book_cell (cond b (left_alone part (in_book world.book) Closed) acted)) [
      | true ↦ refuses world w book_cell part (in_book world.book) Closed is refl
      | false ↦ same
    ]

close-acts : {P : Type 0} (world : World P) (w : ℕ) (part : Part P) (o : Option Book) → slice_get world.parts w ≡ Some part →
    done_or_refused world (option_map (with_book world) o) ≡ put_back world w book_cell (acted_close part world.book o)
close-acts world w part None is = refuses world w book_cell part (in_book world.book) NotLawful is refl
close-acts world w part (Some new) is = ap (λ (parts : List (Part _)). replied (with_book (record world { parts = parts }) new) Done) (sym (slice_set-same world.parts w part is))

-- ---- the factoring

abbrev Acts : {P : Type 0} → World P → Action P → ℕ → CellName → Type 0
Acts {P} world action w name =
    (part : Part P) (cell : Cell P) → slice_get world.parts w ≡ Some part → content world name ≡ Some cell → done_in world action ≡ put_back world w name (done_at action part cell)

-- along the equations that say which worker and which cell it is
at_named : {P : Type 0} (world : World P) (action : Action P) (v w : ℕ) (own name : CellName) →
    v ≡ w → own ≡ name → Acts world action v own → Acts world action w name
at_named world action v w own name same same_name acts =
    subst (λ n. Acts world action w n) same_name (subst (λ u. Acts world action u own) same acts)

inbox_acts : {P : Type 0} (world : World P) (action : Action P) (w v : ℕ) →
    ((part : Part P) (inbox : List (Mail P)) → slice_get world.parts w ≡ Some part → slice_get world.inboxes v ≡ Some inbox → done_in world action ≡ put_back world w (inbox_of v) (done_at action part (in_inbox inbox))) →
    Acts world action w (inbox_of v)
inbox_acts world action w v acts part cell is holds =
    let has = map_has in_inbox (slice_get world.inboxes v) cell holds in
    subst (λ c. done_in world action ≡ put_back world w (inbox_of v) (done_at action part c)) (sym has.2) (acts part has.0 is has.1)

-- at a cell whose content is known
known_acts : {P : Type 0} (world : World P) (action : Action P) (w : ℕ) (name : CellName) (there : Cell P) → content world name ≡ Some there →
    ((part : Part P) → slice_get world.parts w ≡ Some part → done_in world action ≡ put_back world w name (done_at action part there)) →
    Acts world action w name
known_acts world action w name there found acts part cell is holds =
    let same : there ≡ cell = cc in
    subst (λ c. done_in world action ≡ put_back world w name (done_at action part c)) same (acts part is)

done-acts : {P : Type 0} (world : World P) (action : Action P) (w : ℕ) (name : CellName) →
    IsAny (action_worker action) w → IsAny (action_cell action) name → Acts world action w name
done-acts world (on_part v step) w name whose at = at_named world (on_part v step) v w name name whose refl (locally-acts world v step name)
done-acts world (at_inbox v u step) w name whose at =
    at_named world (at_inbox v u step) v w (inbox_of u) name whose at (inbox_acts world (at_inbox v u step) v u (λ part inbox is there.
    cell-acts world v (inbox_of u) (with_inbox u) in_inbox step (slice_get world.inboxes u) part inbox (λ new c. refl) is there (ap (option_map in_inbox) there)))
done-acts world (at_board v step) w name whose at =
    at_named world (at_board v step) v w board_cell name whose at (known_acts world (at_board v step) v board_cell (on_board world.board) refl (λ part is.
    cell-acts world v board_cell with_board on_board step (Some world.board) part world.board (λ new c. refl) is refl refl))
done-acts world (at_book v step) w name whose at =
    at_named world (at_book v step) v w book_cell name whose at (known_acts world (at_book v step) v book_cell (in_book world.book) refl (λ part is.
    book-acts world v part _ _ is (cell-acts world v book_cell with_book in_book step (Some world.book) part world.book (λ new c. refl) is refl refl)))
done-acts world (on_book step) w name whose at =
    at_named world (on_book step) w w book_cell name refl at (known_acts world (on_book step) w book_cell (in_book world.book) refl (λ part is.
    book-acts world w part _ _ is (close-acts world w part (step world.book) is)))

-- ---- a worker or a cell that is not there

locally-none : {P : Type 0} (world : World P) (w : ℕ) (step : Part P → Option (Part P)) → slice_get world.parts w ≡ None → locally world w step ≡ refused world NotLawful
locally-none {P = P} world w step none = ap (λ (o : Option (Part P)). done_or_refused world (option_map (with_part world w) (option_and_then step o))) none

abbrev Lacks : {P : Type 0} → World P → Option ℕ → Type 0
Lacks world None = ⊥
Lacks world (Some w) = slice_get world.parts w ≡ None

-- where a step is about the book, that is open
abbrev pub IsOpenAt : Option CellName → Book → Type 0
IsOpenAt (Some book_cell) book = book.is_closed ≡ false
IsOpenAt _ book = Unit {0}

done-nobody : {P : Type 0} (world : World P) (action : Action P) → Lacks world (action_worker action) → IsOpenAt (action_cell action) world.book → done_in world action ≡ refused world NotLawful
done-nobody world (on_part w step) none is_open = locally-none world w step none
done-nobody world (at_inbox w v step) none is_open = at_cell-nobody world w (with_inbox v) step (slice_get world.inboxes v) none
done-nobody world (at_board w step) none is_open = at_cell-nobody world w with_board step (Some world.board) none
done-nobody world (at_book w step) none is_open =
    unless_closed-open world.book (refused world) (at_cell world w with_book step (Some world.book)) is_open ∙ at_cell-nobody world w with_book step (Some world.book) none
done-nobody world (on_book step) none is_open = absurd none

-- a step of a worker that is not there
pub next-nobody : {S P : Type 0} (sim : Simulation S P) (world : World P) (step : Step) (w : ℕ) → worker_of sim step ≡ Some w → slice_get world.parts w ≡ None → IsOpenAt (cell_of sim step) world.book →
    next sim world step ≡ refused world NotLawful
unfolding next
next-nobody sim world step w whose none is_open = done-nobody world (action_of sim step) (subst (λ o. Lacks world o) (sym whose) none) is_open

-- a refusal of the action, and nothing else
abbrev IsRefusedIn : {P : Type 0} → World P → Outcome P → Type 0
IsRefusedIn world outcome = (fault : Fault) × (outcome ≡ refused world fault)

without-worker : {P : Type 0} (world : World P) (action : Action P) → Lacks world (action_worker action) → IsRefusedIn world (done_in world action)
without-worker world (on_part w step) none = (NotLawful, done-nobody world (on_part w step) none tt)
without-worker world (at_inbox w v step) none = (NotLawful, done-nobody world (at_inbox w v step) none tt)
without-worker world (at_board w step) none = (NotLawful, done-nobody world (at_board w step) none tt)
without-worker world (at_book w step) none =
    let open_step = at_cell world w with_book step (Some world.book) in
    unless_closed-either world.book (refused world) open_step (IsRefusedIn world) (λ shut. (Closed, refl)) (λ is_open. (NotLawful, at_cell-nobody world w with_book step (Some world.book) none))
without-worker world (on_book step) none = absurd none

abbrev LacksCell : {P : Type 0} → World P → Option CellName → Type 0
LacksCell world None = ⊥
LacksCell world (Some name) = content world name ≡ None

pub map-none : {X Y : Type 0} (f : X → Y) (o : Option X) → option_map f o ≡ None → o ≡ None
map-none f None e = refl
map-none f (Some x) e = absurd (let h : Some (f x) ≡ None = e in cc)

without-cell : {P : Type 0} (world : World P) (action : Action P) → LacksCell world (action_cell action) → IsRefusedIn world (done_in world action)
without-cell world (on_part w step) lacks = absurd lacks
without-cell world (at_inbox w v step) lacks =
    (NotLawful, at_cell-nowhere world w (with_inbox v) step (slice_get world.inboxes v) (map-none in_inbox (slice_get world.inboxes v) lacks))
without-cell world (at_board w step) lacks = absurd (let h : Some (on_board world.board) ≡ None = lacks in cc)
without-cell world (at_book w step) lacks = absurd (let h : Some (in_book world.book) ≡ None = lacks in cc)
without-cell world (on_book step) lacks = absurd (let h : Some (in_book world.book) ≡ None = lacks in cc)

pub next-acts_on_one_cell : {S P : Type 0} (sim : Simulation S P) (world : World P) (step : Step) → ActsOnOneCell sim world step
unfolding next act
next-acts_on_one_cell sim world step = record {
  acts = λ w name part cell whose at. done-acts world (action_of sim step) w name whose at part cell;
  no_worker = λ w is none. without-worker world (action_of sim step) (subst (λ o. Lacks world o) (sym is) none);
  no_cell = λ name is none. without-cell world (action_of sim step) (subst (λ o. LacksCell world o) (sym is) none);
}

-- ---- local steps leave cells

locally-leaves : {P : Type 0} (part : Part P) (o : Option (Part P)) →
    ((cell : Cell P) → (acted_locally part cell o).cell ≡ cell)
    × ((a b : Cell P) → (acted_locally part a o).part ≡ (acted_locally part b o).part)
    × ((a b : Cell P) → (acted_locally part a o).answer ≡ (acted_locally part b o).answer)
locally-leaves part None = (λ cell. refl, λ a b. refl, λ a b. refl)
locally-leaves part (Some new) = (λ cell. refl, λ a b. refl, λ a b. refl)

done-leaves : {P : Type 0} (action : Action P) (part : Part P) → IsTrue (is_none (action_cell action)) →
    ((cell : Cell P) → (done_at action part cell).cell ≡ cell)
    × ((a b : Cell P) → (done_at action part a).part ≡ (done_at action part b).part)
    × ((a b : Cell P) → (done_at action part a).answer ≡ (done_at action part b).answer)
done-leaves (on_part w step) part local = locally-leaves part (step part)
done-leaves (at_inbox w v step) part local = absurd (let h : false ≡ true = local in cc)
done-leaves (at_board w step) part local = absurd (let h : false ≡ true = local in cc)
done-leaves (at_book w step) part local = absurd (let h : false ≡ true = local in cc)
done-leaves (on_book step) part local = absurd (let h : false ≡ true = local in cc)

pub local-leaves_cells : {S P : Type 0} (sim : Simulation S P) (step : Step) (part : Part P) → IsTrue (is_local sim step) → LeavesCells sim step part
unfolding act
local-leaves_cells sim step part local = let l = done-leaves (action_of sim step) part local in record { same_cell = l.0; same_part = l.1; same_answer = l.2 }
