-- What holds of a station between any two atomic steps: there is a list of steps, each marked with its worker, whose run from
-- the opening world gives the world that the cells and the places show; and each place's own steps are those of its worker.
use Rattle.std.specs.Prelude.{◌≡◌, ◌≢◌, ℕ, ◌+◌, ◌-◌, ◌<◌, ◌≤◌, List, [], ◌++◌, map, length, drop, slice_get, slice_index, slice_index_or, Some}
use Rattle.std.specs.List.{range_with_len, AllByRecursion}
use mathlib.Core.Option.{none, some}
use lib.ListN.{get_elem?}
use Rattle.atomic_table.specs.Table.{State, Me}
use Rattle.vt_key.specs.promise.Times.{TimeAtMost, opening_time}
use Rattle.vt_model.specs.declared.settings.Config.{Config}
use Rattle.vt_model.specs.promise.Simulation.{Simulation}
use Rattle.vt_steps.specs.promise.World.{Part, book_floor, opening_part}
use Rattle.vt_steps.specs.inside.Cells.{inbox_of, Cell, in_inbox, content}
use Rattle.vt_steps.specs.inside.Marked.{Marked, answered, IsMarkedRight, own_steps_of, shown}
use Rattle.vt_places.specs.declared.slot.Slot.{Slot}
use Rattle.vt_places.specs.declared.view.View.{View}
use Rattle.vt_places.specs.inside.Hands.{empty_hand, holding}
use Rattle.vt_places.specs.inside.Slots.{cell_count, word_at, empty_word, claimed_word, cell_at, held_in, IsSlotOf}

-- the words, the slots and the views of a station's table
abbrev pub TableState : Type 0 → Type 0
TableState P = State (Slot P) (View P)

-- a view, and the slots that its seat has taken
abbrev pub Sat : Type 0 → Type 0
Sat P = Me (Slot P) (View P)

-- a list of steps is a former one with more steps behind it, none of which worker w has made
pub record HasGrown (w : ℕ) (former log : List Marked) : Type 0 where
  pub since : List Marked
  pub whole : log ≡ former ++ since
  pub others : AllByRecursion (λ m. ¬ (m.worker ≡ w)) since

-- cell k is held by a seat
pub record IsHeld {P : Type 0} (s : TableState P) (k : ℕ) : Type 0 where
  pub seat : ℕ
  pub view : View P
  pub cell : Cell P
  pub there : get_elem? s.views seat ≡ some view
  pub hand : view.hand ≡ holding k cell

-- worker q has a seat
pub record IsSeated {P : Type 0} (s : TableState P) (q : ℕ) : Type 0 where
  pub seat : ℕ
  pub view : View P
  pub there : get_elem? s.views seat ≡ some view
  pub worker : view.worker ≡ q

module _ {S P : Type 0} (sim : Simulation S P) where
  -- cell k is claimed by a place, which found this in it: its word says so, its slot is not at home, and the shown world has it
  pub record IsClaimed (s : TableState P) (log : List Marked) (k : ℕ) (cell : Cell P) : Type 0 where
    pub near : k < cell_count sim.workers
    pub word : slice_index s.words (word_at k) ≡ claimed_word
    pub away : get_elem? s.homes k ≡ some none
    pub shows : content (shown sim log) (cell_at sim.workers k) ≡ Some cell

  -- the place that makes the others knows how many there are, and the opening parts of those that are still to be made
  pub record Makes (made : ℕ) (v : View P) : Type 0 where
    pub next : v.made ≡ made
    pub all : made + length v.waiting ≡ sim.workers
    pub parts : (i : ℕ) (part : Part P) → get_elem? v.waiting i ≡ some part → part ≡ opening_part sim 0 (made + i)

  -- what is said of the seat j with the view v: the shown world has its part, the list's steps of its worker are its own, the list
  -- is the one that it left with steps of others behind it, and the book's floor is not below the one that it was shown
  pub record Sits (s : TableState P) (log : List Marked) (made maker j : ℕ) (v : View P) : Type 0 where
    pub inside : v.worker < made
    pub part : slice_get (shown sim log).parts v.worker ≡ Some v.part
    pub mine : own_steps_of sim v.worker log ≡ map answered v.mine
    pub grows : HasGrown v.worker v.log log
    pub seen : TimeAtMost v.seen (book_floor sim.end (shown sim log).book)
    pub holds : (k : ℕ) (cell : Cell P) → v.hand ≡ holding k cell → IsClaimed s log k cell
    pub makes : j ≡ maker → Makes made v
    pub waits : j ≢ maker → v.waiting ≡ []

  module _ (config : Config) where
    -- cell k is at home, and the shown world has what is in it
    pub record IsAtHome (s : TableState P) (log : List Marked) (k : ℕ) : Type 0 where
      pub slot : Slot P
      pub home : get_elem? s.homes k ≡ some (some slot)
      pub cell : content (shown sim log) (cell_at sim.workers k) ≡ Some (held_in slot)
      pub right : IsSlotOf config k slot

    -- the rule
    pub record IsTableRight (s : TableState P) : Type 0 where
      -- the steps, how many places there are, and which of them makes the others
      pub log : List Marked
      pub made : ℕ
      pub maker : ℕ
      pub wide : length s.words ≡ word_at (cell_count sim.workers)
      pub deep : length s.homes ≡ cell_count sim.workers
      pub most : made ≤ sim.workers
      -- a worker without a place has made no step, and each step is marked with the worker that it is about
      pub marks : AllByRecursion (λ m. m.worker < made) log
      pub right : AllByRecursion (IsMarkedRight sim) log
      pub count : length s.views ≡ made
      pub maker_there : maker < made
      -- a cell whose word says that it is claimed is held by one seat, and any other is at home
      pub free : (k : ℕ) → k < cell_count sim.workers → slice_index s.words (word_at k) ≢ claimed_word → IsAtHome s log k
      pub taken : (k : ℕ) → k < cell_count sim.workers → slice_index s.words (word_at k) ≡ claimed_word → IsHeld s k
      -- an inbox whose word says that it is empty is empty
      pub empty : (k : ℕ) → k < sim.workers → slice_index s.words (word_at k) ≡ empty_word → content (shown sim log) (inbox_of k) ≡ Some (in_inbox [])
      pub each : (j : ℕ) (v : View P) → get_elem? s.views j ≡ some v → Sits s log made maker j v
      -- each worker that has a place has a seat. No two seats are of one worker, and none hold one cell
      pub seated : (q : ℕ) → q < made → IsSeated s q
      pub apart : (i j : ℕ) (v w : View P) → get_elem? s.views i ≡ some v → get_elem? s.views j ≡ some w → v.worker ≡ w.worker → i ≡ j
      pub alone : (i j : ℕ) (v w : View P) (k : ℕ) (c d : Cell P) → get_elem? s.views i ≡ some v → get_elem? s.views j ≡ some w → v.hand ≡ holding k c → w.hand ≡ holding k d → i ≡ j

-- ---- the views that are made

-- the view of a place that is made: it has its part, and has made no step
abbrev pub blank : {P : Type 0} → ℕ → Part P → View P
blank worker part = record { marker = record {}; worker = worker; part = part; mine = []; log = []; seen = opening_time; hand = empty_hand; made = 0; waiting = [] }

-- the view of the first place, which makes the others
abbrev pub first_view : {S P : Type 0} → Simulation S P → View P
first_view sim = record (blank 0 (opening_part sim 0 0)) { made = 1; waiting = map (opening_part sim 0) (range_with_len 1 (sim.workers - 1)) }

-- a seat rests: it holds no cell
abbrev pub Rests : {P : Type 0} → Sat P → Type 0
Rests m = (m.0.hand ≡ empty_hand) × (m.1 ≡ [])

-- ---- the making of a place

-- the view of the place that makes another, after it
abbrev pub left_view : {P : Type 0} → View P → View P
left_view v = record v { made = v.made + 1; waiting = drop 1 v.waiting }

-- the view of the place that is made
abbrev pub next_view : {P : Type 0} → View P → View P
next_view v = blank v.made (slice_index_or v.waiting 0 v.part)
