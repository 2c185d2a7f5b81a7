-- The making of a station and its places.
use Rattle.std.specs.Prelude.{◌≡◌, ℕ, ◌+◌, ◌-◌, List, [], ◌∷◌, ◌++◌, map, length}
use Rattle.std.specs.List.{range_with_len, AllByRecursion}
use Rattle.atomic_table.specs.Seated.{TableId}
use Rattle.vt_key.specs.promise.Times.{opening_time}
use Rattle.vt_model.specs.declared.settings.Config.{Config}
use Rattle.vt_model.specs.promise.Simulation.{Simulation}
use Rattle.vt_model.specs.promise.Settings.{end_of}
use Rattle.vt_steps.specs.promise.World.{opening_part, opening_board, opening_book}
use Rattle.vt_steps.specs.inside.Cells.{in_inbox, on_board, in_book}
use Rattle.vt_places.specs.declared.slot.Slot.{Slot}
use Rattle.vt_places.specs.declared.place.Place.{Place}
use Rattle.vt_places.specs.inside.Slots.{held_in, IsSlotOf}
use Rattle.vt_places.specs.inside.Kept.{Sat, Rests, first_view}
use Rattle.vt_places.specs.inside.Told.{place_table, place_worker, place_seat}

-- an inbox for each worker, without mail, the board at the opening, and the empty book
pub record AreSlots {P : Type 0} (config : Config) (slots : List (Slot P)) : Type 0 where
  pub boxes : List (Slot P)
  pub board : Slot P
  pub book : Slot P
  pub all : slots ≡ boxes ++ board ∷ book ∷ []
  pub count : length boxes ≡ config.workers
  pub boxes_are : AllByRecursion (λ slot. (held_in slot ≡ in_inbox []) × ((k : ℕ) → IsSlotOf config k slot)) boxes
  pub board_is : held_in board ≡ on_board (opening_board config.workers (end_of config))
  pub board_right : (k : ℕ) → IsSlotOf config k board
  pub book_is : held_in book ≡ in_book (opening_book config.workers)
  pub book_right : (k : ℕ) → IsSlotOf config k book

-- the seat that makes the others, once the workers before this one have places
abbrev pub IsMaker : {S P : Type 0} → Simulation S P → ℕ → Sat P → Type 0
IsMaker sim i m = m ≡ (record (first_view sim) { made = i; waiting = map (opening_part sim 0) (range_with_len i (sim.workers - i)) }, [])

-- the seat of a place as it is made: it has the opening part of its worker, has made no step, knows of no other's, and was shown
-- nothing
pub record Opens {S P : Type 0} (sim : Simulation S P) (i : ℕ) (m : Sat P) : Type 0 where
  pub rests : Rests m
  pub worker : m.0.worker ≡ i
  pub part : m.0.part ≡ opening_part sim 0 i
  pub mine : m.0.mine ≡ []
  pub log : m.0.log ≡ []
  pub seen : m.0.seen ≡ opening_time

-- a place of the table, as it is made
pub record IsNew {S P : Type 0} (sim : Simulation S P) (table : TableId) (i : ℕ) (place : Place P) : Type 0 where
  pub table_is : place_table place ≡ table
  pub worker : place_worker place ≡ i
  pub opens : Opens sim i (place_seat place)

-- the places from this worker's on, in order
abbrev pub AreNew : {S P : Type 0} → Simulation S P → TableId → ℕ → List (Place P) → Type 0
AreNew sim table i [] = Unit {0}
AreNew sim table i (place ∷ places) = IsNew sim table i place × AreNew sim table (i + 1) places
