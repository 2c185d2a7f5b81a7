-- The cells and the seats of a new station.
use Rattle.std.proofs.Common.{◌≡◌, ℕ, zero, suc, ◌+◌, ◌-◌, ◌<◌, List, [], ◌∷◌, ◌++◌, map, length, get_or, replicate, drop, refl, sym, ◌∙◌, ap, subst, arith, length-append, Some, slice_get, slice_index_or}
use Rattle.std.specs.List.{range_with_len, AllByRecursion}
use Rattle.std.specs.Option.{option_map}
use Rattle.std.proofs.lemmas.List.FromFn.{length-map-range_with_len}
use mathlib.Core.Logic.{dite}
use mathlib.Core.Option.{some}
use native.Mathlib.Decide.{ℕ_discrete, dec_le}
use lib.ListN.{get_elem?}
use Rattle.atomic_table.specs.Seated.{TableId}
use Rattle.vt_key.specs.declared.letter.Mail.{Mail}
use Rattle.vt_model.specs.declared.settings.Config.{Config}
use Rattle.vt_model.specs.promise.Simulation.{Simulation}
use Rattle.vt_model.specs.promise.Settings.{end_of}
use Rattle.vt_steps.specs.promise.World.{Part, opening_part, opening_world, opening_board, opening_book}
use Rattle.vt_steps.specs.inside.Cells.{inbox_of, board_cell, book_cell, in_inbox, on_board, in_book, content}
use Rattle.vt_places.specs.declared.slot.Slot.{Slot}
use Rattle.vt_places.specs.declared.place.Place.{Place}
use Rattle.vt_places.specs.inside.Slots.{cell_count, cell_at, held_in, IsSlotOf}
use Rattle.vt_places.specs.inside.Kept.{Sat, first_view, left_view, next_view}
use Rattle.vt_places.specs.inside.Making.{AreSlots, IsMaker, Opens, IsNew, AreNew}
use Rattle.vt_places.proofs.Cells.{inbox-name, board-name, book-name}

-- ---- the cells

module _ {P : Type 0} where
  -- an inbox
  box-at : (Q : Slot P → Type 0) (boxes rest : List (Slot P)) (k : ℕ) → k < length boxes → AllByRecursion Q boxes → (slot : Slot P) × (get_elem? (map some (boxes ++ rest)) k ≡ some (some slot)) × Q slot
  box-at Q [] rest k less e = absurd (omega arith)
  box-at Q (x ∷ xs) rest zero less e = (x, refl, e.0)
  box-at Q (x ∷ xs) rest (suc k) less e = box-at Q xs rest k (omega arith) e.1

  -- what stands behind the inboxes
  behind-at : (boxes rest : List (Slot P)) (k i : ℕ) (slot : Slot P) → k ≡ length boxes + i → get_elem? (map some rest) i ≡ some (some slot) → get_elem? (map some (boxes ++ rest)) k ≡ some (some slot)
  behind-at [] rest k i slot is at = ap (get_elem? (map some rest)) (let z : k ≡ i = omega arith in z) ∙ at
  behind-at (x ∷ xs) rest zero i slot is at = absurd (omega arith)
  behind-at (x ∷ xs) rest (suc k) i slot is at = behind-at xs rest k i slot (omega arith) at

  pub slots-count : (config : Config) (slots : List (Slot P)) → AreSlots config slots → length slots ≡ cell_count config.workers
  slots-count config slots a = ap length a.all ∙ (let n = a.count in omega (arith, length-append a.boxes (a.board ∷ a.book ∷ [])))

none-mail : {P : Type 0} (n k : ℕ) → k < n → slice_get (let none : List (List (Mail P)) = replicate n [] in none) k ≡ Some []
none-mail zero k less = absurd (omega arith)
none-mail (suc n) zero less = refl
none-mail (suc n) (suc k) less = none-mail n k (omega arith)

module _ {S P : Type 0} (sim : Simulation S P) where
  -- an inbox is empty
  pub opening-inbox : (k : ℕ) → k < sim.workers → content (opening_world sim 0) (inbox_of k) ≡ Some (in_inbox [])
  unfolding opening_world
  opening-inbox k less = ap (option_map in_inbox) (none-mail sim.workers k less)

  opening-on_board : content (opening_world sim 0) board_cell ≡ Some (on_board (opening_board sim.workers sim.end))
  unfolding opening_world
  opening-on_board = refl

  opening-in_book : content (opening_world sim 0) book_cell ≡ Some (in_book (opening_book sim.workers))
  unfolding opening_world
  opening-in_book = refl

  -- each slot holds what its cell holds in the opening world
  pub slots-full : (config : Config) (slots : List (Slot P)) → sim.workers ≡ config.workers → sim.end ≡ (end_of config) → AreSlots config slots → (k : ℕ) → k < cell_count sim.workers →
      (slot : Slot P) × (get_elem? (map some slots) k ≡ some (some slot)) × (content (opening_world sim 0) (cell_at sim.workers k) ≡ Some (held_in slot)) × IsSlotOf config k slot
  slots-full config slots same ends a k near =
      subst (λ l. (slot : Slot P) × (get_elem? (map some l) k ≡ some (some slot)) × (content (opening_world sim 0) (cell_at sim.workers k) ≡ Some (held_in slot)) × IsSlotOf config k slot) (sym a.all)
      (dite (dec_le (suc k) sim.workers)
      (λ less.
      (let n = a.count in
      let box = box-at (λ slot. (held_in slot ≡ in_inbox []) × ((j : ℕ) → IsSlotOf config j slot)) a.boxes (a.board ∷ a.book ∷ []) k (omega arith) a.boxes_are in (
        box.0,
        box.1,
        ap (content (opening_world sim 0)) (inbox-name sim.workers k less) ∙ opening-inbox k less ∙ ap (λ c. Some c) (sym box.2.0),
        box.2.1 k,
      )))
      (λ more. dite (ℕ_discrete k sim.workers)
      (λ is.
      (let n = a.count in (
        a.board,
        behind-at a.boxes (a.board ∷ a.book ∷ []) k 0 a.board (omega arith) refl,
        ap (content (opening_world sim 0)) (board-name sim.workers k is) ∙ opening-on_board ∙ ap (λ c. Some c) ((λ i. on_board (opening_board (same i) (ends i))) ∙ sym a.board_is),
        a.board_right k,
      )))
      (λ ne.
      (let n = a.count in
      let past : k ≡ sim.workers + 1 = omega arith in (
        a.book,
        behind-at a.boxes (a.board ∷ a.book ∷ []) k 1 a.book (omega arith) refl,
        ap (content (opening_world sim 0)) (book-name sim.workers k (omega arith)) ∙ opening-in_book ∙ ap (λ c. Some c) ((λ i. in_book (opening_book (same i))) ∙ sym a.book_is),
        a.book_right k,
      )))))

pub blank-words : (k n : ℕ) → ◌≡◌ {A = ℕ} (get_or (replicate n 0) k 0) 0
blank-words k zero = refl
blank-words zero (suc n) = refl
blank-words (suc k) (suc n) = blank-words k n

-- ---- the seats

module _ {S P : Type 0} (sim : Simulation S P) where
  drop-parts : (i n : ℕ) → drop 1 (map (opening_part sim 0) (range_with_len i n)) ≡ map (opening_part sim 0) (range_with_len (i + 1) (n - 1))
  drop-parts i zero = refl
  drop-parts i (suc n) = ap (λ (m : ℕ). map (opening_part sim 0) (range_with_len (i + 1) m)) (let z : n ≡ suc n - 1 = omega arith in z)

  -- the maker's seat makes one more
  pub maker-after : (i : ℕ) (m : Sat P) → IsMaker sim i m → IsMaker sim (i + 1) (left_view m.0, m.1)
  maker-after i m e =
      (λ j. (left_view (e j).0, (e j).1))
      ∙ (λ j. (let k = drop-parts i (sim.workers - i) ∙ ap (λ (n : ℕ). map (opening_part sim 0) (range_with_len (i + 1) n)) (let z : (sim.workers - i) - 1 ≡ sim.workers - (i + 1) = omega arith in z) in
      (record (first_view sim) { made = i + 1; waiting = k j }, [])))

  pub some-left : (i : ℕ) (m : Sat P) → i < sim.workers → IsMaker sim i m → 0 < length m.0.waiting
  some-left i m less e =
      let z : length m.0.waiting ≡ sim.workers - i = ap (λ (x : Sat P). length x.0.waiting) e ∙ length-map-range_with_len (opening_part sim 0) i (sim.workers - i) in
      omega arith

  first-part : (i n : ℕ) (d : Part P) → 0 < n → slice_index_or (map (opening_part sim 0) (range_with_len i n)) 0 d ≡ opening_part sim 0 i
  first-part i zero d more = absurd (omega arith)
  first-part i (suc n) d more = refl

  -- the seat that it makes
  pub opens-next : (i : ℕ) (m : Sat P) → i < sim.workers → IsMaker sim i m → Opens sim i (next_view m.0, [])
  opens-next i m less e = record {
    rests = (refl, refl);
    worker = ap (λ (x : Sat P). x.0.made) e;
    part = ap (λ (x : Sat P). slice_index_or x.0.waiting 0 x.0.part) e ∙ first-part i (sim.workers - i) (opening_part sim 0 0) (omega arith);
    mine = refl;
    log = refl;
    seen = refl;
  }

  pub maker-same : (i j : ℕ) (m : Sat P) → IsMaker sim i m → IsMaker sim j m → i ≡ j
  maker-same i j m e f = ap (λ (x : Sat P). x.0.made) (sym e ∙ f)

  -- one more place behind the others
  pub new-more : (table : TableId) (i : ℕ) (places : List (Place P)) (place : Place P) → AreNew sim table i places → IsNew sim table (i + length places) place → AreNew sim table i (places ++ place ∷ [])
  new-more table i [] place are is = (subst (λ (k : ℕ). IsNew sim table k place) (let e : i + 0 ≡ i = omega arith in e) is, tt)
  new-more table i (x ∷ xs) place are is = (are.0, new-more table (i + 1) xs place are.1 (subst (λ (k : ℕ). IsNew sim table k place) (let e : i + suc (length xs) ≡ (i + 1) + length xs = omega arith in e) is))
