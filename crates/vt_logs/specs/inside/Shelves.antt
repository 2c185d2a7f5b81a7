-- What the sheets of a log hold together.
use Rattle.std.specs.Prelude.{◌≡◌, ℕ, ◌^◌, ◌<◌, ◌≤◌, Bool, true, false, not, ◌&&◌, List, [], ◌∷◌, ◌++◌, length, map, nat_eq, slice_index_or}
use Rattle.std.specs.List.{filter, flat_map, sum_by, count_by, list_any, AllByRecursion}
use Rattle.vt_key.specs.promise.Times.{Time}
use Rattle.vt_key.specs.declared.order.Stamp.{Stamp}
use Rattle.vt_model.specs.declared.rows.Row.{Row}
use Rattle.vt_logs.specs.declared.slot.Position.{Position}
use Rattle.vt_logs.specs.inside.Events.{Logged, is_above, is_stamped, nodes_of, rows_below}
use Rattle.vt_logs.specs.inside.Sheets.{Noted, Page, is_blank, stays, events_in}

-- what a contract sees of the sheets of a log: the events in order, each with its position, and whether there is room for one more
pub record Shelved (P K : Type 0) : Type 0 where
  pub placed : List (Position × Noted P K)
  pub has_room : Bool

-- two positions are one
abbrev pub same_position : Position → Position → Bool
same_position a b = nat_eq a.sheet b.sheet && nat_eq a.index b.index

module _ {P K : Type 0} where
  -- whether an event lies at a position
  abbrev pub lies_at : Position → Position × Noted P K → Bool
  lies_at position x = same_position x.0 position

  -- whether it doesn't
  abbrev pub lies_elsewhere : Position → Position × Noted P K → Bool
  lies_elsewhere position x = not (lies_at position x)

  -- whether it isn't before a floor
  abbrev pub placed_stays : Time → Position × Noted P K → Bool
  placed_stays floor x = is_above floor x.1.event

  -- how many nodes its undo takes
  abbrev pub placed_nodes : Position × Noted P K → ℕ
  placed_nodes x = nodes_of x.1.event

  -- the events without their positions
  abbrev pub placed_events : List (Position × Noted P K) → List (Logged P K)
  placed_events placed = map (λ x. x.1.event) placed

  -- a sheet without events
  abbrev pub blank_page : Page P K
  blank_page = record { live = []; has_room = false }

  -- the sheet of a number
  abbrev pub page_at : List (Page P K) → ℕ → Page P K
  page_at sheets n = slice_index_or sheets n blank_page

  -- an event of the sheet of a number, with its position
  abbrev pub put_at : ℕ → ℕ × Noted P K → Position × Noted P K
  put_at n x = (record { sheet = n; index = x.0 }, x.1)

  -- the events of the sheet of a number, with their positions
  abbrev pub placed_of : List (Page P K) → ℕ → List (Position × Noted P K)
  placed_of sheets n = map (put_at n) (page_at sheets n).live

  -- the events of the full sheets, and of the current one
  abbrev pub placed_on : List (Page P K) → List ℕ → ℕ → List (Position × Noted P K)
  placed_on sheets full current = flat_map (placed_of sheets) (full ++ current ∷ [])

  -- whether there is room in the current sheet
  abbrev pub has_room_on : List (Page P K) → ℕ → Bool
  has_room_on sheets current = (page_at sheets current).has_room

  -- a sheet without its events before a floor
  abbrev pub page_below : Time → Page P K → Page P K
  page_below floor page = record { live = filter (stays floor) page.live; has_room = false }

  -- the rows of the events before a floor of the sheet of a number
  abbrev pub page_rows : Time → List (Page P K) → ℕ → List Row
  page_rows floor sheets n = rows_below floor (events_in (page_at sheets n).live)

  -- whether an event of the sheet of a number has a stamp
  abbrev pub page_has_stamp : Stamp → List (Page P K) → ℕ → Bool
  page_has_stamp stamp sheets n = list_any (is_stamped stamp) (events_in (page_at sheets n).live)

  -- whether the sheet of a number has events
  abbrev pub is_used : List (Page P K) → ℕ → Bool
  is_used sheets n = not (is_blank (page_at sheets n))

  -- whether it has none
  abbrev pub is_unused : List (Page P K) → ℕ → Bool
  is_unused sheets n = is_blank (page_at sheets n)

  -- the sheets without the events that fail a test
  pub record AreFiltered (keeps : Position × Noted P K → Bool) (sheets others : List (Page P K)) : Type 0 where
    pub long : length others ≡ length sheets
    pub live : (m : ℕ) → (page_at others m).live ≡ filter (λ x. keeps (put_at m x)) (page_at sheets m).live
    pub room : (m : ℕ) → (page_at others m).has_room ≡ true → (page_at sheets m).has_room ≡ true

  -- what is true of a shelf
  pub record IsShelf (sheets : List (Page P K)) (full : List ℕ) (current : ℕ) (spare : List ℕ) (needs : ℕ) : Type 0 where
    pub known : AllByRecursion (λ n. n < length sheets) (full ++ current ∷ spare)
    pub apart : (n : ℕ) → count_by (λ m. nat_eq m n) (full ++ current ∷ spare) ≤ 1
    pub blank : (n : ℕ) → list_any (λ m. nat_eq m n) (full ++ current ∷ []) ≡ false → (page_at sheets n).live ≡ []
    pub counted : needs ≡ sum_by placed_nodes (placed_on sheets full current)
    pub small : needs < 2 ^ 63
    pub few : has_room_on sheets current ≡ true → needs ≤ 2 ^ 62
