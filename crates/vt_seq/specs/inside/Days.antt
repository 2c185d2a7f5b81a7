-- Entries by days, and what a calendar keeps of them.
use Rattle.std.specs.Prelude.{◌≡◌, ℕ, ◌+◌, ◌/◌, ◌^◌, ◌<◌, ◌≤◌, Bool, true, false, List, [], ◌∷◌, ◌++◌, slice_get, slice_set, Some}
use Rattle.vt_key.specs.promise.Times.{ticks_of}
use Rattle.vt_key.specs.promise.Lists.{Among}
use Rattle.vt_model.specs.declared.sending.Sent.{Sent}
use Rattle.vt_seq.specs.declared.days.TheConstants.{DAYS}
use Rattle.vt_seq.specs.declared.entry.Entry.{Entry}
use Rattle.vt_seq.specs.inside.Entries.{events_in}

-- the day of a tick, where a day has 2 ^ scale ticks
abbrev pub day_of : ℕ → ℕ → ℕ
day_of scale tick = tick / 2 ^ scale

-- whether a day is a later one of the window that begins at the day `base`
abbrev pub IsNear : ℕ → ℕ → ℕ → Type 0
IsNear base next day = (base + next ≤ day) × (day < base + DAYS)

module _ {P : Type 0} where
  -- the entries of all days
  abbrev pub entries_of_days : List (List (Entry P)) → List (Entry P)
  entries_of_days [] = []
  entries_of_days (day ∷ days) = day ++ entries_of_days days

  -- whether a day has an entry
  abbrev pub is_used : List (Entry P) → Bool
  is_used [] = false
  is_used (x ∷ xs) = true

  -- the days after an entry was put into one of them
  pub record IsPut (day : ℕ) (x : Entry P) (old new : List (List (Entry P))) : Type 0 where
    pub list : List (Entry P)
    pub there : slice_get old day ≡ Some list
    pub is : new ≡ slice_set old day (list ++ x ∷ [])

  -- the days after the first that has an entry was emptied
  pub record IsDayTaken (day : ℕ) (list : List (Entry P)) (old new : List (List (Entry P))) : Type 0 where
    pub there : slice_get old day ≡ Some list
    pub used : is_used list ≡ true
    pub first : (i : ℕ) (l : List (Entry P)) → i < day → slice_get old i ≡ Some l → l ≡ []
    pub is : new ≡ slice_set old day []

  -- each list has the events of one day, the first those of the day `base`, and lists before `next` have none
  abbrev pub AreDated : ℕ → ℕ → ℕ → List (List (Entry P)) → Type 0
  AreDated scale base next days = (i : ℕ) (l : List (Entry P)) (d : Sent P) → slice_get days i ≡ Some l → Among d (events_in l) → (day_of scale (ticks_of d.key.time) ≡ base + i) × (next ≤ i)

  -- each event's day is right before this one
  abbrev pub AreJustBefore : ℕ → ℕ → List (Entry P) → Type 0
  AreJustBefore scale day xs = (d : Sent P) → Among d (events_in xs) → day_of scale (ticks_of d.key.time) + 1 ≡ day

  -- the entries of a calendar: those of the present day, then those of the others
  abbrev pub calendar_entries : List (Entry P) → List (List (Entry P)) → List (Entry P)
  calendar_entries present days = present ++ entries_of_days days

  -- without an entry of the present day there is none
  abbrev pub NoneWithoutPresent : List (Entry P) → List (List (Entry P)) → Type 0
  NoneWithoutPresent present days = present ≡ [] → entries_of_days days ≡ []
