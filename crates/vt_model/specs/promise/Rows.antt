-- The order of rows, and what an event's rows are.
use Rattle.std.specs.Prelude.{◌≡◌, ℕ, suc, ◌<◌, ◌⊎◌, List, [], ◌∷◌}
use Rattle.vt_key.specs.promise.Keys.{Key}
use Rattle.vt_key.specs.promise.Times.{Time, at}
use Rattle.vt_model.specs.declared.rows.Record.{Record}
use Rattle.vt_key.specs.promise.Order.{KeyBefore}
use Rattle.vt_model.specs.declared.rows.Row.{Row}

-- the time of a record: that of its event
abbrev pub record_time : Record → Time
record_time r = at r.time r.priority

-- one row is before another, by key and then by index
abbrev pub RowBefore : Row → Row → Type 0
RowBefore a b = KeyBefore a.key b.key ⊎ ((a.key ≡ b.key) × (a.index < b.index))

-- rows of one event, from an index on: they have its key and its time, and indices one after the other
abbrev pub AreRowsOf : Key → ℕ → List Row → Type 0
AreRowsOf k n [] = Unit {0}
AreRowsOf k n (r ∷ rs) = (r.key ≡ k) × (r.index ≡ n) × (record_time r.rec ≡ k.time) × AreRowsOf k (suc n) rs
