-- Rows in order: field by field from the left. In a run no two rows have the same key and index, so these two decide.
use Rattle.std.specs.Prelude.{Bool, nat_lt, nat_eq, ◌||◌, ◌&&◌, List, [], ◌∷◌, ◌++◌, ℕ}
use Rattle.vt_key.specs.promise.Order.{key_before, key_same}
use Rattle.vt_key.specs.promise.Queues.{insert_ordered}
use Rattle.vt_model.specs.declared.rows.Record.{Record}
use Rattle.vt_model.specs.declared.rows.Row.{Row}
use Rattle.vt_model.specs.declared.sending.Sent.{Sent}
use Rattle.vt_model.specs.promise.Simulation.{Simulation, Triple}

-- one record is before another
abbrev pub record_before : Record → Record → Bool
record_before a b =
    nat_lt a.time b.time || (nat_eq a.time b.time && (nat_lt a.priority b.priority || (nat_eq a.priority b.priority && (nat_lt a.lp b.lp || (nat_eq a.lp b.lp
    && (nat_lt a.kind b.kind || (nat_eq a.kind b.kind && nat_lt a.value b.value)))))))

-- one row is before another
abbrev pub row_before : Row → Row → Bool
row_before a b =
    key_before a.key b.key || (key_same a.key b.key
    && (nat_lt a.index b.index || (nat_eq a.index b.index && record_before a.rec b.rec)))

-- these rows in order
abbrev pub rows_in_order : List Row → List Row
rows_in_order [] = []
rows_in_order (row ∷ rows) = insert_ordered row_before row (rows_in_order rows)

-- the rows of these events, which a process executes one after the other from where it stands
abbrev pub rows_from : {S P : Type 0} → Simulation S P → ℕ → Triple S → List (Sent P) → List Row
rows_from sim p triple [] = []
rows_from sim p triple (event ∷ events) =
    let fired = sim.fire p triple event in
    fired.rows ++ rows_from sim p fired.triple events
