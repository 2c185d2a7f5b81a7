-- What Commit and Close do on the book.
use Rattle.std.specs.Prelude.{ℕ, Bool, true, false, List, ◌++◌, slice_set, if◌then◌else◌, Option, nat_eq}
use Rattle.std.specs.Option.{option_map_or}
use Rattle.vt_key.specs.declared.fault.Fault.{Fault}
use Rattle.vt_key.specs.declared.fault.Fault.TheVariants.{Closed}
use Rattle.vt_key.specs.promise.Times.{Time, time_at_most}
use Rattle.vt_model.specs.declared.rows.Row.{Row}
use Rattle.vt_steps.specs.promise.World.{Book, book_floor}

-- a worker with this hand-in floor, if it is one, may hand in up to a floor that is not below it
abbrev pub may_commit : Option Time → Time → Bool
may_commit handed_in floor = option_map_or (λ old. time_at_most old floor) handed_in false

-- the book with a worker's rows, which has now handed in up to this floor
unfoldable pub with_rows : ℕ → List Row → Time → Book → Book
with_rows w rows floor book = record book { rows = book.rows ++ rows; floors = slice_set book.floors w floor }

-- the book may be closed: its floor is the end of the run
abbrev pub may_close : Time → Book → Bool
may_close end book = nat_eq (book_floor end book) end

-- the closed book
abbrev pub closed_book : Book → Book
closed_book book = record book { is_closed = true }

-- Commit and Close are refused as closed once the book is
abbrev pub unless_closed : {X : Type 0} → Book → (Fault → X) → X → X
unless_closed book refuse open_step = if book.is_closed then refuse Closed else open_step
