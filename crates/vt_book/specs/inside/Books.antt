-- The book of a run, as callers see it, and which of its calls are refused.
use Rattle.std.specs.Prelude.{ℕ, Bool, false, ◌&&◌, List, if◌then◌else◌, Option, Some, None, slice_get}
use Rattle.std.specs.List.{list_all}
use Rattle.vt_key.specs.promise.Times.{Time, time_before, time_at_most}
use Rattle.vt_key.specs.declared.fault.Fault.{Fault}
use Rattle.vt_key.specs.declared.fault.Fault.TheVariants.{NotLawful, Closed}
use Rattle.vt_model.specs.declared.rows.Row.{Row}
use Rattle.vt_steps.specs.promise.World.{Book}
use Rattle.vt_steps.specs.promise.BookSteps.{may_commit, may_close}

-- the end of a run, its book as the steps of a world know it, and how many of the records that it shows were handed out
pub record RunBook : Type 0 where
  pub end : Time
  pub book : Book
  pub handed_out : ℕ

-- ---- what a worker may hand in

-- a row's time is not before one time, and is before another
abbrev pub is_within : Time → Time → Row → Bool
is_within from to row = time_at_most from row.key.time && time_before row.key.time to

-- rows all have times from the floor up to which their worker, if it is one, has handed in, to the new one
abbrev pub are_within : Option Time → Time → List Row → Bool
are_within None floor rows = false
are_within (Some handed_in) floor rows = list_all (is_within handed_in floor) rows

-- a hand-in is lawful: it is that of a worker, up to a floor that is not below that worker's and not after the end of the
-- run, and of rows with times between the two
abbrev pub may_hand : RunBook → ℕ → List Row → Time → Bool
may_hand of w rows floor =
    let handed_in = slice_get of.book.floors w in
    may_commit handed_in floor && (time_at_most floor of.end && are_within handed_in floor rows)

-- ---- refusals

-- what a closed book refuses, and an open one only where this isn't lawful
abbrev pub refusal_where : Bool → Bool → Option Fault
refusal_where is_closed is_lawful = if is_closed then Some Closed else if is_lawful then None else Some NotLawful

-- how a hand-in is refused
abbrev pub refusal_of_hand : RunBook → ℕ → List Row → Time → Option Fault
refusal_of_hand of w rows floor = refusal_where of.book.is_closed (may_hand of w rows floor)

-- how a close is refused
abbrev pub refusal_of_close : RunBook → Option Fault
refusal_of_close of = refusal_where of.book.is_closed (may_close of.end of.book)
