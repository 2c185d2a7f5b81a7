-- What the calls of a board answer.
use Rattle.std.specs.Prelude.{ℕ, Bool, nat_le, ◌&&◌, if◌then◌else◌, Option, Some, None, Result, Ok, Err}
use Rattle.vt_key.specs.promise.Times.{Time, time_at_most}
use Rattle.vt_key.specs.declared.limits.TheConstants.{MAX_COUNT}
use Rattle.vt_key.specs.declared.fault.Fault.{Fault}
use Rattle.vt_key.specs.declared.fault.Fault.TheVariants.{NotLawful, Exhausted}
use Rattle.vt_steps.specs.declared.step.Reply.{Reply}
use Rattle.vt_steps.specs.declared.step.Reply.TheVariants as reply
use Rattle.vt_steps.specs.promise.World.{Board}
use Rattle.vt_steps.specs.promise.BoardSteps.{cut_board, may_report}
use Rattle.vt_board.specs.declared.board.Report.{Report}
use Rattle.vt_board.specs.declared.board.Report.TheVariants.{Waiting, Again, Announced}

-- a board after a cut, if the cut is lawful and the rounds can be counted
abbrev pub round_counted : Option Board → Result Board Fault
round_counted None = Err NotLawful
round_counted (Some board) = if nat_le board.rounds MAX_COUNT then Ok board else Err Exhausted

-- what a cut of worker w comes to: the board after it, or why it is refused
abbrev pub cut_outcome : Time → ℕ → Board → Result Board Fault
cut_outcome end w board = round_counted (cut_board end w board)

-- the board takes this value of worker w: the report is lawful, and the value isn't after the end of the run
abbrev pub takes_report : Time → ℕ → Time → Board → Bool
takes_report end w value board = may_report w value board && time_at_most value end

-- the answer of a board as the reply of a step
abbrev pub reply_of : Report → Reply
reply_of Waiting = reply.Waiting
reply_of Again = reply.Again
reply_of (Announced time) = reply.Announced time
