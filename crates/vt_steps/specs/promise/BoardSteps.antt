-- What Cut and Report do on the board.
use Rattle.std.specs.Prelude.{ℕ, ◌+◌, Bool, true, false, not, nat_eq, ◌&&◌, List, length, replicate, slice_get, slice_set, if◌then◌else◌, Option, Some, None}
use Rattle.std.specs.List.{list_all}
use Rattle.std.specs.Option.{option_map_or}
use Rattle.vt_key.specs.promise.Times.{Time, time_at_most, earlier}
use Rattle.vt_steps.specs.declared.step.Reply.{Reply}
use Rattle.vt_steps.specs.declared.step.Reply.TheVariants.{Waiting, Again, Announced}
use Rattle.vt_steps.specs.promise.World.{Board}

-- every worker's flag is set
abbrev pub all_set : List Bool → Bool
all_set flags = list_all (λ flag. flag) flags

-- the worker exists, and its flag is not set
abbrev pub is_clear : Option Bool → Bool
is_clear flag = option_map_or not flag false

-- the board with a new pass, in which nobody has reported
abbrev pub with_new_pass : Time → Board → Board
with_new_pass end board =
    record board { has_reported = replicate (length board.has_reported) false; sent = 0; got = 0; least = end }

-- the board with a new round, in which nobody has cut, and with the round's first pass
abbrev pub with_new_round : Time → Board → Board
with_new_round end board =
    with_new_pass end (record board { is_open = true; has_cut = replicate (length board.has_cut) false; rounds = board.rounds + 1 })

-- the board with the least so far announced, which ends the round
abbrev pub with_announcement : Board → Board
with_announcement board = record board { announced = board.least; is_open = false }

-- the board with a round open: the one that is, or a new one
unfoldable pub with_open_round : Time → Board → Board
with_open_round end board = if board.is_open then board else with_new_round end board

-- Cut of worker w on the board: it must not have cut in the round
abbrev pub cut_board : Time → ℕ → Board → Option Board
cut_board end w board =
    let open_board = with_open_round end board in
    if is_clear (slice_get open_board.has_cut w)
    then Some (record open_board { has_cut = slice_set open_board.has_cut w true })
    else None

-- w may report this value: a round is open, all have cut, w has not reported in this pass, and the value is at least the
-- announced time
abbrev pub may_report : ℕ → Time → Board → Bool
may_report w value board =
    board.is_open && (all_set board.has_cut
    && (is_clear (slice_get board.has_reported w) && time_at_most board.announced value))

-- the board with a worker's report: its counts enter the sums, its value the least so far
unfoldable pub with_report : ℕ → ℕ → ℕ → Time → Board → Board
with_report w sent got value board =
    record board { has_reported = slice_set board.has_reported w true; sent = board.sent + sent; got = board.got + got; least = earlier board.least value }

-- what a report leaves: the board and the reply
pub record BoardEffect : Type 0 where
  pub board : Board
  pub reply : Reply

-- what becomes of a board with a report: the last report closes the pass, and then equal sums announce the least so far, and
-- unequal ones begin a new pass
unfoldable pub after_report : Time → Board → BoardEffect
after_report end board =
    if not (all_set board.has_reported) then record { board = board; reply = Waiting }
    else if nat_eq board.sent board.got then record { board = with_announcement board; reply = Announced board.least }
    else record { board = with_new_pass end board; reply = Again }
