-- What contracts see of a board, and what holds of every one.
use Rattle.std.specs.Prelude.{◌≡◌, ℕ, ◌-◌, ◌*◌, ◌^◌, ◌≤◌, Bool, List, length}
use Rattle.std.specs.List.{count_by}
use Rattle.vt_key.specs.promise.Times.{Time, TimeAtMost}
use Rattle.vt_key.specs.declared.limits.TheConstants.{MAX_COUNT, MAX_WORKERS}
use Rattle.vt_steps.specs.promise.World.{Board, opening_board}

-- the board of a run: when the run ends, and the definition's board
pub record BoardOfRun : Type 0 where
  pub end : Time
  pub board : Board

-- the same run, with this board
abbrev pub run_with_board : BoardOfRun → Board → BoardOfRun
run_with_board run board = record run { board = board }

-- the board of a run at its opening: so many workers, and this end
abbrev pub opening_run : ℕ → Time → BoardOfRun
opening_run workers end = record { end = end; board = opening_board workers end }

-- the same run, with so many rounds behind it
abbrev pub after_rounds : ℕ → BoardOfRun → BoardOfRun
after_rounds rounds run = record run { board = record run.board { rounds = rounds } }

-- the most that the counts of these reporters can sum to: each is below 2^64
abbrev pub most_summed : List Bool → ℕ
most_summed has_reported = count_by (λ flag. flag) has_reported * (2 ^ 64 - 1)

-- what holds of every board: the announced time is at most the least so far, and that at most the end; there is a flag for
-- each worker, twice; the sums are of as many counts as have been reported in the pass, so that they stay below 2^128; and
-- there are no more rounds than can be counted
pub record IsBoardOfRun (run : BoardOfRun) : Type 0 where
  pub announced : TimeAtMost run.board.announced run.board.least
  pub least : TimeAtMost run.board.least run.end
  pub few_workers : length run.board.has_cut ≤ MAX_WORKERS
  pub same_workers : length run.board.has_reported ≡ length run.board.has_cut
  pub sent : run.board.sent ≤ most_summed run.board.has_reported
  pub got : run.board.got ≤ most_summed run.board.has_reported
  pub rounds : run.board.rounds ≤ MAX_COUNT
