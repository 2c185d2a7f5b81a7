-- A whole pass: each worker's report, in whatever order they come.
use Rattle.std.specs.Prelude.{◌≡◌, ℕ, ◌<◌, Bool, false, IsTrue, nat_eq, List, [], ◌∷◌, ◌++◌, length}
use Rattle.std.specs.List.{count_by, sum_by}
use Rattle.vt_key.specs.promise.Times.{Time, earlier}
use Rattle.vt_steps.specs.declared.step.Reply.TheVariants.{Waiting, Again, Announced}
use Rattle.vt_steps.specs.promise.World.{Board}
use Rattle.vt_steps.specs.promise.BoardSteps.{with_new_pass, may_report, with_report, BoardEffect, after_report}

-- what a worker reports: how much mail of the old colour it sent and got, and its least time
pub record WorkerReport : Type 0 where
  pub worker : ℕ
  pub sent : ℕ
  pub got : ℕ
  pub least : Time

-- the board takes this report
abbrev pub is_taken : Board → WorkerReport → Bool
is_taken board report = may_report report.worker report.least board

-- the board with the report, before a pass is closed
abbrev pub with_one_more : Board → WorkerReport → Board
with_one_more board report = with_report report.worker report.sent report.got report.least board

-- what the report leaves, the board and the reply
abbrev pub heard : Time → Board → WorkerReport → BoardEffect
heard end board report = after_report end (with_one_more board report)

-- the board after these reports, one after the other
abbrev pub board_after_all : Time → Board → List WorkerReport → Board
board_after_all end board [] = board
board_after_all end board (report ∷ reports) = board_after_all end (heard end board report).board reports

-- each of these reports is taken when it comes, and others are awaited after it
abbrev pub AreAwaited : Time → Board → List WorkerReport → Type 0
AreAwaited end board [] = Unit {0}
AreAwaited end board (report ∷ reports) =
    IsTrue (is_taken board report) × ((heard end board report).reply ≡ Waiting) × AreAwaited end (heard end board report).board reports

-- a pass: it begins on this board, the reports come one after the other, others are awaited after all but the last, and none
-- after the last
pub record IsPass (end : Time) (board : Board) (reports : List WorkerReport) (last : WorkerReport) : Type 0 where
  pub begun : board ≡ with_new_pass end board
  pub same_workers : length board.has_reported ≡ length board.has_cut
  pub awaited : AreAwaited end board reports
  pub taken : IsTrue (is_taken (board_after_all end board reports) last)
  pub closing : ¬ ((heard end (board_after_all end board reports) last).reply ≡ Waiting)

-- the least of the reported times; of none it is the end of the run
abbrev pub least_reported : Time → List WorkerReport → Time
least_reported end [] = end
least_reported end (report ∷ reports) = earlier report.least (least_reported end reports)

-- how often a worker reports
abbrev pub times_reported : ℕ → List WorkerReport → ℕ
times_reported w reports = count_by (λ report. nat_eq report.worker w) reports

-- how much mail of the old colour they sent, and how much they got
abbrev pub all_sent : List WorkerReport → ℕ
all_sent reports = sum_by (λ report. report.sent) reports

abbrev pub all_got : List WorkerReport → ℕ
all_got reports = sum_by (λ report. report.got) reports

-- what becomes of a pass that began on this board and had these reports, with this effect of the last one: each worker reported
-- once; if all that was sent was got, the least reported time is announced and the round is over; otherwise a new pass begins on
-- the same board
pub record IsClosedBySums (end : Time) (board : Board) (reports : List WorkerReport) (last : BoardEffect) : Type 0 where
  pub once : (w : ℕ) → w < length board.has_cut → times_reported w reports ≡ 1
  pub equal : all_sent reports ≡ all_got reports →
      (last.reply ≡ Announced (least_reported end reports)) × (last.board.announced ≡ least_reported end reports) × (last.board.is_open ≡ false)
  pub unequal : ¬ (all_sent reports ≡ all_got reports) → (last.reply ≡ Again) × (last.board ≡ board)

-- every pass is closed by the sums of all its reports
abbrev pub ArePassesClosedBySums : Type 0
ArePassesClosedBySums =
    (end : Time) (board : Board) (reports : List WorkerReport) (last : WorkerReport) → IsPass end board reports last →
    IsClosedBySums end board (reports ++ last ∷ []) (heard end (board_after_all end board reports) last)
