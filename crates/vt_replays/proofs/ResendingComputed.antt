-- The replay of the small simulation, by computation.
use Rattle.std.proofs.Common.{refl}
use Rattle.vt_steps.specs.promise.World.{opening_world}
use Rattle.vt_steps.specs.promise.ProcessSteps.{effect_of_execute, effect_of_undo, cancel_process, accept_process}
use Rattle.vt_steps.specs.promise.PartSteps.{part_after_send, mail_of_send, part_after_fetch, part_after_cut, part_after_commit, rows_of_commit}
use Rattle.vt_steps.specs.promise.BoardSteps.{with_open_round, with_report, after_report}
use Rattle.vt_steps.specs.promise.BookSteps.{with_rows}
use Rattle.vt_steps.specs.promise.CellSteps.{send, fetch, cut, report, commit, close}
use Rattle.vt_steps.specs.promise.Next.{next, run, answers}
use Rattle.vt_key.specs.promise.Order.{key_before, key_same, stamp_before, stamp_same, rank_before, rank_same}
use Rattle.vt_replays.specs.inside.Replays.{Replays}
use Rattle.vt_replays.specs.inside.Resending.{resending, waiting_least, waiting_least_shown}

-- it is answered as listed
pub waiting : Replays resending waiting_least waiting_least_shown
unfolding opening_world effect_of_execute effect_of_undo cancel_process accept_process part_after_send mail_of_send part_after_fetch part_after_cut part_after_commit rows_of_commit with_open_round with_report after_report with_rows send fetch cut report commit close next run answers key_before key_same stamp_before stamp_same rank_before rank_same
waiting = record { answered = refl; shows = refl }
