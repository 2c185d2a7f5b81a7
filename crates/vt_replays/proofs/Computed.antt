-- The worked replays, by computation.
use Rattle.std.proofs.Common.{refl}
use Rattle.vt_steps.specs.promise.World.{opening_world}
use Rattle.vt_steps.specs.promise.ProcessSteps.{effect_of_execute, effect_of_undo, cancel_process, accept_process}
use Rattle.vt_steps.specs.promise.PartSteps.{part_after_send, mail_of_send, part_after_fetch, part_after_cut, part_after_commit, rows_of_commit}
use Rattle.vt_steps.specs.promise.BoardSteps.{with_open_round, with_report, after_report}
use Rattle.vt_steps.specs.promise.BookSteps.{with_rows}
use Rattle.vt_steps.specs.promise.CellSteps.{send, fetch, cut, report, commit, close}
use Rattle.vt_steps.specs.promise.Next.{next, run, answers}
use Rattle.vt_key.specs.promise.Order.{key_before, key_same, stamp_before, stamp_same, rank_before, rank_same}
use Rattle.vt_model.specs.promise.Sends.{sent_events, requested_records}
use Rattle.vt_model.specs.promise.Simulation.{start_of, fire_of, rows_of}
use Rattle.vt_replays.specs.inside.Replays.{Replays, replayed, whole_run_shown, straggler, anti_message_first, new_event_first, unequal_counts, unequal_counts_shown, travelling_least, travelling_least_shown, fetched_least, fetched_least_shown, anti_message_last, row_at_floor, row_at_floor_shown, second_round_closes, one_round, one_round_shown, alone, one_commits, one_commits_shown, after_the_close, until_one, no_events, no_events_shown, two_hops_run, undo_without_cause, undo_without_cause_shown, undo_without_cause_of_its_own, undo_without_cause_of_its_own_shown, one_rise_on_two, straggler_within_a_tick, straggler_within_a_tick_shown}

pub computed :
    Replays replayed straggler whole_run_shown
    × Replays replayed anti_message_first whole_run_shown
    × Replays replayed new_event_first whole_run_shown
    × Replays replayed unequal_counts unequal_counts_shown
    × Replays replayed travelling_least travelling_least_shown
    × Replays replayed fetched_least fetched_least_shown
    × Replays replayed one_commits one_commits_shown
    × Replays replayed after_the_close whole_run_shown
    × Replays until_one no_events no_events_shown
    × Replays two_hops_run undo_without_cause undo_without_cause_shown
    × Replays replayed anti_message_last whole_run_shown
    × Replays replayed row_at_floor row_at_floor_shown
    × Replays replayed one_round one_round_shown
    × Replays two_hops_run alone one_round_shown
    × Replays replayed second_round_closes whole_run_shown
    × Replays replayed undo_without_cause_of_its_own undo_without_cause_of_its_own_shown
    × Replays one_rise_on_two straggler_within_a_tick straggler_within_a_tick_shown
unfolding opening_world effect_of_execute effect_of_undo cancel_process accept_process part_after_send mail_of_send part_after_fetch part_after_cut part_after_commit rows_of_commit with_open_round with_report after_report with_rows send fetch cut report commit close next run answers key_before key_same stamp_before stamp_same rank_before rank_same sent_events requested_records start_of fire_of rows_of
computed = (
  record { answered = refl; shows = refl },
  record { answered = refl; shows = refl },
  record { answered = refl; shows = refl },
  record { answered = refl; shows = refl },
  record { answered = refl; shows = refl },
  record { answered = refl; shows = refl },
  record { answered = refl; shows = refl },
  record { answered = refl; shows = refl },
  record { answered = refl; shows = refl },
  record { answered = refl; shows = refl },
  record { answered = refl; shows = refl },
  record { answered = refl; shows = refl },
  record { answered = refl; shows = refl },
  record { answered = refl; shows = refl },
  record { answered = refl; shows = refl },
  record { answered = refl; shows = refl },
  record { answered = refl; shows = refl },
)
