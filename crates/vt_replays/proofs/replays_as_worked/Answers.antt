use Rattle.vt_replays.proofs.Computed.{computed}
use Rattle.vt_replays.proofs.replays_as_worked.Goals as goal

pub returns-clause-straggler_at_equal_time : goal.returns-clause-straggler_at_equal_time
returns-clause-straggler_at_equal_time c = computed.0

pub returns-clause-anti_message_before_its_event : goal.returns-clause-anti_message_before_its_event
returns-clause-anti_message_before_its_event c = computed.1

pub returns-clause-new_event_before_anti_message_and_old_event : goal.returns-clause-new_event_before_anti_message_and_old_event
returns-clause-new_event_before_anti_message_and_old_event c = computed.2

pub returns-clause-unequal_counts : goal.returns-clause-unequal_counts
returns-clause-unequal_counts c = computed.3

pub returns-clause-travelling_letter_of_the_new_colour_is_the_least : goal.returns-clause-travelling_letter_of_the_new_colour_is_the_least
returns-clause-travelling_letter_of_the_new_colour_is_the_least c = computed.4

pub returns-clause-fetched_letter_is_the_least : goal.returns-clause-fetched_letter_is_the_least
returns-clause-fetched_letter_is_the_least c = computed.5

pub returns-clause-one_worker_commits : goal.returns-clause-one_worker_commits
returns-clause-one_worker_commits c = computed.6

pub returns-clause-closed_book : goal.returns-clause-closed_book
returns-clause-closed_book c = computed.7

pub returns-clause-run_without_events : goal.returns-clause-run_without_events
returns-clause-run_without_events c = computed.8

pub returns-clause-undo_without_cause : goal.returns-clause-undo_without_cause
returns-clause-undo_without_cause c = computed.9

pub returns-clause-anti_message_of_an_executed_event : goal.returns-clause-anti_message_of_an_executed_event
returns-clause-anti_message_of_an_executed_event c = computed.10

pub returns-clause-row_at_the_floor : goal.returns-clause-row_at_the_floor
returns-clause-row_at_the_floor c = computed.11

pub returns-clause-refused_in_a_round : goal.returns-clause-refused_in_a_round
returns-clause-refused_in_a_round c = computed.12

pub returns-clause-refused_to_one_worker : goal.returns-clause-refused_to_one_worker
returns-clause-refused_to_one_worker c = computed.13

pub returns-clause-second_round_closes : goal.returns-clause-second_round_closes
returns-clause-second_round_closes c = computed.14

pub returns-clause-undo_without_cause_of_its_own : goal.returns-clause-undo_without_cause_of_its_own
returns-clause-undo_without_cause_of_its_own c = computed.15

pub returns-clause-straggler_within_a_tick : goal.returns-clause-straggler_within_a_tick
returns-clause-straggler_within_a_tick c = computed.16
