use Rattle.vt_replays.proofs.SequentialRuns.{computed}
use Rattle.vt_replays.proofs.sequential_runs_as_worked.Goals as goal

pub returns-clause-two_hops : goal.returns-clause-two_hops
returns-clause-two_hops c = computed.0

pub returns-clause-two_hops_leave_0 : goal.returns-clause-two_hops_leave_0
returns-clause-two_hops_leave_0 c = computed.1

pub returns-clause-two_hops_leave_1 : goal.returns-clause-two_hops_leave_1
returns-clause-two_hops_leave_1 c = computed.2

pub returns-clause-sends_past_the_end : goal.returns-clause-sends_past_the_end
returns-clause-sends_past_the_end c = computed.3

pub returns-clause-past_the_end_0 : goal.returns-clause-past_the_end_0
returns-clause-past_the_end_0 c = computed.4

pub returns-clause-past_the_end_1 : goal.returns-clause-past_the_end_1
returns-clause-past_the_end_1 c = computed.5

pub returns-clause-one_hop : goal.returns-clause-one_hop
returns-clause-one_hop c = computed.6

pub returns-clause-one_hop_before_3 : goal.returns-clause-one_hop_before_3
returns-clause-one_hop_before_3 c = computed.7

pub returns-clause-keys_decide : goal.returns-clause-keys_decide
returns-clause-keys_decide c = computed.8

pub returns-clause-hops_within_a_tick : goal.returns-clause-hops_within_a_tick
returns-clause-hops_within_a_tick c = computed.9

pub returns-clause-hops_past_the_last_priority : goal.returns-clause-hops_past_the_last_priority
returns-clause-hops_past_the_last_priority c = computed.10

pub returns-clause-past_the_last_priority : goal.returns-clause-past_the_last_priority
returns-clause-past_the_last_priority c = computed.11

pub returns-clause-hops_to_the_end : goal.returns-clause-hops_to_the_end
returns-clause-hops_to_the_end c = computed.12

pub returns-clause-past_the_end_within_a_tick : goal.returns-clause-past_the_end_within_a_tick
returns-clause-past_the_end_within_a_tick c = computed.13
