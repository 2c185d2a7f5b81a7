-- Worked replays: lists of steps of the hop model, each step with its answer, and what the world shows after them.
use Rattle.std.specs.Prelude.{◌≡◌, ◌≤◌, ℕ, List, [], ◌∷◌, ◌++◌, map, Ok, Err}
use Rattle.std.proofs.Common.{lit≤}
use Rattle.vt_key.specs.promise.Times.{Time, at}
use Rattle.vt_key.specs.declared.order.Stamp.{Stamp}
use Rattle.vt_key.specs.declared.fault.Fault.TheVariants.{NotLawful, Closed}
use Rattle.vt_model.specs.declared.rows.Record.{Record}
use Rattle.vt_model.specs.declared.settings.Config.{Config}
use Rattle.vt_model.specs.promise.Simulation.{Simulation, simulation_of, after}
use Rattle.vt_model.specs.promise.Sequential.{seq_events, seq_records}
use Rattle.vt_key.specs.declared.limits.TheConstants.{MAX_PROCESSES, MAX_WORKERS, MAX_END}
use Rattle.vt_models.specs.declared.hop.TheConstants.{MAX_HOPS, MAX_STRIDE, MAX_DELAY, MAX_RISE}
use Rattle.vt_models.specs.declared.hop.Hop.{Hop}
use Rattle.vt_models.specs.declared.hop.Token.{Token}
use Rattle.vt_models.specs.promise.Hop.{hop_handlers}
use Rattle.vt_steps.specs.declared.step.Step.{Step}
use Rattle.vt_steps.specs.declared.step.Step.TheVariants.{Execute, Undo, Cancel, Home, Send, Fetch, Accept, Cut, Report, Commit, Close}
use Rattle.vt_steps.specs.declared.step.Reply.{Reply}
use Rattle.vt_steps.specs.declared.step.Reply.TheVariants.{Done, Waiting, Again, Announced}
use Rattle.vt_steps.specs.promise.World.{World, opening_world, least, book_floor, book_records}
use Rattle.vt_steps.specs.promise.Next.{run, answers}
use Rattle.vt_steps.specs.inside.Marked.{Answered}

-- the first time of a tick
abbrev pub tick : ℕ → Time
tick t = at t 0

-- ---- what a replay says

-- the step is done
abbrev pub ok : Step → Answered
ok step = record { step = step; answer = Ok Done }

-- a report is answered so
abbrev pub replies : Step → Reply → Answered
replies step reply = record { step = step; answer = Ok reply }

-- the step is refused, since its guard fails
abbrev pub not_lawful : Step → Answered
not_lawful step = record { step = step; answer = Err NotLawful }

-- the step is refused, since the book is closed
abbrev pub closed : Step → Answered
closed step = record { step = step; answer = Err Closed }

-- what a world shows: the announced time, the floor of its book, its least time, and the book's records
pub record Shown : Type 0 where
  pub announced : Time
  pub floor : Time
  pub least : Time
  pub records : List Record

-- what this world shows, where the run ends at this time
abbrev pub shown_by : {P : Type 0} → Time → World P → Shown
shown_by end world = record {
  announced = world.board.announced;
  floor = book_floor end world.book;
  least = least end world;
  records = book_records end world.book;
}

-- from the opening world with serials from 0, the steps are answered as listed, and then the world shows this
pub record Replays {S P : Type 0} (sim : Simulation S P) (lines : List Answered) (shown : Shown) : Type 0 where
  pub answered : answers sim (opening_world sim 0) (map (λ line. line.step) lines) ≡ map (λ line. line.answer) lines
  pub shows : shown_by sim.end (run sim (opening_world sim 0) (map (λ line. line.step) lines)) ≡ shown

-- ---- the hop model of the replays

-- a hop model of these options
abbrev pub hop_of : (hops stride delay rise : ℕ) → hops ≤ MAX_HOPS → stride ≤ MAX_STRIDE → 1 ≤ delay → delay ≤ MAX_DELAY → rise ≤ MAX_RISE → Hop
hop_of hops stride delay rise few short some below low = record {
  hops = hops;
  stride = stride;
  delay = delay;
  rise = rise;
  few_hops = few;
  short_stride = short;
  some_delay = some;
  short_delay = below;
  low_rise = low;
}

-- a config of these numbers, with an end in ticks, and with seed 0
abbrev pub config_of : (lps workers end : ℕ) → 1 ≤ lps → lps ≤ MAX_PROCESSES → 1 ≤ workers → workers ≤ MAX_WORKERS → 1 ≤ end → end ≤ MAX_END → Config
config_of lps workers end some_lp few_lps some_worker few_workers some_time in_time = record {
  lps = lps;
  workers = workers;
  end = end;
  seed = 0;
  some_process = some_lp;
  few_processes = few_lps;
  some_worker = some_worker;
  few_workers = few_workers;
  some_time = some_time;
  in_time = in_time;
}

-- one hop for each token, to the next process, in one tick
abbrev pub one_hop : Hop
one_hop = hop_of 1 1 1 0 (lit≤ tt) (lit≤ tt) (lit≤ tt) (lit≤ tt) (lit≤ tt)

-- two hops for each token, to the next process, in two ticks
abbrev pub two_hops : Hop
two_hops = hop_of 2 1 2 0 (lit≤ tt) (lit≤ tt) (lit≤ tt) (lit≤ tt) (lit≤ tt)

-- two processes on two workers, and a run that ends at 10
abbrev pub two_workers : Config
two_workers = config_of 2 2 10 (lit≤ tt) (lit≤ tt) (lit≤ tt) (lit≤ tt) (lit≤ tt) (lit≤ tt)

-- two processes on one worker, and a run that ends at 10
abbrev pub one_worker : Config
one_worker = config_of 2 1 10 (lit≤ tt) (lit≤ tt) (lit≤ tt) (lit≤ tt) (lit≤ tt) (lit≤ tt)

-- the simulation of the replays: one hop, on two workers
abbrev pub replayed : Simulation ℕ Token
replayed = simulation_of (hop_handlers one_hop) two_workers

-- a record of the hop model: its kind is 1
abbrev pub prior_record : ℕ → ℕ → ℕ → ℕ → Record
prior_record time priority p value = record { time = time; priority = priority; lp = p; kind = 1; value = value }

-- the same at the first time of a tick
abbrev pub hop_record : ℕ → ℕ → ℕ → Record
hop_record time p value = prior_record time 0 p value

-- the stamp of a worker with this serial
abbrev pub stamp : ℕ → ℕ → Stamp
stamp w serial = record { worker = w; serial = serial }

-- ---- a straggler at equal time

-- process 1 executes its own event at 2 before the one that process 0 sends it for 2, whose source is lower: so the letter
-- comes as a straggler, the event is undone, and both are executed in order
abbrev pub until_straggler : List Answered
until_straggler =
    ok (Home 0) ∷ ok (Home 1) ∷ ok (Execute 1) ∷ ok (Execute 0) ∷ ok (Send 0 1) ∷ ok (Fetch 1) ∷ ok (Accept 1 0)
    ∷ ok (Undo 1) ∷ ok (Execute 1) ∷ ok (Execute 1) ∷ []

-- worker 0 fetches the event that process 1 first sent, its anti-message, and the event that was sent again
abbrev pub until_fetched : List Answered
until_fetched = until_straggler ++ ok (Send 1 0) ∷ ok (Fetch 0) ∷ []

-- the three are accepted in the order in which they were sent
abbrev pub accepted_in_order : List Answered
accepted_in_order =
    until_fetched ++ ok (Accept 0 0) ∷ ok (Accept 0 0) ∷ ok (Accept 0 0) ∷ ok (Cancel 0 (stamp 1 1)) ∷ ok (Execute 0) ∷ []

-- a round, in which worker 1 reports last
abbrev pub a_round : List Answered
a_round = ok (Cut 0) ∷ ok (Cut 1) ∷ replies (Report 0) Waiting ∷ replies (Report 1) (Announced (tick 10)) ∷ []

-- worker 0 learns the announced time by a cut, both commit, and the book is closed
abbrev pub to_the_close : List Answered
to_the_close = a_round ++ ok (Cut 0) ∷ ok (Commit 0) ∷ ok (Commit 1) ∷ ok Close ∷ []

-- all of it
abbrev pub straggler : List Answered
straggler = accepted_in_order ++ to_the_close

-- the four records of the whole run
abbrev pub four_records : List Record
four_records = hop_record 1 0 1 ∷ hop_record 2 1 1 ∷ hop_record 2 1 258 ∷ hop_record 3 0 258 ∷ []

-- the book is closed and shows the whole run
abbrev pub whole_run_shown : Shown
whole_run_shown = record { announced = tick 10; floor = tick 10; least = tick 10; records = four_records }

-- ---- an anti-message before its event

-- the anti-message is accepted first: it waits, and there is nothing yet to cancel
abbrev pub anti_message_first : List Answered
anti_message_first =
    until_fetched
    ++ ok (Accept 0 1) ∷ not_lawful (Cancel 0 (stamp 1 1)) ∷ ok (Accept 0 0) ∷ ok (Cancel 0 (stamp 1 1)) ∷ ok (Accept 0 0)
    ∷ ok (Execute 0) ∷ []
    ++ to_the_close

-- ---- a new event, an anti-message and an old event

-- the new event is accepted first and has the key of the old one: the anti-message must not cancel it, since its stamp is
-- another
abbrev pub new_event_first : List Answered
new_event_first =
    until_fetched
    ++ ok (Accept 0 2) ∷ ok (Accept 0 1) ∷ not_lawful (Cancel 0 (stamp 1 1)) ∷ ok (Accept 0 0) ∷ ok (Cancel 0 (stamp 1 1))
    ∷ ok (Execute 0) ∷ []
    ++ to_the_close

-- ---- unequal counts

-- a letter travels across the cut, so the counts differ and nothing is announced; once it is fetched, they are equal
abbrev pub unequal_counts : List Answered
unequal_counts =
    ok (Home 0) ∷ ok (Home 1) ∷ ok (Execute 0) ∷ ok (Send 0 1) ∷ ok (Cut 0) ∷ ok (Cut 1) ∷ replies (Report 0) Waiting
    ∷ replies (Report 1) Again ∷ ok (Fetch 1) ∷ replies (Report 0) Waiting ∷ replies (Report 1) (Announced (tick 2)) ∷ []

-- nothing is committed yet
abbrev pub unequal_counts_shown : Shown
unequal_counts_shown = record { announced = tick 2; floor = tick 0; least = tick 2; records = [] }

-- ---- a travelling letter of the new colour is the least

-- worker 1 sends after its cut: nothing is pending anywhere, and the red minimum holds the announced time back
abbrev pub travelling_least : List Answered
travelling_least =
    until_straggler
    ++ ok (Cut 0) ∷ ok (Cut 1) ∷ ok (Send 1 0) ∷ replies (Report 0) Waiting ∷ replies (Report 1) (Announced (tick 3))
    ∷ ok (Cut 0) ∷ ok (Commit 0) ∷ ok (Commit 1) ∷ not_lawful Close ∷ []

-- the records of the run before 3
abbrev pub below_3 : List Record
below_3 = hop_record 1 0 1 ∷ hop_record 2 1 1 ∷ hop_record 2 1 258 ∷ []

-- what is before 3 is committed
abbrev pub travelling_least_shown : Shown
travelling_least_shown = record { announced = tick 3; floor = tick 3; least = tick 3; records = below_3 }

-- ---- a fetched letter is the least

-- worker 1 has fetched the straggler and not accepted it: nothing else is as early. What it executed at that very time is
-- not committed, and can still be undone
abbrev pub fetched_least : List Answered
fetched_least =
    ok (Home 0) ∷ ok (Home 1) ∷ ok (Execute 1) ∷ ok (Execute 0) ∷ ok (Send 0 1) ∷ ok (Fetch 1)
    ∷ not_lawful (Fetch 1) ∷ ok (Cut 0) ∷ ok (Cut 1) ∷ replies (Report 0) Waiting ∷ replies (Report 1) (Announced (tick 2))
    ∷ ok (Commit 1) ∷ ok (Accept 1 0) ∷ not_lawful (Execute 1) ∷ ok (Undo 1) ∷ []

-- nothing is committed yet
abbrev pub fetched_least_shown : Shown
fetched_least_shown = record { announced = tick 2; floor = tick 0; least = tick 2; records = [] }

-- ---- an anti-message of an executed event

-- process 0 has executed the event when its anti-message comes: the event is undone first, and then the two annihilate
abbrev pub anti_message_last : List Answered
anti_message_last =
    until_fetched
    ++ ok (Accept 0 0) ∷ ok (Execute 0) ∷ not_lawful (Undo 0) ∷ ok (Accept 0 0) ∷ not_lawful (Cancel 0 (stamp 1 1))
    ∷ ok (Undo 0) ∷ ok (Cancel 0 (stamp 1 1)) ∷ ok (Accept 0 0) ∷ ok (Execute 0) ∷ []
    ++ to_the_close

-- ---- a row at the floor

-- after a second round worker 0 hands in its event at 3, and worker 1 has handed in up to 3 alone: the book shows what is
-- before 3
abbrev pub row_at_floor : List Answered
row_at_floor =
    until_straggler
    ++ ok (Cut 0) ∷ ok (Cut 1) ∷ ok (Send 1 0) ∷ replies (Report 0) Waiting ∷ replies (Report 1) (Announced (tick 3))
    ∷ ok (Cut 0) ∷ ok (Commit 0) ∷ ok (Commit 1) ∷ ok (Fetch 0) ∷ ok (Accept 0 0) ∷ ok (Accept 0 0) ∷ ok (Accept 0 0)
    ∷ ok (Cancel 0 (stamp 1 1)) ∷ ok (Execute 0) ∷ ok (Cut 1) ∷ replies (Report 1) Waiting
    ∷ replies (Report 0) (Announced (tick 10)) ∷ ok (Commit 0) ∷ not_lawful Close ∷ []

-- the row at 3 is in the book and is not shown
abbrev pub row_at_floor_shown : Shown
row_at_floor_shown = record { announced = tick 10; floor = tick 3; least = tick 10; records = below_3 }

-- worker 1 then learns the second announced time by a cut and commits: the whole run is in the book, and it is closed
abbrev pub second_round_closes : List Answered
second_round_closes = row_at_floor ++ ok (Cut 1) ∷ ok (Commit 1) ∷ ok Close ∷ []

-- ---- what a round refuses

-- nobody cuts twice in a round, reports before all have cut, or reports twice; nobody sends where nothing is for the other;
-- and there are two workers and two processes
abbrev pub one_round : List Answered
one_round =
    not_lawful (Send 0 1) ∷ not_lawful (Report 0) ∷ ok (Cut 0) ∷ not_lawful (Cut 0) ∷ not_lawful (Report 0) ∷ not_lawful (Cut 2) ∷ ok (Cut 1)
    ∷ replies (Report 0) Waiting ∷ not_lawful (Report 0) ∷ not_lawful (Report 2) ∷ replies (Report 1) (Announced (tick 1))
    ∷ not_lawful (Report 1) ∷ not_lawful (Execute 2) ∷ not_lawful (Send 0 2) ∷ not_lawful (Commit 2) ∷ []

-- the first events of the processes are at 1 and 2
abbrev pub one_round_shown : Shown
one_round_shown = record { announced = tick 1; floor = tick 0; least = tick 1; records = [] }

-- ---- what one worker alone refuses

-- it sends nothing to itself, and nothing has arrived; an empty inbox may be fetched, and what is below the floor 0 committed
abbrev pub alone : List Answered
alone =
    ok (Fetch 0) ∷ not_lawful (Accept 0 0) ∷ not_lawful (Send 0 0) ∷ not_lawful (Report 0) ∷ ok (Commit 0)
    ∷ not_lawful Close ∷ ok (Cut 0) ∷ not_lawful (Cut 0) ∷ replies (Report 0) (Announced (tick 1)) ∷ not_lawful (Report 0) ∷ []

-- ---- a run without events

-- it ends before the first event: all of it can be committed at once
abbrev pub until_one : Simulation ℕ Token
until_one = simulation_of (hop_handlers two_hops) (config_of 2 1 1 (lit≤ tt) (lit≤ tt) (lit≤ tt) (lit≤ tt) (lit≤ tt) (lit≤ tt))

-- one round, a commit and the close
abbrev pub no_events : List Answered
no_events = ok (Cut 0) ∷ replies (Report 0) (Announced (tick 1)) ∷ ok (Commit 0) ∷ ok Close ∷ []

-- the end of the run is reached
abbrev pub no_events_shown : Shown
no_events_shown = record { announced = tick 1; floor = tick 1; least = tick 1; records = [] }

-- ---- an undo without a cause

-- no earlier event and no anti-message has come, so nothing is undone
abbrev pub undo_without_cause : List Answered
undo_without_cause = ok (Home 0) ∷ ok (Execute 0) ∷ not_lawful (Undo 0) ∷ []

-- what process 0 sent and process 1 begins with, both at 2 or later, are left
abbrev pub undo_without_cause_shown : Shown
undo_without_cause_shown = record { announced = tick 0; floor = tick 0; least = tick 2; records = [] }

-- ---- an undo without a cause of its own

-- an event at the same time but of greater rank, an anti-message that waits for a later event, and a later event: none of
-- them makes an undo lawful
abbrev pub undo_without_cause_of_its_own : List Answered
undo_without_cause_of_its_own =
    ok (Home 0) ∷ ok (Home 1) ∷ ok (Execute 1) ∷ ok (Execute 0) ∷ ok (Send 0 1) ∷ ok (Fetch 1) ∷ ok (Accept 1 0)
    ∷ ok (Undo 1) ∷ ok (Execute 1) ∷ not_lawful (Undo 1) ∷ ok (Execute 1) ∷ ok (Send 1 0) ∷ ok (Fetch 0)
    ∷ ok (Accept 0 1) ∷ not_lawful (Undo 0) ∷ ok (Accept 0 0) ∷ not_lawful (Undo 0) ∷ []

abbrev pub undo_without_cause_of_its_own_shown : Shown
undo_without_cause_of_its_own_shown = record { announced = tick 0; floor = tick 0; least = tick 3; records = [] }

-- ---- one worker commits alone

-- the floor of the book is the least floor up to which a worker has handed in, so nothing is shown yet
abbrev pub one_commits : List Answered
one_commits = accepted_in_order ++ a_round ++ ok (Commit 1) ∷ []

-- worker 0 has handed in nothing
abbrev pub one_commits_shown : Shown
one_commits_shown = record { announced = tick 10; floor = tick 0; least = tick 10; records = [] }

-- ---- a closed book

-- it takes nothing more
abbrev pub after_the_close : List Answered
after_the_close = straggler ++ closed (Commit 0) ∷ closed Close ∷ []

-- ---- a straggler within a tick

-- one hop for each token, within the tick and with a priority higher by 100
abbrev pub one_rise : Hop
one_rise = hop_of 1 1 2 100 (lit≤ tt) (lit≤ tt) (lit≤ tt) (lit≤ tt) (lit≤ tt)

-- one hop within the tick, on two workers
abbrev pub one_rise_on_two : Simulation ℕ Token
one_rise_on_two = simulation_of (hop_handlers one_rise) two_workers

-- process 1 executes its own event at (2, 0) before the one that process 0 sends it for (1, 100): so this comes as a straggler.
-- The announced time is that pair, and what is before it is committed
abbrev pub straggler_within_a_tick : List Answered
straggler_within_a_tick =
    ok (Home 0) ∷ ok (Home 1) ∷ ok (Execute 1) ∷ ok (Execute 0) ∷ ok (Send 0 1) ∷ ok (Fetch 1) ∷ ok (Accept 1 0) ∷ ok (Undo 1)
    ∷ ok (Cut 0) ∷ ok (Cut 1) ∷ replies (Report 0) Waiting ∷ replies (Report 1) (Announced (at 1 100))
    ∷ ok (Commit 1) ∷ ok (Cut 0) ∷ ok (Commit 0) ∷ not_lawful Close ∷ []

abbrev pub straggler_within_a_tick_shown : Shown
straggler_within_a_tick_shown = record { announced = at 1 100; floor = at 1 100; least = at 1 100; records = hop_record 1 0 1 ∷ [] }

-- ---- sequential runs

-- the sequential run of a simulation has these records before a time
abbrev pub HasRecords : {S P : Type 0} → Simulation S P → Time → List Record → Type 0
HasRecords sim t shown = seq_records sim t ≡ shown

-- after the whole run, a process has this state and has taken so many send numbers
pub record ProcessEndsWith {P : Type 0} (sim : Simulation ℕ P) (p state number : ℕ) : Type 0 where
  pub state_is : (after sim p (seq_events sim p sim.end)).state ≡ state
  pub number_is : (after sim p (seq_events sim p sim.end)).number ≡ number

-- two hops, to the end at 10
abbrev pub two_hops_run : Simulation ℕ Token
two_hops_run = simulation_of (hop_handlers two_hops) one_worker

-- the same to an end at 4: the sends for 4 and 5 take send numbers and are not sent
abbrev pub one_worker_to_4 : Config
one_worker_to_4 = config_of 2 1 4 (lit≤ tt) (lit≤ tt) (lit≤ tt) (lit≤ tt) (lit≤ tt) (lit≤ tt)

-- two hops, to the end at 4
abbrev pub two_hops_run_to_4 : Simulation ℕ Token
two_hops_run_to_4 = simulation_of (hop_handlers two_hops) one_worker_to_4

-- one hop, two processes further, in one tick
abbrev pub two_further : Hop
two_further = hop_of 1 2 1 0 (lit≤ tt) (lit≤ tt) (lit≤ tt) (lit≤ tt) (lit≤ tt)

-- three processes, and an end at 3
abbrev pub three_processes : Config
three_processes = config_of 3 1 3 (lit≤ tt) (lit≤ tt) (lit≤ tt) (lit≤ tt) (lit≤ tt) (lit≤ tt)

-- one hop among three processes
abbrev pub three_processes_run : Simulation ℕ Token
three_processes_run = simulation_of (hop_handlers two_further) three_processes

-- the records of two hops to the end at 10
abbrev pub six_records : List Record
six_records =
    hop_record 1 0 1 ∷ hop_record 2 1 2 ∷ hop_record 3 1 513 ∷ hop_record 4 0 258 ∷ hop_record 5 0 66049
    ∷ hop_record 6 1 131330 ∷ []

-- and to the end at 4
abbrev pub three_records : List Record
three_records = hop_record 1 0 1 ∷ hop_record 2 1 2 ∷ hop_record 3 1 513 ∷ []

-- at time 2 the event of process 2 is before that of process 1, since its source is lower: keys decide, not receivers
abbrev pub three_processes_records : List Record
three_processes_records = hop_record 1 0 1 ∷ hop_record 2 2 1 ∷ hop_record 2 1 2 ∷ []

-- two hops for each token, each within the tick and with a priority higher by 100
abbrev pub two_rises : Hop
two_rises = hop_of 2 1 2 100 (lit≤ tt) (lit≤ tt) (lit≤ tt) (lit≤ tt) (lit≤ tt)

-- the run of them, to the end at 10
abbrev pub two_rises_run : Simulation ℕ Token
two_rises_run = simulation_of (hop_handlers two_rises) one_worker

-- each token hops twice within the tick at which it starts
abbrev pub risen_records : List Record
risen_records =
    hop_record 1 0 1 ∷ prior_record 1 100 1 1 ∷ prior_record 1 200 0 257 ∷ hop_record 2 1 258 ∷ prior_record 2 100 0 65794
    ∷ prior_record 2 200 1 66050 ∷ []

-- one process, whose token comes back to it three times
abbrev pub three_rises : Hop
three_rises = hop_of 3 0 2 100 (lit≤ tt) (lit≤ tt) (lit≤ tt) (lit≤ tt) (lit≤ tt)

-- one process, and an end at 10
abbrev pub one_process : Config
one_process = config_of 1 1 10 (lit≤ tt) (lit≤ tt) (lit≤ tt) (lit≤ tt) (lit≤ tt) (lit≤ tt)

-- one process, and an end at 2
abbrev pub one_process_to_2 : Config
one_process_to_2 = config_of 1 1 2 (lit≤ tt) (lit≤ tt) (lit≤ tt) (lit≤ tt) (lit≤ tt) (lit≤ tt)

-- the run of that process to the end at 10
abbrev pub three_rises_run : Simulation ℕ Token
three_rises_run = simulation_of (hop_handlers three_rises) one_process

-- and to the end at 2
abbrev pub three_rises_run_to_2 : Simulation ℕ Token
three_rises_run_to_2 = simulation_of (hop_handlers three_rises) one_process_to_2

-- the third hop would have a priority of 300, which there isn't, so it takes the delay
abbrev pub records_to_2 : List Record
records_to_2 = hop_record 1 0 1 ∷ prior_record 1 100 0 257 ∷ prior_record 1 200 0 65793 ∷ []

abbrev pub records_to_10 : List Record
records_to_10 = records_to_2 ++ hop_record 3 0 16843009 ∷ []
