-- The worked sequential runs: a few steps end each of them, so what was executed by then is the whole run.
use Rattle.std.proofs.Common.{◌≡◌, ℕ, List, [], refl, subst}
use Rattle.vt_key.specs.promise.Times.{Time}
use Rattle.vt_key.specs.promise.Order.{key_before, key_same}
use Rattle.vt_model.specs.declared.rows.Record.{Record}
use Rattle.vt_model.specs.declared.settings.Config.{Config}
use Rattle.vt_model.specs.declared.sending.Sent.{Sent}
use Rattle.vt_model.specs.promise.Sends.{sent_events, requested_records}
use Rattle.vt_model.specs.promise.Histories.{IsLawful}
use Rattle.vt_model.specs.promise.Simulation.{simulation_of, after, start_of, fire_of, rows_of}
use Rattle.vt_model.specs.promise.Sequential.{after_steps, whole_run, fired_after, rows_after, rows_before, records_of, events_before, events_of}
use Rattle.vt_model.proofs.LawLemmas.{lawful_of}
use Rattle.vt_model.proofs.EndLemmas.{executed_all}
use Rattle.vt_models.specs.declared.hop.Hop.{Hop}
use Rattle.vt_models.specs.declared.hop.Token.{Token}
use Rattle.vt_models.specs.promise.Hop.{hop_handlers}
use Rattle.vt_models.specs.inside.HopLaws.{start_within, forward_within}
use Rattle.vt_model.specs.promise.Settings.{end_of}
use Rattle.vt_replays.specs.inside.Replays.{tick, HasRecords, ProcessEndsWith, two_hops, one_hop, two_further, one_worker, one_worker_to_4, two_workers, three_processes, two_hops_run, two_hops_run_to_4, three_processes_run, replayed, six_records, three_records, four_records, three_processes_records, below_3, two_rises, two_rises_run, risen_records, three_rises, one_process, one_process_to_2, three_rises_run, three_rises_run_to_2, records_to_2, records_to_10}

hop_lawful : (hop : Hop) (config : Config) → IsLawful (simulation_of (hop_handlers hop) config)
hop_lawful hop config = lawful_of (hop_handlers hop) config (start_within hop) (forward_within hop)

module _ (hop : Hop) (config : Config) (n : ℕ) (ended : (after_steps (simulation_of (hop_handlers hop) config) n).pending ≡ []) where
  -- where nothing is pending after n steps, what holds of the events executed by then holds of the whole run
  of_whole : (Q : List (Sent Token) → Type 0) → Q (after_steps (simulation_of (hop_handlers hop) config) n).executed → Q (whole_run (simulation_of (hop_handlers hop) config))
  of_whole Q holds = subst Q (executed_all (simulation_of (hop_handlers hop) config) (hop_lawful hop config) n ended) holds

  has_records : (t : Time) (shown : List Record) →
      records_of (rows_before t (rows_after (simulation_of (hop_handlers hop) config) [] (after_steps (simulation_of (hop_handlers hop) config) n).executed)) ≡ shown →
      HasRecords (simulation_of (hop_handlers hop) config) t shown
  has_records t shown is = of_whole (λ es. records_of (rows_before t (rows_after (simulation_of (hop_handlers hop) config) [] es)) ≡ shown) is

  ends_with : (p state number : ℕ) →
      (after (simulation_of (hop_handlers hop) config) p (events_before (end_of config) (events_of p (after_steps (simulation_of (hop_handlers hop) config) n).executed))).state ≡ state →
      (after (simulation_of (hop_handlers hop) config) p (events_before (end_of config) (events_of p (after_steps (simulation_of (hop_handlers hop) config) n).executed))).number ≡ number →
      ProcessEndsWith (simulation_of (hop_handlers hop) config) p state number
  ends_with p state number state_is number_is = record {
    state_is = of_whole (λ es. (after (simulation_of (hop_handlers hop) config) p (events_before (end_of config) (events_of p es))).state ≡ state) state_is;
    number_is = of_whole (λ es. (after (simulation_of (hop_handlers hop) config) p (events_before (end_of config) (events_of p es))).number ≡ number) number_is;
  }

pub computed :
    HasRecords two_hops_run (tick 10) six_records
    × ProcessEndsWith two_hops_run 0 66049 3
    × ProcessEndsWith two_hops_run 1 131330 3
    × HasRecords two_hops_run_to_4 (tick 4) three_records
    × ProcessEndsWith two_hops_run_to_4 0 1 2
    × ProcessEndsWith two_hops_run_to_4 1 513 3
    × HasRecords replayed (tick 10) four_records
    × HasRecords replayed (tick 3) below_3
    × HasRecords three_processes_run (tick 3) three_processes_records
    × HasRecords two_rises_run (tick 10) risen_records
    × HasRecords three_rises_run (tick 10) records_to_10
    × ProcessEndsWith three_rises_run 0 16843009 4
    × HasRecords three_rises_run_to_2 (tick 2) records_to_2
    × ProcessEndsWith three_rises_run_to_2 0 65793 4
unfolding fired_after key_before key_same sent_events requested_records start_of fire_of rows_of
computed = (
  has_records two_hops one_worker 6 refl (tick 10) six_records refl,
  ends_with two_hops one_worker 6 refl 0 66049 3 refl refl,
  ends_with two_hops one_worker 6 refl 1 131330 3 refl refl,
  has_records two_hops one_worker_to_4 3 refl (tick 4) three_records refl,
  ends_with two_hops one_worker_to_4 3 refl 0 1 2 refl refl,
  ends_with two_hops one_worker_to_4 3 refl 1 513 3 refl refl,
  has_records one_hop two_workers 4 refl (tick 10) four_records refl,
  has_records one_hop two_workers 4 refl (tick 3) below_3 refl,
  has_records two_further three_processes 3 refl (tick 3) three_processes_records refl,
  has_records two_rises one_worker 6 refl (tick 10) risen_records refl,
  has_records three_rises one_process 4 refl (tick 10) records_to_10 refl,
  ends_with three_rises one_process 4 refl 0 16843009 4 refl refl,
  has_records three_rises one_process_to_2 3 refl (tick 2) records_to_2 refl,
  ends_with three_rises one_process_to_2 3 refl 0 65793 4 refl refl,
)
