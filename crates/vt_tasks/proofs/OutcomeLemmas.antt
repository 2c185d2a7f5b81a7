-- What a program does, by what its parts did.
use Rattle.std.proofs.Common.{◌≡◌, ◌∙◌, [], ◌∷◌, ℕ, ◌≤◌, List, Option, Some, None, Ok, Err, IfSome, inl, inr, refl, sym, ap, subst, arith, codes}
use Rattle.std.specs.Prelude.{option_and_then, true}
use Rattle.std.proofs.lemmas.Option.{cond_some}
use Rattle.std.proofs.lemmas.Bool.Decides.{nat_tests}
use Rattle.std.specs.Io.KnownBytes.{Keeps}
use Rattle.clap.specs.Words.{App, Text, fault_of, IsAmong, Kinds}
use Rattle.clap.specs.declared.error.kind.ErrorKind.{ErrorKind}
use Rattle.clap.specs.declared.error.kind.ErrorKind.TheVariants as kind
use Rattle.vt_key.specs.declared.fault.Fault.{Fault}
use Rattle.vt_key.specs.declared.fault.Fault.TheVariants.{Memory, NotLawful, Busy, Closed, Exhausted, TurnsSpent, BadOption, BadStep, Output}
use Rattle.vt_key.specs.declared.limits.TheConstants.{MAX_COUNT}
use Rattle.vt_step_text.specs.declared.reading.NumberedStep.{NumberedStep}
use Rattle.vt_step_text.specs.promise.StepText.{steps_of}
use Rattle.vt_text.specs.promise.Numbers.{number_said}
use Rattle.vt_model.specs.promise.Settings.{is_between}
use Rattle.vt_options.specs.declared.choices.Synch.{Synch}
use Rattle.vt_options.specs.declared.choices.Synch.TheVariants.{Sequential, Optimistic}
use Rattle.vt_options.specs.promise.Table
use Rattle.vt_options.specs.promise.Table.{Given, if_between, number_in, value_in}
use Rattle.vt_options.specs.promise.Requests.{AreBy, AskHelpOf, IsRefusedAsOf}
use Rattle.vt_tasks.specs.inside.Runs.{StopsRun, StopsWork, StopsBy}
use Rattle.vt_tasks.specs.promise.Replays.{GivesSteps}
use Rattle.vt_tasks.specs.inside.Replays.{EndsReplayBy}
use Rattle.vt_tasks.specs.promise.Outcomes.{Program, IsDoneBy, EndsWith, AskBadLine}
use Rattle.vt_tasks.specs.inside.Outcomes.{IsAskedByLine}

module _ (p : Program) (words : List Text) (r : p.Run) (input old new : Option (List ℕ)) (asked : p.AskRun words r) where
  -- a sequential run that was refused ends the program so
  sequential_ends : p.synch_of r ≡ Sequential → (fault : Fault) → StopsRun (p.Passes r) old new (p.text_of r) fault → EndsWith p words fault input old new
  sequential_ends is Memory h = inr (inl (record { options = r; asked = asked; sequential = is; begun = h }))
  sequential_ends is NotLawful h = h
  sequential_ends is Busy h = absurd h
  sequential_ends is Closed h = h
  sequential_ends is Exhausted h = inl (record { options = r; asked = asked; sequential = is; passes = h.0; begun = h.1 })
  sequential_ends is TurnsSpent h = absurd h
  sequential_ends is (BadOption name) h = absurd h
  sequential_ends is (BadStep line) h = absurd h
  sequential_ends is Output h = inr (inl (record { options = r; asked = asked; begun = h }))

  -- and so does a run in threads
  work_ends : p.synch_of r ≡ Optimistic → (fault : Fault) → StopsWork (p.workers_of r) (p.text_below r) (p.text_of r) old new fault → EndsWith p words fault input old new
  work_ends is Memory h = inr (inr (inl (record { options = r; asked = asked; optimistic = is; committed = h })))
  work_ends is NotLawful h = h
  work_ends is Busy h = record { part = record { options = r; asked = asked; optimistic = is; committed = h.1 }; others = h.0 }
  work_ends is Closed h = h
  work_ends is Exhausted h = inr (inl (record { options = r; asked = asked; optimistic = is; committed = h }))
  work_ends is TurnsSpent h = record { options = r; asked = asked; optimistic = is; committed = h }
  work_ends is (BadOption name) h = absurd h
  work_ends is (BadStep line) h = absurd h
  work_ends is Output h = inr (inl (record { options = r; asked = asked; begun = h }))

  by_synch : (fault : Fault) (synch : Synch) → p.synch_of r ≡ synch → StopsBy synch (p.workers_of r) (p.Passes r) (p.text_below r) (p.text_of r) old new fault → EndsWith p words fault input old new
  by_synch fault Sequential is h = sequential_ends is fault h
  by_synch fault Optimistic is h = work_ends is fault h

  -- a run that was refused ends the program so
  pub run_ends : (fault : Fault) → StopsBy (p.synch_of r) (p.workers_of r) (p.Passes r) (p.text_below r) (p.text_of r) old new fault → EndsWith p words fault input old new
  run_ends fault h = by_synch fault (p.synch_of r) refl h

-- and so does a replay
pub replay_ends : (p : Program) (words : List Text) (r : p.Replay) (input old new : Option (List ℕ)) (fault : Fault) → p.AskReplay words r
    → EndsReplayBy (p.config_of r) (p.IsOutput r) (p.AreLines r) (p.OpensLate r) input old new fault → EndsWith p words fault input old new
replay_ends p words r input old new Memory asked (inl kept) = inl kept
replay_ends p words r input old new Memory asked (inr lines) = inr (inr (inr (record { options = r; asked = asked; written = lines })))
replay_ends p words r input old new NotLawful asked h = h
replay_ends p words r input old new Busy asked h = absurd h
replay_ends p words r input old new Closed asked h = h
replay_ends p words r input old new Exhausted asked h = inr (inr (record { options = r; asked = asked; stopped = h }))
replay_ends p words r input old new TurnsSpent asked h = absurd h
replay_ends p words r input old new (BadOption name) asked h = inr (record { options = r; asked = asked; input = h.0; kept = h.1 })
replay_ends p words r input old new (BadStep line) asked h = record { options = r; asked = asked; stopped = h }
replay_ends p words r input old new Output asked h = inr (inr (record { options = r; asked = asked; begun = h }))

-- ---- what the words ask for is one thing

run_or_replay : (app : App) (words : List Text) → AreBy app (codes "run") words → AreBy app (codes "replay") words → ⊥
run_or_replay app words run replay = let e : Some (codes "run") ≡ Some (codes "replay") = sym run.subcommand ∙ replay.subcommand in cc

none_among : (k : ErrorKind) (kinds : Kinds) → kinds ≡ [] → IsAmong k kinds → ⊥
none_among k [] e h = h
none_among k (x ∷ xs) e h = absurd cc

module _ (p : Program) (is : IsAskedByLine p) (words : List Text) where
  -- words that ask for a run are not refused
  not_refused : (r : p.Run) (name : Text) → p.AskRun words r → IsRefusedAsOf p.line words name → ⊥
  not_refused r name asked (inl h) =
      elim h.1 [ inl u ↦ none_among u.0 (fault_of p.line.app words) (is.run words r asked).0.accepted u.2 | inr n ↦ n.no_run (is.run words r asked).0.subcommand ]
  not_refused r name asked (inr (inl h)) = let e : None ≡ Some name = sym (is.run words r asked).1 ∙ h.bad in absurd cc
  not_refused r name asked (inr (inr h)) = run_or_replay p.line.app words (is.run words r asked).0 h.are

  -- nor are those that ask for a replay
  replay_not_refused : (r : p.Replay) (name : Text) → p.AskReplay words r → IsRefusedAsOf p.line words name → ⊥
  replay_not_refused r name asked (inl h) =
      elim h.1 [ inl u ↦ none_among u.0 (fault_of p.line.app words) (is.replay words r asked).0.accepted u.2 | inr n ↦ n.no_replay (is.replay words r asked).0.subcommand ]
  replay_not_refused r name asked (inr (inl h)) = run_or_replay p.line.app words h.are (is.replay words r asked).0
  replay_not_refused r name asked (inr (inr h)) = let e : None ≡ Some name = sym (is.replay words r asked).1 ∙ h.bad in absurd cc

  module _ (name : Text) (input old new : Option (List ℕ)) (refused : IsRefusedAsOf p.line words name) (no_help : ¬ AskHelpOf p.line.app words) where
    -- words that are refused and don't ask for help are never answered
    pub not_done : IsDoneBy p words input old new → ⊥
    not_done (inl h) = no_help h.asked
    not_done (inr (inl h)) = not_refused h.options name h.asked refused
    not_done (inr (inr h)) = replay_not_refused h.options name h.asked refused

    -- and nothing is written for them
    pub nothing_written : (fault : Fault) → EndsWith p words fault input old new → Keeps old new
    nothing_written Memory (inl h) = h
    nothing_written Memory (inr (inl b)) = absurd (not_refused b.options name b.asked refused)
    nothing_written Memory (inr (inr (inl b))) = absurd (not_refused b.options name b.asked refused)
    nothing_written Memory (inr (inr (inr b))) = absurd (replay_not_refused b.options name b.asked refused)
    nothing_written NotLawful h = absurd h
    nothing_written Busy b = absurd (not_refused b.part.options name b.part.asked refused)
    nothing_written Closed h = absurd h
    nothing_written Exhausted (inl b) = absurd (not_refused b.options name b.asked refused)
    nothing_written Exhausted (inr (inl b)) = absurd (not_refused b.options name b.asked refused)
    nothing_written Exhausted (inr (inr h)) = h.stopped.kept
    nothing_written TurnsSpent b = absurd (not_refused b.options name b.asked refused)
    nothing_written (BadOption other) (inl h) = h.kept
    nothing_written (BadOption other) (inr h) = h.kept
    nothing_written (BadStep line) h = h.stopped.kept
    nothing_written Output (inl b) = absurd (no_help b.asked)
    nothing_written Output (inr (inl b)) = absurd (not_refused b.options name b.asked refused)
    nothing_written Output (inr (inr b)) = absurd (replay_not_refused b.options name b.asked refused)

-- ---- the settings of a replay

between : (o : Option ℕ) (n : ℕ) → option_and_then (if_between 0 MAX_COUNT) o ≡ Some n → n ≤ MAX_COUNT
between None n e = absurd cc
between (Some m) n e =
    let is = cond_some _ _ _ e in
    let same : m ≡ n = is.1 in
    let test : is_between 0 MAX_COUNT m ≡ true = is.0 in
    let within : m ≤ MAX_COUNT = grind (arith, nat_tests) in
    omega (arith, same, within)

counted : (text : Option (List ℕ)) (n : ℕ) → number_in 0 MAX_COUNT 0 text ≡ Some n → n ≤ MAX_COUNT
counted None n e = let z : 0 ≡ n = cc in omega (arith, z)
counted (Some text) n e = between (number_said text) n e

-- serials begin within their limit
pub serial_counted : (given : Given) (n : ℕ) → value_in given Table.serial ≡ Some n → n ≤ MAX_COUNT
serial_counted given n e = counted (given (codes "serial")) n e

-- ---- a bad line

module _ (p : Program) (is : IsAskedByLine p) (words : List Text) (input : Option (List ℕ)) (bad : AskBadLine p words input) where
  told : (text : List ℕ) → IfSome input (λ bytes. text ≡ bytes) → text ≡ bad.text
  told text h = subst (λ (i : Option (List ℕ)). IfSome i (λ bytes. text ≡ bytes)) bad.told h

  not_read : (r : p.Replay) (steps : List NumberedStep) → p.AskReplay words r → GivesSteps (p.config_of r) input steps → ⊥
  not_read r steps asked given =
      let line = bad.bad r asked in
      let said : Ok steps ≡ Err line.0 = sym given.said ∙ ap (steps_of (p.config_of r).lps (p.config_of r).workers) (told given.text given.given.told) ∙ line.1 in
      absurd cc

  no_help : AskHelpOf p.line.app words → ⊥
  no_help h = none_among kind.DisplayHelp (fault_of p.line.app words) (is.replay words bad.options bad.asked).0.accepted h

  no_run : (r : p.Run) → p.AskRun words r → ⊥
  no_run r asked = run_or_replay p.line.app words (is.run words r asked).0 (is.replay words bad.options bad.asked).0

  module _ (old new : Option (List ℕ)) where
    -- a text with a bad line is never replayed
    pub bad_not_done : IsDoneBy p words input old new → ⊥
    bad_not_done (inl h) = no_help h.asked
    bad_not_done (inr (inl h)) = no_run h.options h.asked
    bad_not_done (inr (inr h)) = not_read h.options h.replayed.steps h.asked h.replayed.given

    -- and nothing is written for it
    pub bad_nothing_written : (fault : Fault) → EndsWith p words fault input old new → Keeps old new
    bad_nothing_written Memory (inl h) = h
    bad_nothing_written Memory (inr (inl b)) = absurd (no_run b.options b.asked)
    bad_nothing_written Memory (inr (inr (inl b))) = absurd (no_run b.options b.asked)
    bad_nothing_written Memory (inr (inr (inr b))) = absurd (not_read b.options b.written.steps b.asked b.written.given)
    bad_nothing_written NotLawful h = absurd h
    bad_nothing_written Busy b = absurd (no_run b.part.options b.part.asked)
    bad_nothing_written Closed h = absurd h
    bad_nothing_written Exhausted (inl b) = absurd (no_run b.options b.asked)
    bad_nothing_written Exhausted (inr (inl b)) = absurd (no_run b.options b.asked)
    bad_nothing_written Exhausted (inr (inr h)) = h.stopped.kept
    bad_nothing_written TurnsSpent b = absurd (no_run b.options b.asked)
    bad_nothing_written (BadOption name) (inl h) = h.kept
    bad_nothing_written (BadOption name) (inr h) = h.kept
    bad_nothing_written (BadStep line) h = h.stopped.kept
    bad_nothing_written Output (inl b) = absurd (no_help b.asked)
    bad_nothing_written Output (inr (inl b)) = absurd (no_run b.options b.asked)
    bad_nothing_written Output (inr (inr b)) = absurd (not_read b.options b.begun.steps b.asked b.begun.given)
