-- What a worker reports, by the part that it stands for.
use Rattle.std.proofs.Common.{◌≡◌, ℕ, ◌+◌, List, [], ◌∷◌, ◌++◌, map, refl, sym}
use Rattle.std.specs.List.{flat_map}
use Rattle.vt_key.specs.promise.Letters.{other_colour}
use Rattle.vt_key.specs.promise.Times.{earlier}
use Rattle.vt_key.specs.declared.letter.Letter.{Letter}
use Rattle.vt_key.specs.declared.letter.Mail.{Mail}
use Rattle.vt_model.specs.promise.Handler.{Handlers}
use Rattle.vt_model.specs.promise.Simulation.{Simulation, simulation_of}
use Rattle.vt_model.specs.promise.Settings.{end_of}
use Rattle.vt_steps.specs.promise.Letters.{least_time, count_of}
use Rattle.vt_steps.specs.promise.World.{LogicalProcess, Part, letters_in}
use Rattle.vt_steps.specs.promise.PartSteps.{report_sent, report_got, report_least}
use Rattle.vt_steps.specs.inside.StandsFor.{StandForProcesses}
use Rattle.vt_lp.specs.inside.Held.{HeldProcess, process_memory}
use Rattle.vt_kernel.specs.inside.Held.{HeldWorker, StandsFor}
use Rattle.vt_kernel.specs.inside.Guards.{held_letters}

-- what a process has
abbrev pub kept_letters : {S P K : Type 0} → HeldProcess S P K → List (Letter P)
kept_letters held = held.pending ++ held.waiting

module _ {S P K : Type 0} (handlers : Handlers S P K) where
  -- what the processes of a part have is what is kept of them
  pub same-kept : (sim : Simulation S P) (w index : ℕ) (held : List (HeldProcess S P K)) (processes : List (LogicalProcess P)) →
      StandForProcesses sim w index (map (process_memory handlers) held) processes →
      flat_map (λ (q : LogicalProcess P). q.pending ++ q.waiting) processes ≡ flat_map kept_letters held
  same-kept sim w index [] [] h = refl
  same-kept sim w index [] (q ∷ qs) h = absurd h
  same-kept sim w index (x ∷ xs) [] h = absurd h
  same-kept sim w index (x ∷ xs) (q ∷ qs) h = (λ j. (h.0.pending j ++ h.0.waiting j) ++ same-kept sim w (index + 1) xs qs h.1 j)

  pub same-letters : (held : HeldWorker S P K) (part : Part P) → StandsFor handlers held part → letters_in part ≡ held_letters held
  same-letters held part s =
      let kept = same-kept (simulation_of handlers held.config) held.worker 0 held.processes part.processes s.processes in
      (λ j. s.outbox j ++ map (λ (m : Mail P). m.letter) (s.arrived j) ++ kept j)

  pub same-report : (held : HeldWorker S P K) (part : Part P) → StandsFor handlers held part →
      (count_of held.sent (other_colour held.colour) ≡ report_sent part) × (count_of held.got (other_colour held.colour) ≡ report_got part)
      × (earlier held.red_minimum (least_time (end_of held.config) (held_letters held)) ≡ report_least (end_of held.config) part)
  same-report held part s =
      let letters = same-letters held part s in (
        (λ j. count_of (sym s.sent j) (other_colour (sym s.colour j))),
        (λ j. count_of (sym s.got j) (other_colour (sym s.colour j))),
        (λ j. earlier (sym s.red_minimum j) (least_time (end_of held.config) (sym letters j))),
      )
