-- The final values of a worker whose floor is the end of the run, and of all workers.
use Rattle.std.proofs.Common.{◌≡◌, ℕ, List, ◌++◌, refl, sym, ◌∙◌, ap, arith, Option, Some, None, slice_get}
use Rattle.std.specs.List.{range_with_len}
use Rattle.std.specs.Option.{option_map}
use Rattle.std.specs.Prelude.{IfSome}
use Rattle.vt_key.specs.promise.Times.{TimeAtMost}
use Rattle.vt_model.specs.declared.settings.Config.{Config}
use Rattle.vt_model.specs.promise.Handler.{Handlers}
use Rattle.vt_model.specs.promise.Histories.{IsLawful}
use Rattle.vt_model.specs.promise.Settings.{end_of}
use Rattle.vt_model.specs.promise.Simulation.{Simulation, simulation_of}
use Rattle.vt_steps.specs.declared.step.Step.{Step}
use Rattle.vt_steps.specs.inside.Cells.{book_cell, in_book}
use Rattle.vt_steps.specs.inside.Finals.{final_value, worker_finals, part_values}
use Rattle.vt_steps.specs.inside.Marked.{unmarked, shown}
use Rattle.vt_steps.specs.promise.Next.{reached}
use Rattle.vt_steps.specs.promise.World.{World, opening_world, process_at, process_count}
use Rattle.vt_steps.proofs.history.FinalValues.{quiet-at_end, quiet-values}
use Rattle.vt_steps.proofs.steps.LocalLeads.{local-does}
use Rattle.vt_steps.proofs.lists.Indices.{get-map, get-range}
use Rattle.vt_kernel.specs.inside.Held.{HeldWorker}
use Rattle.vt_places.specs.declared.view.View.{View}
use Rattle.vt_places.specs.inside.Calls.{IsShown, Reaches}
use Rattle.vt_steps.proofs.steps.MemoryLemmas.{run-append}

module _ {S P K : Type 0} (handlers : Handlers S P K) (config : Config) (lawful : IsLawful (simulation_of handlers config)) where
  -- what is made of the states of a kernel whose floor is the end are the final values of its worker
  pub finals-right : (v : View P) (k : HeldWorker S P K) (r : Reaches handlers config v k) → IsShown (simulation_of handlers config) v → TimeAtMost (end_of config) k.floor
      → part_values (simulation_of handlers k.config) k.worker r.part ≡ worker_finals (simulation_of handlers config) v.worker
  finals-right v k r known end =
      let sim = simulation_of handlers config in
      let steps : List Step = unmarked known.log ++ r.steps in
      let there = (local-does sim v.worker (shown sim known.log) book_cell r.steps v.part r.part (in_book (shown sim known.log).book) r.led known.part refl).part in
      let at : slice_get (reached sim 0 steps).parts v.worker ≡ Some r.part = ap (λ (w : World P). slice_get w.parts v.worker) (run-append sim (opening_world sim 0) (unmarked known.log) r.steps) ∙ there in
      let floor = r.stands.floor in
      let quiet = quiet-at_end sim lawful 0 steps v.worker r.part at (omega (arith, floor, end)) in
      ap (λ (c : Config). part_values (simulation_of handlers c) k.worker r.part) r.config_is
      ∙ ap (λ w. part_values sim w r.part) r.worker
      ∙ quiet-values sim lawful 0 steps quiet v.worker r.part at

module _ {S P : Type 0} (sim : Simulation S P) where
  -- the final value at an index of a worker is that of the process there
  pub final-at : (w place value : ℕ) (values : List ℕ) → values ≡ worker_finals sim w → slice_get values place ≡ Some value → value ≡ final_value sim (process_at sim w place)
  final-at w place value values are at =
      let from = get-map (λ i. final_value sim (process_at sim w i)) (range_with_len 0 (process_count sim w)) place value (ap (λ l. slice_get l place) (sym are) ∙ at) in
      let which = (get-range 0 (process_count sim w) place from.0 from.1).0 in
      let same : from.0 ≡ place = omega (arith, which) in
      from.2 ∙ ap (λ i. final_value sim (process_at sim w i)) same

-- values that are there are those that were wanted
pub finals-told : {X : Type 0} (items : X → List ℕ) (o : Option X) (a b : List ℕ) → a ≡ b → IfSome o (λ x. items x ≡ a) → IfSome (option_map items o) (λ values. values ≡ b)
finals-told items None a b same h = tt
finals-told items (Some x) a b same h = h ∙ same

-- and a value that is there is right
pub finals-there : {X : Type 0} (items : X → List ℕ) (o : Option X) (x : X) (a : List ℕ) → o ≡ Some x → IfSome (option_map items o) (λ values. values ≡ a) → items x ≡ a
finals-there items None x a is h = absurd (let k : None ≡ Some x = is in cc)
finals-there items (Some y) x a is h =
    let k : Some y ≡ Some x = is in
    let same : y ≡ x = cc in
    ap items (sym same) ∙ h
