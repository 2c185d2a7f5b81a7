-- What a call that does a step of a world owes: what it answers and leaves, and that the world keeps to itself.
use Rattle.std.proofs.Common.{◌≡◌, inl, List, length, refl, sym, ◌∙◌, ap, subst, Result, Ok, Err, IsErrAnd}
use Rattle.std.proofs.Math.Logic.{∥∥₁_map}
use Rattle.vt_key.specs.promise.Times.{Time}
use Rattle.vt_key.specs.declared.letter.Mail.{Mail}
use Rattle.vt_key.specs.declared.fault.Fault.{Fault}
use Rattle.vt_model.specs.promise.Handler.{Handlers}
use Rattle.vt_model.specs.promise.Simulation.{simulation_of}
use Rattle.vt_steps.specs.declared.step.Step.{Step}
use Rattle.vt_steps.specs.declared.step.Reply.{Reply}
use Rattle.vt_steps.specs.promise.World.{World, Board, Book}
use Rattle.vt_steps.specs.promise.Next.{next}
use Rattle.vt_steps.specs.inside.StandsFor.{GoesOn}
use Rattle.vt_steps.proofs.steps.MemoryLemmas.{still_reached}
use Rattle.vt_kernel.specs.inside.Held.{HeldWorker}
use Rattle.vt_kernel.specs.promise.Refusals.{PassesLimit, IsStepRefusal}
use Rattle.vt_world.specs.inside.Held.{HeldWorld, held_world, world_memory, StandsForWorld, IsHeldStepOf, AreWorkers, AreInboxes, IsWorldInside}

-- a refusal that is handed on
pub step-handed : {M S P K : Type 0} (meaning : M → Handlers S P K) {held new : HeldWorld M S P K} {step : Step} {fault : Fault} (result : Result Reply Fault) → IsErrAnd result (λ e. e ≡ fault)
    → IsHeldStepOf (meaning held.model) step held new (Err fault) → IsHeldStepOf (meaning held.model) step held new result
step-handed meaning (Ok reply) is s = absurd is
step-handed meaning {held} {new} {step} (Err e) is s = subst (λ f. IsHeldStepOf (meaning held.model) step held new (Err f)) (sym is) s

module _ {M S P K : Type 0} (meaning : M → Handlers S P K) {held seen : HeldWorld M S P K} (seen_is : held ≡ seen) where
  -- a step is done
  pub step-done : (new : HeldWorld M S P K) (step : Step) (reply : Reply)
      → GoesOn (simulation_of (meaning held.model) held.config) step (Ok reply) (world_memory (meaning held.model) held) (world_memory (meaning held.model) new)
      → new.model ≡ held.model → new.config ≡ held.config
      → ((world : World P) → StandsForWorld (meaning held.model) held world → PassesLimit (simulation_of (meaning held.model) held.config) step (next (simulation_of (meaning held.model) held.config) world step).world → ⊥)
      → IsHeldStepOf (meaning seen.model) step seen new (Ok reply)
  step-done new step reply goes same_model same_config few =
      subst (λ (v : HeldWorld M S P K). IsHeldStepOf (meaning v.model) step v new (Ok reply)) seen_is
      (record {
        done = goes;
        within = few;
        refused = λ world h. tt;
        unchanged = tt;
        same_model = same_model;
        same_config = same_config;
      })

  -- a step is refused, and why
  pub step-refused : (new : HeldWorld M S P K) (step : Step) (fault : Fault) (result : Result Reply Fault) → IsErrAnd result (λ e. e ≡ fault) → new ≡ held
      → ((world : World P) → StandsForWorld (meaning held.model) held world → IsStepRefusal (simulation_of (meaning held.model) held.config) step world fault)
      → IsHeldStepOf (meaning seen.model) step seen new result
  step-refused new step fault result is same why =
      step-handed meaning result is
      (subst (λ (v : HeldWorld M S P K). IsHeldStepOf (meaning v.model) step v new (Err fault)) seen_is
      (record {
        done = tt;
        within = λ world h. tt;
        refused = why;
        unchanged = same;
        same_model = ap (λ (v : HeldWorld M S P K). v.model) same;
        same_config = ap (λ (v : HeldWorld M S P K). v.config) same;
      }))

  -- a step is refused as the definitions refuse it
  pub step-unlawful : (new : HeldWorld M S P K) (step : Step) (fault : Fault) (result : Result Reply Fault) → IsErrAnd result (λ e. e ≡ fault) → new ≡ held
      → GoesOn (simulation_of (meaning held.model) held.config) step (Err fault) (world_memory (meaning held.model) held) (world_memory (meaning held.model) held)
      → IsHeldStepOf (meaning seen.model) step seen new result
  step-unlawful new step fault result is same goes = step-refused new step fault result is same (λ world h. inl (goes world h).0)

  -- a step is refused before anything was changed
  pub step-left : (step : Step) (fault : Fault)
      → GoesOn (simulation_of (meaning held.model) held.config) step (Err fault) (world_memory (meaning held.model) held) (world_memory (meaning held.model) held)
      → IsHeldStepOf (meaning seen.model) step seen seen (Err fault)
  step-left step fault goes = step-unlawful seen step fault (Err fault) refl (sym seen_is) goes

-- ---- what a world keeps to, after a step

module _ {M S P K : Type 0} {handlers : Handlers S P K} {held : HeldWorld M S P K} {board_end book_end : Time} (inside : IsWorldInside handlers held board_end book_end) where
  pub inside-stepped : (step : Step) (reply : Reply) (workers : List (HeldWorker S P K)) (inboxes : List (List (Mail P))) (board : Board) (book : Book) {new_board_end new_book_end : Time}
      → length workers ≡ length held.workers → AreWorkers held.config 0 workers → length inboxes ≡ length held.inboxes → AreInboxes held.config 0 inboxes
      → new_board_end ≡ board_end → new_book_end ≡ book_end
      → GoesOn (simulation_of handlers held.config) step (Ok reply) (world_memory handlers held) (world_memory handlers (held_world held.model held.config workers inboxes board book))
      → IsWorldInside handlers (held_world held.model held.config workers inboxes board book) new_board_end new_book_end
  inside-stepped step reply workers inboxes board book many are boxes own same_board same_book goes = record {
    all_workers = many ∙ inside.all_workers;
    own_workers = are;
    all_inboxes = boxes ∙ inside.all_inboxes;
    own_inboxes = own;
    same_board_end = same_board ∙ inside.same_board_end;
    same_book_end = same_book ∙ inside.same_book_end;
    is_reached = ∥∥₁_map inside.is_reached (λ x. (
      x.0,
      still_reached (simulation_of handlers held.config) x.0 step (Ok reply) (world_memory handlers held)
          (world_memory handlers (held_world held.model held.config workers inboxes board book)) goes x.1,
    ));
  }

  -- nothing has changed
  pub inside-same : {new : HeldWorld M S P K} {new_board_end new_book_end : Time} → new ≡ held → new_board_end ≡ board_end → new_book_end ≡ book_end
      → IsWorldInside handlers new new_board_end new_book_end
  inside-same {new} {new_board_end} {new_book_end} same same_board same_book =
      subst (λ (v : HeldWorld M S P K). IsWorldInside handlers v new_board_end new_book_end) (sym same)
      (subst (λ e. IsWorldInside handlers held e new_book_end) (sym same_board) (subst (λ e. IsWorldInside handlers held board_end e) (sym same_book) inside))
